use Rattle.std.proofs.Common.{◌≡◌, true, false, get_or, sym, ap, ◌∙◌, add-one}
use Rattle.std.specs.Str.{bytes_eq}
use Rattle.mo_types.specs.declared.node.Field.{Field}
use Rattle.mo_types.specs.declared.node.TypeId.{TypeId}
use Rattle.mo_values.specs.Shapes.{Bytes}
use Rattle.arena_messages.proofs.Labels.{field_met, field_none, field_passed, place_by_label}
use Rattle.arena_messages.proofs.fields.has_field.Goals as goal

pub returns-then-same_bytes : goal.returns-then-same_bytes
returns-then-same_bytes c =
    let same : bytes_eq c.args.label.now (get_or c.args.fields.now c.loop-field.field-index c.field-item.result).label ≡ true =
    ap (λ (m : Bytes). bytes_eq c.args.label.now m) (sym (c.as_slice.ensures ∙ ap (λ (f : Field TypeId). f.label) c.field-item.is)) ∙ sym c.if-same_bytes.ensures in
    sym (field_met c.args.label.now c.args.fields.now c.loop-field.field-index c.field-item.result c.loop-field-test.true same) ∙ c.loop-field.invariant ∙ sym (place_by_label c.args.label.now c.args.fields.now 0)

pub loop-field-preserved : goal.loop-field-preserved
loop-field-preserved c =
    let other : bytes_eq c.args.label.now (get_or c.args.fields.now c.loop-field.field-index c.field-item.result).label ≡ false =
    ap (λ (m : Bytes). bytes_eq c.args.label.now m) (sym (c.as_slice.ensures ∙ ap (λ (f : Field TypeId). f.label) c.field-item.is)) ∙ sym c.if-same_bytes.ensures in
    rw add-one (sym (field_passed c.args.label.now c.args.fields.now c.loop-field.field-index c.field-item.result c.loop-field-test.true other) ∙ c.loop-field.invariant)

pub returns : goal.returns
returns c = sym (field_none c.args.label.now c.args.fields.now c.loop-field.field-index c.loop-field-test.false) ∙ c.loop-field.invariant ∙ sym (place_by_label c.args.label.now c.args.fields.now 0)
