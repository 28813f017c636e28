use Rattle.std.proofs.Common.{◌≡◌, true, false, Some, get_or, sym, ap, ◌∙◌, add-one}
use Rattle.std.specs.Str.{bytes_eq}
use Rattle.mo_types.specs.declared.node.Field.{Field}
use Rattle.mo_types.specs.declared.node.TypeId.{TypeId}
use Rattle.mo_values.specs.Shapes.{Bytes}
use Rattle.arena_messages.proofs.Labels.{type_met, type_none, type_passed}
use Rattle.arena_messages.proofs.fields.type_under.Goals as goal

pub returns-then-same_bytes : goal.returns-then-same_bytes
returns-then-same_bytes c =
    let same : bytes_eq c.args.label.now (get_or c.args.fields.now c.loop-field.field-index c.field-item.result).label ≡ true =
    ap (λ (m : Bytes). bytes_eq c.args.label.now m) (sym (c.as_slice.ensures ∙ ap (λ (f : Field TypeId). f.label) c.field-item.is)) ∙ sym c.if-same_bytes.ensures in
    ap (λ (f : Field TypeId). Some f.part) c.field-item.is
    ∙ sym (type_met c.args.label.now c.args.fields.now c.loop-field.field-index c.field-item.result c.loop-field-test.true same)
    ∙ c.loop-field.invariant

pub loop-field-preserved : goal.loop-field-preserved
loop-field-preserved c =
    let other : bytes_eq c.args.label.now (get_or c.args.fields.now c.loop-field.field-index c.field-item.result).label ≡ false =
    ap (λ (m : Bytes). bytes_eq c.args.label.now m) (sym (c.as_slice.ensures ∙ ap (λ (f : Field TypeId). f.label) c.field-item.is)) ∙ sym c.if-same_bytes.ensures in
    rw add-one (sym (type_passed c.args.label.now c.args.fields.now c.loop-field.field-index c.field-item.result c.loop-field-test.true other) ∙ c.loop-field.invariant)

pub returns : goal.returns
returns c = sym (type_none c.args.label.now c.args.fields.now c.loop-field.field-index c.loop-field-test.false) ∙ c.loop-field.invariant
