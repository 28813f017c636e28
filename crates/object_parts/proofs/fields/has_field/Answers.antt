use Rattle.std.proofs.Common.{◌∙◌, List, ap, ℕ}
use Rattle.std.specs.Str.{bytes_eq}
use Rattle.object_parts.proofs.WrittenFields.{look_on, not_there, there}
use Rattle.object_parts.proofs.fields.has_field.Goals as goal

pub returns-then-is_label : goal.returns-then-is_label
returns-then-is_label c =
    there c.args.label.now c.args.written.now c.loop-field.field-index c.field-item.result c.loop-field-test.true c.field-item.is c.is_label.result
    (c.is_label.ensures ∙ ap (λ (y : List ℕ). bytes_eq y c.args.label.now) c.as_slice.ensures) c.loop-field.invariant c.if-is_label.true

pub loop-field-preserved : goal.loop-field-preserved
loop-field-preserved c =
    look_on c.args.label.now c.args.written.now c.loop-field.field-index c.field-item.result c.loop-field-test.true c.field-item.is c.is_label.result
    (c.is_label.ensures ∙ ap (λ (y : List ℕ). bytes_eq y c.args.label.now) c.as_slice.ensures) c.loop-field.invariant c.if-is_label.false

pub returns : goal.returns
returns c = not_there c.args.label.now c.args.written.now c.loop-field.field-index c.loop-field.invariant c.loop-field-test.false
