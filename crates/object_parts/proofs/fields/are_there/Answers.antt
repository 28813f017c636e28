use Rattle.std.proofs.Common.{◌∙◌, List, ap, ℕ}
use Rattle.typing_rules.specs.Expressions.{has_field}
use Rattle.object_parts.proofs.WrittenFields.{all_are, one_is_there, one_lacks, written_fields}
use Rattle.object_parts.proofs.fields.are_there.Goals as goal

pub returns-then-not-has_field : goal.returns-then-not-has_field
returns-then-not-has_field c at =
    one_lacks c.args.written.now at c.args.wanted.now c.loop-field.field-index c.field-item.result c.loop-field-test.true c.field-item.is c.has_field.result
    (c.has_field.ensures ∙ ap (λ (y : List ℕ). has_field y (written_fields c.args.written.now)) c.as_slice.ensures) (c.loop-field.invariant at) c.if-not-has_field.true

pub loop-field-preserved : goal.loop-field-preserved
loop-field-preserved c at =
    one_is_there c.args.written.now at c.args.wanted.now c.loop-field.field-index c.field-item.result c.loop-field-test.true c.field-item.is c.has_field.result
    (c.has_field.ensures ∙ ap (λ (y : List ℕ). has_field y (written_fields c.args.written.now)) c.as_slice.ensures) (c.loop-field.invariant at) c.if-not-has_field.false

pub returns : goal.returns
returns c at = all_are c.args.written.now at c.args.wanted.now c.loop-field.field-index (c.loop-field.invariant at) c.loop-field-test.false
