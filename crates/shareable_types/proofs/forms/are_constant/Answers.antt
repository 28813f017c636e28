use Rattle.shareable_types.proofs.Deciding.{constant_next, variable_at}
use Rattle.shareable_types.proofs.forms.are_constant.Goals as goal

pub returns-then-field : goal.returns-then-field
returns-then-field c = variable_at c.args.fields.now c.loop-field.field-index c.field-item.result c.loop-field-test.true c.field-item.is c.if-field.true

pub loop-field-preserved : goal.loop-field-preserved
loop-field-preserved c = constant_next c.args.fields.now c.loop-field.field-index c.field-item.result c.loop-field-test.true c.field-item.is c.loop-field.invariant c.if-field.false
