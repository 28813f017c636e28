use Rattle.iteration_rules.proofs.ItemParts.{constant_is, constant_reached}
use Rattle.iteration_rules.proofs.items.constant_part.Goals as goal

pub returns-clause-is : goal.returns-clause-is
returns-clause-is c = constant_is c.args.types.now c.args.id c.args.label.now c.object_field.result c.unless_variable.result c.unless_variable.ensures c.object_field.ensures.is

pub returns-clause-reached : goal.returns-clause-reached
returns-clause-reached c = constant_reached c.args.types.now c.args.id c.args.label.now c.object_field.result c.unless_variable.result c.unless_variable.ensures c.object_field.ensures.reached
