use Rattle.type_definitions.proofs.PutIn.{if_ok}
use Rattle.type_definitions.proofs.Meanings.{each_within}
use Rattle.instance_rules.proofs.Bounding.{bound_put}
use Rattle.instance_rules.proofs.bounds.put_bound.Goals as goal

pub put_with-requires-clause-arguments : goal.put_with-requires-clause-arguments
put_with-requires-clause-arguments c = each_within c.args.types.now.forms c.bound_of.new.types.forms c.args.arguments.now.arguments.now c.in_ok-bound.ensures.goes.forms c.requires.arguments

pub returns : goal.returns
returns c = if_ok c.put_with.result _ _ c.put_with.ensures
    (λ made y. bound_put c.args.arguments.now.parameters.now c.args.arguments.now.arguments.now c.args.types.now c.bound_of.new.types c.put_with.new.types c.args.parameter c.in_ok-bound.bound made c.in_ok-bound.ensures y)
