use Rattle.judging.proofs.Steps.{reached_within}
use Rattle.application_rules.proofs.FunctionParts.{function_found}
use Rattle.application_rules.proofs.functions.function_parts.Goals as goal

pub head-requires-clause-within : goal.head-requires-clause-within
head-requires-clause-within c = reached_within c.args.types.now c.promoted-last.result c.requires.kept c.promoted-last.ensures.reached

pub returns : goal.returns
returns c =
    function_found c.args.types.now c.head.new.self c.args.id c.promoted-last.result c.in_ok-node.node c.function_at.result c.promoted-last.ensures.is c.in_ok-node.ensures.kept c.in_ok-node.ensures.goes c.in_ok-node.ensures.stands
    c.in_ok-node.ensures.made c.function_at.ensures
