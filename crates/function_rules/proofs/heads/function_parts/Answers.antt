use Rattle.std.proofs.Common.{Some, length}
use Rattle.judging.proofs.NodeParts.{part_reached, parts_reached}
use Rattle.function_rules.specs.Locals.{only}
use Rattle.function_rules.proofs.Found.{local_found, no_local, parameters_within}
use Rattle.function_rules.proofs.heads.function_parts.Goals as goal

pub local_parts-requires : goal.local_parts-requires
local_parts-requires c = parameters_within (length c.args.types.now.reached) c.in-Some.node.now c.in-Some-local_at.parameters.now c.in-Some-local_at.results.now c.in-Some-local_at.ensures c.in-Some.ensures.there.parts

pub returns-in_ok-local_parts-in-Some-local_at-clause-is : goal.returns-in_ok-local_parts-in-Some-local_at-clause-is
returns-in_ok-local_parts-in-Some-local_at-clause-is c =
    local_found c.args.types.now c.args.id c.in-Some.node.now c.in-Some.ensures.there c.in-Some-local_at.parameters.now c.in-Some-local_at.results.now c.in_ok-local_parts-in-Some-local_at.field-0 c.in-Some-local_at.ensures
    c.in_ok-local_parts-in-Some-local_at.ensures.parameters c.in_ok-local_parts-in-Some-local_at.ensures.of

pub returns-in_ok-local_parts-in-Some-local_at-clause-parameters : goal.returns-in_ok-local_parts-in-Some-local_at-clause-parameters
returns-in_ok-local_parts-in-Some-local_at-clause-parameters c =
    parts_reached c.args.types.now c.in-Some-local_at.parameters.now c.in_ok-local_parts-in-Some-local_at.field-0.0.items c.in_ok-local_parts-in-Some-local_at.ensures.parameters

pub returns-in_ok-local_parts-in-Some-local_at-clause-of : goal.returns-in_ok-local_parts-in-Some-local_at-clause-of
returns-in_ok-local_parts-in-Some-local_at-clause-of c =
    part_reached c.args.types.now (only c.in-Some-local_at.results.now) (Some c.in_ok-local_parts-in-Some-local_at.field-0.1) c.in_ok-local_parts-in-Some-local_at.ensures.of

pub returns-in-None-local_at-clause-is : goal.returns-in-None-local_at-clause-is
returns-in-None-local_at-clause-is c = no_local c.args.types.now c.args.id c.in-Some.node.now c.in-Some.ensures.there c.in-None-local_at.ensures

pub returns-in-None-clause-is : goal.returns-in-None-clause-is
returns-in-None-clause-is c = absurd (c.in-None.ensures.missing c.requires.reached)
