use Rattle.std.proofs.Common.{◌+◌, ◌*◌, take}
use Rattle.type_definitions.specs.Tables.{MakesParts}
use Rattle.type_definitions.specs.Putting.{ArePut}
use Rattle.type_definitions.proofs.put.+put.Given as goal

abbrev pub decreases-put_in_part : goal.decreases-put_in_part
decreases-put_in_part l = 2 * l.depth

abbrev pub decreases-put_in_parts : goal.decreases-put_in_parts
decreases-put_in_parts l = 2 * l.depth + 1

abbrev pub invariant-put_in_parts-loop-part : goal.invariant-put_in_parts-loop-part
invariant-put_in_parts-loop-part l =
    MakesParts l.initial.terms (take l.part-index l.parts) (ArePut l.arguments.parameters.now l.arguments.arguments.now l.arguments.others_stay (take l.part-index l.parts) l.made.items) l.made.items l.terms
