use Rattle.std.proofs.Common.{◌+◌, ◌*◌, take}
use Rattle.type_scopes.specs.Scopes.{seen}
use Rattle.proper_types.specs.Passing.{Passed}
use Rattle.proper_types.specs.Rules.{done, each_part, each_proper}
use Rattle.proper_types.proofs.walk.+within.Given as goal

abbrev pub decreases-proper_within : goal.decreases-proper_within
decreases-proper_within l = 3 * l.depth

abbrev pub decreases-each_within : goal.decreases-each_within
decreases-each_within l = 3 * l.depth + 1

abbrev pub decreases-part_within : goal.decreases-part_within
decreases-part_within l = 3 * l.depth + 1

abbrev pub decreases-parts_within : goal.decreases-parts_within
decreases-parts_within l = 3 * l.depth + 2

abbrev pub decreases-function_within : goal.decreases-function_within
decreases-function_within l = 3 * l.depth + 2

abbrev pub invariant-each_within-loop-node : goal.invariant-each_within-loop-node
invariant-each_within-loop-node l = Passed (each_proper (seen l.scope) (take l.node-index l.nodes) l.initial.types.listed) l.initial.types l.types l.sharing (done tt)

abbrev pub invariant-parts_within-loop-field : goal.invariant-parts_within-loop-field
invariant-parts_within-loop-field l = Passed (each_part (seen l.scope) l.of_actor (take l.field-index l.fields) l.initial.types.listed) l.initial.types l.types l.sharing (done tt)
