use Rattle.std.proofs.Common.{take}
use Rattle.definition_rules.specs.Uses.{Adds}
use Rattle.definition_rules.proofs.groups.add_all.Given as goal

abbrev pub invariant-loop-id : goal.invariant-loop-id
invariant-loop-id l = Adds l.fn.found.keys (take l.id-index l.ids) l.found.keys
