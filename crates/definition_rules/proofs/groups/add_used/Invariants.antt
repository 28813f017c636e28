use Rattle.std.proofs.Common.{take}
use Rattle.definition_rules.proofs.Walking.{Named}
use Rattle.definition_rules.proofs.groups.add_used.Given as goal

abbrev pub invariant-loop-within : goal.invariant-loop-within
invariant-loop-within l = Named l.terms l.fn.names.keys (take l.within-index l.within-items) l.names.keys
