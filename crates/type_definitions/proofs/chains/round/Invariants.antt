use Rattle.std.proofs.Common.{take}
use Rattle.type_definitions.specs.Outcomes.{FollowEach}
use Rattle.type_definitions.proofs.chains.round.Given as goal

abbrev pub invariant-loop-definition : goal.invariant-loop-definition
invariant-loop-definition l = FollowEach l.terms l.definitions l.outcomes (take l.definition-index l.definition-items) l.made.items
