use Rattle.type_definitions.proofs.Leading.{WithinRounds}
use Rattle.type_definitions.proofs.chains.outcomes.Given as goal

abbrev pub invariant-loop-turn : goal.invariant-loop-turn
invariant-loop-turn l = WithinRounds l.terms l.definitions l._turn l.known.items
