use Rattle.definition_rules.proofs.Promoting.{Followed}
use Rattle.definition_rules.proofs.bounds.promote.Given as goal

abbrev pub invariant-loop-turn : goal.invariant-loop-turn
invariant-loop-turn l = Followed l.initial.types l.fn.id l._turn l.id l.types
