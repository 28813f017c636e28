use Rattle.type_definitions.specs.Tables.{Makes}
use Rattle.type_definitions.specs.Unfolding.{LeadsTo}
use Rattle.type_definitions.proofs.unfolding.unfold.Given as goal

abbrev pub invariant-loop-turn : goal.invariant-loop-turn
invariant-loop-turn l = Makes l.initial.terms (LeadsTo l.definitions l.fn.id l.id) l.id l.terms
