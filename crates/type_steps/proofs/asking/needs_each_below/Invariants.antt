use Rattle.std.proofs.Common.{take}
use Rattle.value_scopes.specs.declared.scopes.Scopes.{Scopes}
use Rattle.judging.specs.Parts.{Sound}
use Rattle.type_steps.proofs.InTurn.{Done, asking, pairs, turns}
use Rattle.type_steps.proofs.asking.needs_each_below.Given as goal

abbrev pub invariant-loop-i : goal.invariant-loop-i
invariant-loop-i l = (c : Scopes) → Sound l.checker c → Done (turns (asking l.condition l.place) (take l.i (pairs l.lows l.highs))) c l.checker l.checker
