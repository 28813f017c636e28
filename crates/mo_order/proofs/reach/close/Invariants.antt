use Rattle.mo_scopes.specs.Findings.{Texts}
use Rattle.mo_order.specs.Reach.{Reached}
use Rattle.mo_order.proofs.reach.close.Given as goal

abbrev pub invariant-loop-next : goal.invariant-loop-next
invariant-loop-next l = (targets : Texts) → Reached l.steps targets l.initial.late l.from → Reached l.steps targets l.late l.next
