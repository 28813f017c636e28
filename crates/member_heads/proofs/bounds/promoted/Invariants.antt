use Rattle.met_types.specs.States.{IsReached}
use Rattle.member_heads.proofs.Promoting.{Leads}
use Rattle.member_heads.proofs.bounds.promoted.Given as goal

abbrev pub invariant-loop-left : goal.invariant-loop-left
invariant-loop-left l = record {
  leads : Leads l.types l.fn.id l.left l.last;
  reached : IsReached l.types l.last;
}

abbrev pub decreases-loop-left : goal.decreases-loop-left
decreases-loop-left l = l.left
