use Rattle.judging.specs.Parts.{Ready}
use Rattle.order_rules.proofs.InOrder.{Ordering}
use Rattle.order_rules.proofs.ordering.judge_order.Given as goal

abbrev pub invariant-loop-i : goal.invariant-loop-i
invariant-loop-i g l = record {
  ordering : Ordering l.lists.layer.site l.value l.list l.initial.scopes l.initial.checker l.i l.made l.before l.scopes l.checker;
  ready : Ready l.checker l.scopes l.lists.layer.site;
}
