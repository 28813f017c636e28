use Rattle.std.specs.Vec.Iter.{into_iter_items}
use Rattle.judging.specs.Parts.{Ready}
use Rattle.list_rules.proofs.InTurn.{Judging}
use Rattle.list_rules.proofs.bodies.judge_bodies.Given as goal

abbrev pub invariant-loop-i : goal.invariant-loop-i
invariant-loop-i g l = record {
  judging : Judging l.lists.layer.site.place l.list l.fn.made l.initial.scopes l.initial.checker l.i l.all (into_iter_items l.rest) l.scopes l.checker;
  ready : Ready l.checker l.scopes l.lists.layer.site;
}
