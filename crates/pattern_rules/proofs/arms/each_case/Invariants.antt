use Rattle.met_types.specs.States.{IsReached}
use Rattle.judging.specs.Parts.{Ready}
use Rattle.pattern_rules.proofs.Cases.{Judging}
use Rattle.pattern_rules.proofs.arms.each_case.Given as goal

abbrev pub invariant-loop-i : goal.invariant-loop-i
invariant-loop-i g l = record {
  judging : Judging l.layer.site l.kind l.cases l.initial.scopes l.initial.checker l.i l.made l.scopes l.checker;
  ready : Ready l.checker l.scopes l.layer.site;
  reached : IsReached l.checker.types l.kind;
}
