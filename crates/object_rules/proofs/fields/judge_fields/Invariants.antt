use Rattle.mo_types.specs.Sub.{Each}
use Rattle.met_types.specs.States.{IsReached}
use Rattle.judging.specs.Parts.{Ready}
use Rattle.object_rules.proofs.Fielding.{Judging}
use Rattle.object_rules.proofs.fields.judge_fields.Given as goal

abbrev pub invariant-loop-i : goal.invariant-loop-i
invariant-loop-i g l = record {
  judging : Judging l.layer.site.place l.wanted l.fields l.initial.scopes l.initial.checker l.i l.made l.kinds l.scopes l.checker;
  ready : Ready l.checker l.scopes l.layer.site;
  wanted : Each (λ f. IsReached l.checker.types f.part) l.wanted;
}
