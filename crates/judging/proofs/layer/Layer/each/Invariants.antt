use Rattle.mo_types.specs.Sub.{Each}
use Rattle.type_definitions.specs.Tables.{Within}
use Rattle.judging.specs.Parts.{Ready}
use Rattle.judging.proofs.ListParts.{Judging}
use Rattle.judging.proofs.layer.Layer.each.Given as goal

abbrev pub invariant-loop-i : goal.invariant-loop-i
invariant-loop-i g l = record {
  judging : Judging l.self.site.place l.parts l.wanted l.initial.scopes l.initial.checker l.i l.made l.scopes l.checker;
  ready : Ready l.checker l.scopes l.self.site;
  wanted : Each (Within l.checker.types.forms) l.wanted;
}
