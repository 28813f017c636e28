use Rattle.std.proofs.Common.{IfSome, length}
use Rattle.type_definitions.specs.Tables.{Within}
use Rattle.judging.specs.Parts.{Ready}
use Rattle.judging.proofs.ListParts.{Judging}
use Rattle.array_rules.proofs.AllElements.{for_each}
use Rattle.array_rules.proofs.elements.all.Given as goal

abbrev pub invariant-loop-i : goal.invariant-loop-i
invariant-loop-i g l = record {
  judging : Judging l.layer.site.place l.parts (for_each l.wanted (length l.parts)) l.initial.scopes l.initial.checker l.i l.made l.scopes l.checker;
  ready : Ready l.checker l.scopes l.layer.site;
  wanted : IfSome l.wanted (Within l.checker.types.forms);
}
