use Rattle.std.proofs.Common.{◌≡◌, drop, length, map}
use Rattle.typed_tree.specs.View.{case_view, cases}
use Rattle.elaboration.specs.Elaboration.{elaborate_cases}
use Rattle.core_parts.proofs.Going.{Around}
use Rattle.core_cases.proofs.cases.each_case.Given as goal

abbrev pub invariant-loop-case : goal.invariant-loop-case
invariant-loop-case g l = record {
  made : Around (elaborate_cases l.level l.initial.scope (length l.initial.groups) (cases (map case_view l.cases))) (elaborate_cases l.level l.scope (length l.groups) (cases (map case_view (drop l.case-index l.cases)))) l.initial.groups l.groups l.layers.items;
  places : l.scope.places ≡ l.initial.scope.places;
  exits : l.scope.exits ≡ l.initial.scope.exits;
}
