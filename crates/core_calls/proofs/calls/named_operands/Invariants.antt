use Rattle.std.proofs.Common.{◌≡◌, drop, length, map}
use Rattle.typed_tree.specs.View.{exps, expression}
use Rattle.elaboration.specs.Elaboration.{elaborate_names}
use Rattle.core_parts.proofs.Going.{Operands}
use Rattle.core_calls.proofs.calls.named_operands.Given as goal

abbrev pub invariant-loop-operand : goal.invariant-loop-operand
invariant-loop-operand g l = record {
  made : Operands (elaborate_names l.initial.scope (length l.initial.groups) (exps (map expression l.typed))) (elaborate_names l.scope (length l.groups) (exps (map expression (drop l.operand-index l.typed)))) l.initial.groups l.groups l.made.items;
  places : l.scope.places ≡ l.initial.scope.places;
  exits : l.scope.exits ≡ l.initial.scope.exits;
}
