use Rattle.std.proofs.Common.{◌≡◌, drop, length, map}
use Rattle.typed_tree.specs.View.{exps, expression}
use Rattle.elaboration.specs.Elaboration.{elaborate_operands}
use Rattle.core_parts.proofs.Going.{Operands}
use Rattle.core_parts.proofs.parts.Parts.operands.Given as goal

abbrev pub invariant-loop-operand : goal.invariant-loop-operand
invariant-loop-operand g l = record {
  made : Operands (elaborate_operands l.initial.scope (length l.initial.groups) (exps (map expression l.typed))) (elaborate_operands l.scope (length l.groups) (exps (map expression (drop l.operand-index l.typed)))) l.initial.groups l.groups l.made.items;
  same : l.scope ≡ l.initial.scope;
}
