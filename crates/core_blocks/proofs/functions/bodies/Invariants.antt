use Rattle.std.proofs.Common.{◌≡◌, drop, length, map}
use Rattle.typed_tree.specs.View.{function, group}
use Rattle.elaboration.specs.Elaboration.{elaborate_functions}
use Rattle.core_parts.proofs.Going.{Bodies}
use Rattle.core_blocks.proofs.functions.bodies.Given as goal

abbrev pub invariant-loop-one : goal.invariant-loop-one
invariant-loop-one g l = record {
  made : Bodies (elaborate_functions l.initial.scope (length l.initial.groups) (group (map function l.functions))) (elaborate_functions l.scope (length l.groups) (group (map function (drop l.one-index l.functions)))) l.initial.groups l.groups l.made;
  same : l.scope ≡ l.initial.scope;
}
