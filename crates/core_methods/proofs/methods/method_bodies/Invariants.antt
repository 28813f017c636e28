use Rattle.std.proofs.Common.{◌≡◌, drop, length, map}
use Rattle.typed_tree.specs.View.{group}
use Rattle.core_methods.specs.Behind.{method_function}
use Rattle.elaboration.specs.Elaboration.{elaborate_functions}
use Rattle.core_parts.proofs.Going.{Bodies}
use Rattle.core_methods.proofs.methods.method_bodies.Given as goal

abbrev pub invariant-loop-one : goal.invariant-loop-one
invariant-loop-one l = record {
  made : Bodies (elaborate_functions l.initial.scope (length l.initial.groups) (group (map method_function l.methods))) (elaborate_functions l.scope (length l.groups) (group (map method_function (drop l.one-index l.methods)))) l.initial.groups l.groups l.made;
  same : l.scope ≡ l.initial.scope;
}
