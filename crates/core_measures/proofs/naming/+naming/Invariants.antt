use Rattle.std.proofs.Common.{◌≡◌, ◌≤◌, ◌++◌, length, drop, map}
use Rattle.core_ir.specs.Outward.{outward_all}
use Rattle.core_ir.specs.View.{exps, expression}
use Rattle.core_measures.specs.Naming.{end_of, given_in}
use Rattle.core_measures.specs.Sizes.{size_of}
use Rattle.core_measures.proofs.naming.+naming.Given as goal

abbrev pub invariant-arguments_names-loop-argument : goal.invariant-arguments_names-loop-argument
invariant-arguments_names-loop-argument l =
    l.names ++ outward_all (size_of l.sizes) l.needs l.near (exps (map expression (drop l.argument-index l.arguments))) ≡ l.fn.names ++ outward_all (size_of l.sizes) l.needs l.near (exps (map expression l.arguments))

abbrev pub invariant-given_names-loop-number : goal.invariant-given_names-loop-number
invariant-given_names-loop-number l = record {
  within : l.number ≤ length l.bindings;
  end : end_of (size_of l.sizes) l.near (drop l.number l.bindings) ≡ l.end;
  names : l.names ≡ l.fn.names ++ given_in (size_of l.sizes) l.needs l.near (drop l.number l.bindings);
}

abbrev pub decreases-given_names-loop-number : goal.decreases-given_names-loop-number
decreases-given_names-loop-number l = l.number
