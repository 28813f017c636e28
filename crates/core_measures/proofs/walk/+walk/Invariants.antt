use Rattle.std.proofs.Common.{◌≡◌, ◌≤◌, length, drop, map}
use Rattle.core_ir.specs.Expressions.{Exp}
use Rattle.core_ir.specs.View.{binding, block, exps, expression}
use Rattle.core_measures.specs.Measures.{measures, measures_all}
use Rattle.core_measures.specs.Sizes.{size_of}
use Rattle.core_measures.proofs.walk.+walk.Given as goal

abbrev pub invariant-arguments_measures-loop-number : goal.invariant-arguments_measures-loop-number
invariant-arguments_measures-loop-number l = record {
  within : l.number ≤ length l.arguments;
  is : l.all ≡ measures_all (size_of l.sizes) (exps (map expression (drop l.number l.arguments)));
}

abbrev pub decreases-arguments_measures-loop-number : goal.decreases-arguments_measures-loop-number
decreases-arguments_measures-loop-number l = l.number

abbrev pub invariant-bindings_measures-loop-number : goal.invariant-bindings_measures-loop-number
invariant-bindings_measures-loop-number l = record {
  within : l.number ≤ length l.bindings;
  is : (e : Exp) → l.fn.inside ≡ measures (size_of l.sizes) e → l.all ≡ measures (size_of l.sizes) (block (map binding (drop l.number l.bindings)) e);
}

abbrev pub decreases-bindings_measures-loop-number : goal.decreases-bindings_measures-loop-number
decreases-bindings_measures-loop-number l = l.number
