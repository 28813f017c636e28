use Rattle.std.proofs.Common.{◌≡◌, ◌≤◌, length, drop, map}
use Rattle.core_ir.specs.Expressions.{Exp}
use Rattle.core_ir.specs.FormedExpressions.{width, width_all}
use Rattle.core_ir.specs.View.{binding, block, exps, expression}
use Rattle.suspend_split.specs.Makes.{size_of}
use Rattle.suspend_split.proofs.width.+width.Given as goal

abbrev pub invariant-arguments_width-loop-number : goal.invariant-arguments_width-loop-number
invariant-arguments_width-loop-number l = record {
  within : l.number ≤ length l.arguments;
  is : l.width ≡ width_all (size_of l.sizes) (exps (map expression (drop l.number l.arguments)));
}

abbrev pub decreases-arguments_width-loop-number : goal.decreases-arguments_width-loop-number
decreases-arguments_width-loop-number l = l.number

abbrev pub invariant-bindings_width-loop-number : goal.invariant-bindings_width-loop-number
invariant-bindings_width-loop-number l = record {
  within : l.number ≤ length l.bindings;
  is : (e : Exp) → l.fn.inside ≡ width (size_of l.sizes) e → l.width ≡ width (size_of l.sizes) (block (map binding (drop l.number l.bindings)) e);
}

abbrev pub decreases-bindings_width-loop-number : goal.decreases-bindings_width-loop-number
decreases-bindings_width-loop-number l = l.number
