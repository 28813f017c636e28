use Rattle.std.proofs.Common.{◌≡◌, map, length}
use Rattle.core_ir.specs.Expressions.{Exp}
use Rattle.core_ir.specs.View.{binding, block}
use Rattle.core_layers.specs.Layers.{held}
use Rattle.core_layers.proofs.nesting.in_order.Given as goal

abbrev pub decreases-loop-binding : goal.decreases-loop-binding
decreases-loop-binding l = length l.rest.items

-- what is there is around what is left
abbrev pub invariant-loop-binding : goal.invariant-loop-binding
invariant-loop-binding l = (e : Exp) → block (map binding l.made) (held l.rest.items e) ≡ held l.fn.bindings.items e
