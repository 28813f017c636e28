use Rattle.std.proofs.Common.{◌≡◌, length}
use Rattle.core_ir.specs.View.{expression}
use Rattle.core_layers.specs.Layers.{layered, pending, seen_fails}
use Rattle.core_layers.proofs.nesting.around.Given as goal

abbrev pub decreases-loop-outer : goal.decreases-loop-outer
decreases-loop-outer l = length l.rest.items

-- what is left is around what is there
abbrev pub invariant-loop-outer : goal.invariant-loop-outer
invariant-loop-outer l = layered l.rest.items (seen_fails l.fails) (pending l.made) ≡ layered l.fn.layers.items (seen_fails l.fails) (expression l.fn.inner)
