use Rattle.std.proofs.Common.{◌≡◌, map}
use Rattle.core_ir.specs.Expressions.{Exp}
use Rattle.core_ir.specs.View.{exps, expression}
use Rattle.elaboration.specs.Members.{bind_all}
use Rattle.core_layers.specs.Layers.{layered}
use Rattle.core_members.proofs.operands.bound.Given as goal

abbrev pub invariant-loop-operand : goal.invariant-loop-operand
invariant-loop-operand l = (fails e : Exp) → layered l.made.items fails e ≡ bind_all (exps (map expression l.yielded)) e
