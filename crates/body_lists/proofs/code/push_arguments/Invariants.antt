use Rattle.std.proofs.Common.{◌≡◌, ◌∙◌, ◌++◌, ◌∷◌, [], ◌+◌, ◌-◌, ◌*◌, suc, ap, sym, drop, pos, Some, length, map, take, subst, arith, List, ℕ, refl}
use Rattle.low_ir.specs.declared.op.LowOp.TheVariants as op
use Rattle.body_lists.proofs.code.push_arguments.Given as goal

abbrev pub invariant-loop-operand : goal.invariant-loop-operand
invariant-loop-operand l = l.list ≡ l.fn.list ++ map op.Argument (take l.operand-index l.operands)
