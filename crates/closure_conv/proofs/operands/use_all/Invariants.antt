use Rattle.std.proofs.Common.{◌≡◌, drop}
use Rattle.core_laws.specs.Uses.{use_all}
use Rattle.closure_conv.proofs.operands.use_all.Given as goal

abbrev pub invariant-loop-operand : goal.invariant-loop-operand
invariant-loop-operand l = use_all (drop l.operand-index l.operands) l.used ≡ use_all l.operands l.fn.used
