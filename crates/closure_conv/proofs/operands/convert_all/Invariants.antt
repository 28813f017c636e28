use Rattle.std.proofs.Common.{◌≡◌, take, map}
use Rattle.core_laws.specs.Conversion.{seen_as}
use Rattle.closure_conv.proofs.operands.convert_all.Given as goal

abbrev pub invariant-loop-operand : goal.invariant-loop-operand
invariant-loop-operand l = l.made ≡ map (seen_as l.used) (take l.operand-index l.operands)
