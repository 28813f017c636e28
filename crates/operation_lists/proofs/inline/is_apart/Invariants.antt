use Rattle.std.proofs.Common.{◌≡◌, drop}
use Rattle.operation_codes.specs.Codes.{is_apart}
use Rattle.operation_lists.proofs.inline.is_apart.Given as goal

abbrev pub invariant-loop-operand : goal.invariant-loop-operand
invariant-loop-operand l = is_apart l.to (drop l.operand-index l.operands) ≡ is_apart l.to l.operands
