use Rattle.std.proofs.Common.{◌≡◌, drop}
use Rattle.low_emit.specs.Texts.{operands_texts}
use Rattle.program_texts.proofs.operands.add_operands.Given as goal

abbrev pub invariant-loop-operand : goal.invariant-loop-operand
invariant-loop-operand l = operands_texts (drop l.operand-index l.operands) l.table ≡ operands_texts l.operands l.fn.table
