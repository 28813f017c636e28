use Rattle.std.proofs.Common.{◌≡◌, drop, max}
use Rattle.core_ir.specs.CodeView.{Names, exit_code}
use Rattle.core_ir.specs.FormedCode.{most_operands}
use Rattle.core_ir.proofs.CodeViews.{begun}
use Rattle.body_lists.proofs.width.+measuring.Given as goal

abbrev pub invariant-code_width-loop-instruction : goal.invariant-code_width-loop-instruction
invariant-code_width-loop-instruction l =
    (names : Names) → max l.most (most_operands (begun (drop l.instruction-index l.instruction-items) names (exit_code l.code.exit))) ≡ most_operands (begun l.instruction-items names (exit_code l.code.exit))
