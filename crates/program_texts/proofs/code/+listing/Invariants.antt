use Rattle.std.proofs.Common.{◌≡◌, drop}
use Rattle.core_ir.specs.CodeView.{Names, exit_code}
use Rattle.core_ir.proofs.CodeViews.{begun}
use Rattle.low_emit.specs.Texts.{code_texts}
use Rattle.program_texts.proofs.code.+listing.Given as goal

abbrev pub invariant-add_code-loop-instruction : goal.invariant-add_code-loop-instruction
invariant-add_code-loop-instruction l =
    (names : Names) → code_texts (begun (drop l.instruction-index l.instruction-items) names (exit_code l.code.exit)) l.table ≡ code_texts (begun l.instruction-items names (exit_code l.code.exit)) l.fn.table
