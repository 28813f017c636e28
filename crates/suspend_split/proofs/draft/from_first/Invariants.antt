use Rattle.std.proofs.Common.{◌≡◌, length}
use Rattle.core_ir.specs.Code.{Code}
use Rattle.core_ir.specs.CodeView.{Names}
use Rattle.suspend_split.specs.Drafts.{before, begun}
use Rattle.suspend_split.proofs.draft.from_first.Given as goal

abbrev pub invariant-loop-instruction : goal.invariant-loop-instruction
invariant-loop-instruction l = (names : Names) (c : Code) → begun l.made names (before l.from_end.items names c) ≡ before l.fn.instructions names c

abbrev pub decreases-loop-instruction : goal.decreases-loop-instruction
decreases-loop-instruction l = length l.from_end.items
