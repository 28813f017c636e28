use Rattle.std.proofs.Common.{◌≡◌, drop, max, map}
use Rattle.core_ir.specs.CodeView.{Names, code_of}
use Rattle.core_ir.specs.FormedCode.{most_of, most_operands}
use Rattle.body_lists.proofs.width.segments_width.Given as goal

abbrev pub invariant-loop-segment : goal.invariant-loop-segment
invariant-loop-segment l =
    (names : Names) → max l.most (most_of most_operands (map (λ c. code_of c names) (drop l.segment-index l.segments))) ≡ most_of most_operands (map (λ c. code_of c names) l.segments)
