use Rattle.std.proofs.Common.{◌≡◌, ◌++◌, length, map, reverse}
use Rattle.core_ir.specs.CodeView.{Names, code_of}
use Rattle.core_laws.specs.Split.{code_or_stop}
use Rattle.suspend_split.specs.Drafts.{segment_code}
use Rattle.suspend_split.proofs.body.filled.Given as goal

abbrev pub invariant-loop-segment : goal.invariant-loop-segment
invariant-loop-segment l =
    (names : Names) → map code_or_stop (map (segment_code names) l.rest.items) ++ map (λ c. code_of c names) (reverse l.made.items) ≡ map code_or_stop (map (segment_code names) l.fn.segments.items)

abbrev pub decreases-loop-segment : goal.decreases-loop-segment
decreases-loop-segment l = length l.rest.items
