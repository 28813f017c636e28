use Rattle.std.proofs.Common.{length, ◌-◌, ◌+◌, ◌≡◌, ◌≤◌, ◌<◌, drop}
use Rattle.std.specs.Option.{option_map}
use Rattle.mo_lexer.specs.Reading as spec
use Rattle.mo_lexer.proofs.comment.block_len.Given as goal

abbrev pub invariant-loop-at : goal.invariant-loop-at
invariant-loop-at l = (l.at ≤ length l.body) × (0 < l.comments) × (l.comments ≤ l.at + 1) × (spec.block_len 1 l.body ≡ option_map (λ n. l.at + n) (spec.block_len l.comments (drop l.at l.body)))

abbrev pub decreases-loop-at : goal.decreases-loop-at
decreases-loop-at l = length l.body - l.at
