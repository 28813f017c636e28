use Rattle.std.proofs.Common.{length, ◌-◌}
use Rattle.mo_lexer.proofs.TextLemmas.{ReadSoFar}
use Rattle.mo_lexer.proofs.literal.text_at.Given as goal

abbrev pub invariant-loop-at : goal.invariant-loop-at
invariant-loop-at l = ReadSoFar l.source l.at l.bytes

abbrev pub decreases-loop-at : goal.decreases-loop-at
decreases-loop-at l = length l.source - l.at
