use Rattle.std.proofs.Common.{length, ◌-◌}
use Rattle.mo_lexer.proofs.ChainLemmas.{ReadTo}
use Rattle.mo_lexer.proofs.lexer.tokens_of.Given as goal

abbrev pub invariant-loop-place : goal.invariant-loop-place
invariant-loop-place l = ReadTo l.text l.tokens l.before l.place

abbrev pub decreases-loop-place : goal.decreases-loop-place
decreases-loop-place l = length l.text - l.place
