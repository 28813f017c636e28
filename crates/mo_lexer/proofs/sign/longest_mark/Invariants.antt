use Rattle.std.proofs.Common.{◌≡◌, drop}
use Rattle.mo_lexer.specs.Marks as spec
use Rattle.mo_lexer.proofs.sign.longest_mark.Given as goal

abbrev pub invariant-loop-byte : goal.invariant-loop-byte
invariant-loop-byte l = spec.longest_mark l.longest (drop l.byte-index l.rest) ≡ spec.longest_mark l.fn.mark l.rest
