use Rattle.std.proofs.Common.{take}
use Rattle.query_source.specs.Tokens.{AreAll, is_letter}
use Rattle.query_source.proofs.words.are_letters.Given as goal

abbrev pub invariant-loop-byte : goal.invariant-loop-byte
invariant-loop-byte l = AreAll is_letter (take l.byte-index l.name)
