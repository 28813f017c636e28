use Rattle.std.proofs.Common.{◌≡◌, ◌<◌, ◌^◌, drop}
use Rattle.mo_syntax.specs.Characters.{value_after, value_of}
use Rattle.mo_lexer.proofs.number.numeral_value.Given as goal

abbrev pub invariant-loop-byte : goal.invariant-loop-byte
invariant-loop-byte l = (value_after l.base l.value (drop l.byte-index l.digits) ≡ value_of l.base l.digits) × (l.value < 2 ^ 64)
