use Rattle.std.proofs.Common.{◌≡◌, ◌++◌, take, drop}
use Rattle.query_source.specs.Reading.{word_of, after_word}
use Rattle.query_source.proofs.token.word.Given as goal

abbrev pub invariant-loop-byte : goal.invariant-loop-byte
invariant-loop-byte l = record {
  at : l.count ≡ l.byte-index;
  run : word_of l.start ≡ take l.byte-index l.start ++ word_of (drop l.byte-index l.start);
  rest : after_word l.start ≡ after_word (drop l.byte-index l.start);
}
