use Rattle.play_script.proofs.NumberReading.{ReadsDigits}
use Rattle.play_script.proofs.reading.read_number.Given as goal

abbrev pub invariant-loop-byte : goal.invariant-loop-byte
invariant-loop-byte l = ReadsDigits l.word l.byte-index l.value
