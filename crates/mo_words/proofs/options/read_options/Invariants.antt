use Rattle.std.proofs.Common.{length, map, string_bytes, Global}
use Rattle.mo_words.specs.Reading.{Leads}
use Rattle.mo_words.proofs.options.read_options.Given as goal

abbrev pub invariant-loop-setting : goal.invariant-loop-setting
invariant-loop-setting l = Leads l.given (map (string_bytes {Z = Global}) l.fn.words) (map (string_bytes {Z = Global}) l.rest)

abbrev pub decreases-loop-setting : goal.decreases-loop-setting
decreases-loop-setting l = length l.rest
