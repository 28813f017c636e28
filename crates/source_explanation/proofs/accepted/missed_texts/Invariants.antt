use Rattle.std.proofs.Common.{take}
use Rattle.source_explanation.specs.Misses.{AreMissedTexts}
use Rattle.source_explanation.proofs.accepted.missed_texts.Given as goal

abbrev pub invariant-loop-one : goal.invariant-loop-one
invariant-loop-one l = AreMissedTexts l.source l.tokens l.types l.table (take l.one-index l.found) l.made
