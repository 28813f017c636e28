use Rattle.std.proofs.Common.{take}
use Rattle.judging.specs.Heads.{PartsFound}
use Rattle.function_rules.proofs.heads.terms_at.Given as goal

abbrev pub invariant-loop-part : goal.invariant-loop-part
invariant-loop-part l = PartsFound l.types (take l.part-index l.parts) l.made.items
