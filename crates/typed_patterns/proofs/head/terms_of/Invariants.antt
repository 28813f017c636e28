use Rattle.std.proofs.Common.{take}
use Rattle.typed_patterns.specs.Heads.{AreIn}
use Rattle.typed_patterns.proofs.head.terms_of.Given as goal

abbrev pub invariant-loop-id : goal.invariant-loop-id
invariant-loop-id l = AreIn l.types (take l.id-index l.ids) l.made.items
