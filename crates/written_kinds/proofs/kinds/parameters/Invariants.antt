use Rattle.std.proofs.Common.{map, take}
use Rattle.typing_rules.specs.Terms as t
use Rattle.written_types.specs.Written.{WroteEach}
use Rattle.written_kinds.proofs.kinds.parameters.Given as goal

abbrev pub invariant-loop-at : goal.invariant-loop-at
invariant-loop-at l = WroteEach l.initial.types l.types (map t.Parameter (take l.at-index l.places)) l.made
