use Rattle.std.proofs.Common.{◌≡◌, ◌++◌, drop, reverse}
use Rattle.mo_types.specs.Graph.{head_at}
use Rattle.arena_reading.specs.Opening.{types_along}
use Rattle.arena_reading.proofs.inside.types_along.Given as goal

abbrev pub invariant-loop-part : goal.invariant-loop-part
invariant-loop-part l = types_along (head_at l.types) l.ids l.parts ≡ l.found.items ++ types_along (head_at l.types) (reverse l.waiting.items) (drop l.part-index l.parts)
