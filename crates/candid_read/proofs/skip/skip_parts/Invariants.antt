use Rattle.std.specs.Prelude.{reverse}
use Rattle.candid_types.specs.Inside.{below}
use Rattle.candid_read.specs.Whole.{left, Passes}
use Rattle.candid_read.specs.Values.{known_part}
use Rattle.candid_read.proofs.skip.skip_parts.Given as goal

abbrev pub invariant-loop : goal.invariant-loop
invariant-loop l = Passes (known_part l.types l.known) (below l.known.shapes) l.ids l.bytes (left l.known.shapes (reverse l.goals.items)) l.rest
