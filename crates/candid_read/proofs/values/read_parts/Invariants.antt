use Rattle.std.proofs.Common.{◌-◌, vec_len}
use Rattle.std.specs.Prelude.{reverse}
use Rattle.candid_types.specs.Inside.{below}
use Rattle.candid_read.specs.Whole.{left, Reaches}
use Rattle.candid_read.specs.Values.{known_part}
use Rattle.candid_read.proofs.values.read_parts.Given as goal

abbrev pub decreases-loop-parts : goal.decreases-loop-parts
decreases-loop-parts l = 18446744073709551616 - vec_len l.parts

abbrev pub invariant-loop-parts : goal.invariant-loop-parts
invariant-loop-parts l = Reaches (known_part l.types l.known) (below l.known.shapes) l.ids l.parts.items l.bytes (left l.known.shapes (reverse l.goals.items)) l.rest
