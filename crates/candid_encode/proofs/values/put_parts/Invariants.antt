use Rattle.std.proofs.Common.{map, drop}
use Rattle.std.specs.Prelude.{reverse}
use Rattle.mo_types.specs.Graph.{head_at}
use Rattle.candid_types.specs.Shapes.{ref_of}
use Rattle.candid_read.specs.Whole.{left}
use Rattle.candid_encode.specs.Flat.{Goes}
use Rattle.candid_encode.proofs.values.put_parts.Given as goal

abbrev pub invariant-loop-part : goal.invariant-loop-part
invariant-loop-part l = Goes (head_at l.types) (map ref_of l.numbers) l.parts (map ref_of (left l.shapes (reverse l.goals.items))) (drop l.part-index l.parts) l.initial.out l.out
