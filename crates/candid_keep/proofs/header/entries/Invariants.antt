use Rattle.std.proofs.Common.{◌≡◌, ◌-◌, map, take, drop}
use Rattle.mo_types.specs.Wire.{map_wire}
use Rattle.candid_keep.specs.Refs.{table_ref}
use Rattle.candid_keep.proofs.header.entries.Given as goal

abbrev pub invariant-loop-number : goal.invariant-loop-number
invariant-loop-number l = l.table ≡ map (map_wire table_ref) (take (l.number - 18) (drop 18 l.shapes))
