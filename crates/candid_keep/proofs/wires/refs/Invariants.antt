use Rattle.std.proofs.Common.{◌≡◌, map, take}
use Rattle.candid_keep.specs.Refs.{table_ref}
use Rattle.candid_keep.proofs.wires.refs.Given as goal

abbrev pub invariant-loop-number : goal.invariant-loop-number
invariant-loop-number l = l.made ≡ map table_ref (take l.number-index l.numbers)
