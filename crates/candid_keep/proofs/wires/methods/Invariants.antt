use Rattle.std.proofs.Common.{◌≡◌, map, take}
use Rattle.mo_types.specs.Wire.{map_method}
use Rattle.candid_keep.specs.Refs.{table_ref}
use Rattle.candid_keep.proofs.wires.methods.Given as goal

abbrev pub invariant-loop-method : goal.invariant-loop-method
invariant-loop-method l = l.made ≡ map (map_method table_ref) (take l.method-index l.numbers)
