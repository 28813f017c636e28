use Rattle.std.proofs.Common.{◌≡◌, ◌++◌, map, take}
use Rattle.mo_types.specs.Wire.{map_wire}
use Rattle.mo_types.specs.declared.wire.Wire.TheVariants.{Simple}
use Rattle.candid_types.specs.Shapes.{plains, ref_of}
use Rattle.candid_types.proofs.Tables.{slot_wire, plain_wires}
use Rattle.candid_types.proofs.table.Shapes.new.Given as goal

abbrev pub invariant-loop-simple : goal.invariant-loop-simple
invariant-loop-simple l = l.heads.items ≡ map Simple (take l.simple-index plains)

abbrev pub invariant-loop-index : goal.invariant-loop-index
invariant-loop-index l = map (map_wire ref_of) l.heads.items ≡ plain_wires l.types ++ map (slot_wire l.types) (take l.index l.types)
