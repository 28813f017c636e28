use Rattle.std.proofs.Common.{◌≡◌, map, take}
use Rattle.mo_types.specs.Wire.{method_of, map_method}
use Rattle.candid_types.specs.Shapes.{ref_of}
use Rattle.candid_types.proofs.entries.service_methods.Given as goal

abbrev pub invariant-loop-method : goal.invariant-loop-method
invariant-loop-method l = map (map_method ref_of) l.unsorted.items ≡ map method_of (take l.method-index l.methods)
