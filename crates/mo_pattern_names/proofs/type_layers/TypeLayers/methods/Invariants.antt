use Rattle.std.proofs.Common.{◌≡◌, ◌++◌, drop, map}
use Rattle.mo_pattern_names.specs.TypeNames.{in_type_method, each_entry, names_of}
use Rattle.mo_pattern_names.proofs.type_layers.TypeLayers.methods.Given as goal

abbrev pub invariant-loop-one : goal.invariant-loop-one
invariant-loop-one g l =
    (l.initial.found ++ each_entry (map in_type_method l.methods) l.scope ≡ l.found ++ each_entry (map in_type_method (drop l.one-index l.methods)) l.scope)
    × (names_of (map in_type_method l.methods) ≡ l.names ++ names_of (map in_type_method (drop l.one-index l.methods)))
