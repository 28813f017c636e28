use Rattle.std.proofs.Common.{◌≡◌, ◌++◌, drop, map}
use Rattle.mo_pattern_names.specs.TypeNames.{in_type_field, each_entry, names_of}
use Rattle.mo_pattern_names.proofs.type_layers.TypeLayers.fields.Given as goal

abbrev pub invariant-loop-one : goal.invariant-loop-one
invariant-loop-one g l =
    (l.initial.found ++ each_entry (map in_type_field l.fields) l.scope ≡ l.found ++ each_entry (map in_type_field (drop l.one-index l.fields)) l.scope)
    × (names_of (map in_type_field l.fields) ≡ l.names ++ names_of (map in_type_field (drop l.one-index l.fields)))
