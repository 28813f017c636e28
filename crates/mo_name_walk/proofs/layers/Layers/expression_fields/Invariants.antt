use Rattle.std.proofs.Common.{◌≡◌, ◌++◌, drop, map}
use Rattle.mo_pattern_names.specs.TypeNames.{each_entry, names_of}
use Rattle.mo_bindings.specs.ExpressionNames.{in_field}
use Rattle.mo_name_walk.proofs.layers.Layers.expression_fields.Given as goal

abbrev pub invariant-loop-one : goal.invariant-loop-one
invariant-loop-one g l =
    (l.initial.found ++ each_entry (map in_field l.fields) l.initial.scope ≡ l.found ++ each_entry (map in_field (drop l.one-index l.fields)) l.initial.scope)
    × (l.scope ≡ l.initial.scope)
    × (names_of (map in_field l.fields) ≡ l.names ++ names_of (map in_field (drop l.one-index l.fields)))
