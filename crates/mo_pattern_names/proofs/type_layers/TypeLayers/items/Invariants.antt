use Rattle.std.proofs.Common.{◌≡◌, ◌++◌, drop, map}
use Rattle.mo_pattern_names.specs.TypeNames.{in_type_item, each_item, item_names}
use Rattle.mo_pattern_names.proofs.type_layers.TypeLayers.items.Given as goal

abbrev pub invariant-loop-one : goal.invariant-loop-one
invariant-loop-one g l =
    (l.initial.found ++ each_item (map in_type_item l.items) l.scope ≡ l.found ++ each_item (map in_type_item (drop l.one-index l.items)) l.scope)
    × (item_names (map in_type_item l.items) ≡ l.names ++ item_names (map in_type_item (drop l.one-index l.items)))
