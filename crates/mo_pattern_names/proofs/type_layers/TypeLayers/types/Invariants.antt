use Rattle.std.proofs.Common.{◌≡◌, ◌++◌, drop, map}
use Rattle.mo_scopes.specs.Findings.{each}
use Rattle.mo_pattern_names.specs.TypeNames.{in_type}
use Rattle.mo_pattern_names.proofs.type_layers.TypeLayers.types.Given as goal

abbrev pub invariant-loop-one : goal.invariant-loop-one
invariant-loop-one g l = l.initial.found ++ each (map in_type l.types) l.scope ≡ l.found ++ each (map in_type (drop l.one-index l.types)) l.scope
