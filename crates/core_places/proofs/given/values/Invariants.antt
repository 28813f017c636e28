use Rattle.std.proofs.Common.{◌≡◌, ◌++◌, ℕ, List, length, map, take}
use Rattle.core_ir.specs.View.{exps, expression}
use Rattle.elaboration.specs.Checks.{locals}
use Rattle.elaboration.specs.Programs.{values_of}
use Rattle.elaboration.specs.Scopes.{Place}
use Rattle.core_places.proofs.given.values.Given as goal

abbrev pub invariant-loop-index : goal.invariant-loop-index
invariant-loop-index l = (levels : List ℕ) (others : List Place) → l.scope.places ≡ locals levels ++ others → length levels ≡ l.count
    → exps (map expression l.made) ≡ values_of l.scope.names (locals (take l.index levels))
