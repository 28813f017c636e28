use Rattle.std.proofs.Common.{◌≡◌, ◌-◌, ◌++◌, map}
use Rattle.elaboration.specs.Scopes.{places_from}
use Rattle.core_scopes.specs.Seen.{seen_place}
use Rattle.core_scopes.proofs.scope.add_locals.Given as goal

abbrev pub invariant-loop-level : goal.invariant-loop-level
invariant-loop-level l = map seen_place l.places ≡ places_from l.first (l.level - l.first) ++ map seen_place l.fn.places
