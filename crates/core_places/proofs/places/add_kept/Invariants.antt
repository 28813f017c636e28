use Rattle.std.proofs.Common.{◌≡◌, ◌++◌}
use Rattle.elaboration.specs.Programs.{kept_places}
use Rattle.elaboration.specs.Scopes.{Scope}
use Rattle.core_places.proofs.places.add_kept.Given as goal

abbrev pub invariant-loop-number : goal.invariant-loop-number
invariant-loop-number l = let s : Scope = l.initial.scope in l.scope ≡ record s { places = kept_places l.number ++ s.places }
