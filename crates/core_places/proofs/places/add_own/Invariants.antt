use Rattle.std.proofs.Common.{◌≡◌, ◌++◌, ◌-◌, ◌≤◌}
use Rattle.elaboration.specs.Programs.{own_from}
use Rattle.elaboration.specs.Scopes.{Scope}
use Rattle.core_places.proofs.places.add_own.Given as goal

abbrev pub invariant-loop-done : goal.invariant-loop-done
invariant-loop-done l = let s : Scope = l.initial.scope in l.scope ≡ record s { places = own_from (l.end - l.done) l.done ++ s.places }
