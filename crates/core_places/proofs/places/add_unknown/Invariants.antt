use Rattle.std.proofs.Common.{◌≡◌, ◌++◌}
use Rattle.std.specs.Prelude.{replicate}
use Rattle.elaboration.specs.Scopes.{Scope, Nowhere}
use Rattle.core_places.proofs.places.add_unknown.Given as goal

abbrev pub invariant-loop-done : goal.invariant-loop-done
invariant-loop-done l = let s : Scope = l.initial.scope in l.scope ≡ record s { places = replicate l._done Nowhere ++ s.places }
