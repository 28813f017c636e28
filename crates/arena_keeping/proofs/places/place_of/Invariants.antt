use Rattle.std.proofs.Common.{◌≡◌, drop}
use Rattle.arena_keeping.specs.Taking.{place_from}
use Rattle.arena_keeping.proofs.places.place_of.Given as goal

abbrev pub invariant-loop-place : goal.invariant-loop-place
invariant-loop-place l = place_from l.place (drop l.place l.stable) l.variable.name ≡ place_from 0 l.stable l.variable.name
