use Rattle.std.proofs.Common.{◌≡◌, ℕ, ◌≤◌, drop, length, nat_eq}
use Rattle.indexmap.specs.IndexMap.{get}
use Rattle.type_definitions.specs.Places.{place_from}
use Rattle.type_definitions.proofs.numbers.places_of.Given as goal

abbrev pub invariant-loop-place : goal.invariant-loop-place
invariant-loop-place l = record { within : l.place ≤ length l.list; kept : (p : ℕ) → get nat_eq l.places p ≡ place_from l.place (drop l.place l.list) p }

abbrev pub decreases-loop-place : goal.decreases-loop-place
decreases-loop-place l = l.place
