use Rattle.std.proofs.Common.{◌≡◌, drop}
use Rattle.mo_coverage.specs.Places.{later, seat_of}
use Rattle.mo_coverage.proofs.tags.seat_of.Given as goal

abbrev pub invariant-loop-place : goal.invariant-loop-place
invariant-loop-place l = later l.place (seat_of l.label (drop l.place l.fields)) ≡ seat_of l.label l.fields
