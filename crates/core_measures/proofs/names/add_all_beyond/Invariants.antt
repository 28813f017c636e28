use Rattle.std.proofs.Common.{◌≡◌, ◌++◌, drop}
use Rattle.core_ir.specs.Outward.{all_beyond}
use Rattle.core_measures.proofs.names.add_all_beyond.Given as goal

abbrev pub invariant-loop-place : goal.invariant-loop-place
invariant-loop-place l = l.names ++ all_beyond l.near (drop l.place-index l.places) ≡ l.fn.names ++ all_beyond l.near l.places
