use Rattle.std.proofs.Common.{◌≡◌, drop}
use Rattle.core_ir.specs.Outward.{holds}
use Rattle.core_measures.proofs.names.is_among.Given as goal

abbrev pub invariant-loop-other : goal.invariant-loop-other
invariant-loop-other l = holds l.place (drop l.other-index l.places) ≡ holds l.place l.places
