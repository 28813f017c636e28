use Rattle.std.proofs.Common.{◌≡◌, drop}
use Rattle.pattern_coverage.specs.Leaves.{is_among}
use Rattle.mo_coverage.proofs.leaves.is_among.Given as goal

abbrev pub invariant-loop-other : goal.invariant-loop-other
invariant-loop-other l = is_among l.part (drop l.other-index l.parts) ≡ is_among l.part l.parts
