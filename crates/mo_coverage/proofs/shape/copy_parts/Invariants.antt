use Rattle.std.proofs.Common.{◌≡◌, take}
use Rattle.mo_coverage.proofs.shape.copy_parts.Given as goal

abbrev pub invariant-loop-part : goal.invariant-loop-part
invariant-loop-part l = l.made ≡ take l.part-index l.parts
