use Rattle.std.proofs.Common.{◌≡◌, drop}
use Rattle.typed_tree.specs.PatternView.{patterns}
use Rattle.mo_coverage.specs.Easy.{are_names}
use Rattle.mo_coverage.proofs.marks.are_names.Given as goal

abbrev pub invariant-loop-part : goal.invariant-loop-part
invariant-loop-part l = are_names (patterns (drop l.part-index l.parts)) ≡ are_names (patterns l.parts)
