use Rattle.std.proofs.Common.{map}
use Rattle.typed_tree.specs.PatternView.{pattern}
use Rattle.mo_coverage.specs.Easy.{AreMarked}
use Rattle.mo_coverage.proofs.marks.all_marks.Given as goal

abbrev pub invariant-loop-typed : goal.invariant-loop-typed
invariant-loop-typed l = AreMarked l.tags l.marks.items (map (λ p. pattern p.now) l.patterns)
