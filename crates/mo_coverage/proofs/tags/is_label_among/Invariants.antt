use Rattle.std.proofs.Common.{◌≡◌, drop}
use Rattle.pattern_coverage.specs.Cutting.{is_label_among}
use Rattle.mo_coverage.proofs.tags.is_label_among.Given as goal

abbrev pub invariant-loop-other : goal.invariant-loop-other
invariant-loop-other l = is_label_among l.label (drop l.other-index l.labels) ≡ is_label_among l.label l.labels
