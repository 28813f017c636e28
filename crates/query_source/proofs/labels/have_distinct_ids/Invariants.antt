use Rattle.query_source.proofs.LabelIds.{DifferBelow, DiffersFrom}
use Rattle.query_source.proofs.labels.have_distinct_ids.Given as goal

abbrev pub invariant-loop-earlier : goal.invariant-loop-earlier
invariant-loop-earlier l = DiffersFrom l.methods l.earlier l.later

abbrev pub invariant-loop-later : goal.invariant-loop-later
invariant-loop-later l = DifferBelow l.methods l.later
