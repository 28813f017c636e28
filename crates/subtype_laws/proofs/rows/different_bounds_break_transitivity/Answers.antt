use Rattle.subtype_laws.proofs.Samples.{loose, loose_text, loose_apart}
use Rattle.subtype_laws.proofs.rows.different_bounds_break_transitivity.Goals as goal

pub returns-clause-first : goal.returns-clause-first
returns-clause-first c = loose

pub returns-clause-second : goal.returns-clause-second
returns-clause-second c = loose_text

pub returns-clause-both : goal.returns-clause-both
returns-clause-both c = loose_apart
