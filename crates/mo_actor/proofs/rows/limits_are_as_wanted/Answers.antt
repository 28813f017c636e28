use Rattle.std.proofs.Common.{refl}
use Rattle.mo_actor.proofs.rows.limits_are_as_wanted.Goals as goal

pub returns-clause-items : goal.returns-clause-items
returns-clause-items c = refl

pub returns-clause-exhaustions : goal.returns-clause-exhaustions
returns-clause-exhaustions c = refl

pub returns-clause-unfinished : goal.returns-clause-unfinished
returns-clause-unfinished c = refl
