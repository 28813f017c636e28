use Rattle.std.proofs.Common.{refl}
use Rattle.subtype_laws.proofs.rows.answers_are_as_wanted.Goals as goal

pub returns-clause-refused : goal.returns-clause-refused
returns-clause-refused c = refl

pub returns-clause-unequal : goal.returns-clause-unequal
returns-clause-unequal c = refl

pub returns-clause-subtypes : goal.returns-clause-subtypes
returns-clause-subtypes c = refl
