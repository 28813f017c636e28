use Rattle.std.proofs.Common.{refl}
use Rattle.subtype_laws.specs.Rows.{refused, unequal}
use Rattle.subtype_laws.proofs.Samples.{all_fail, all_hold}
use Rattle.subtype_laws.proofs.rows.answers_are_by_the_rules.Goals as goal

pub returns-clause-refused : goal.returns-clause-refused
returns-clause-refused c = all_fail refused refl

pub returns-clause-unequal : goal.returns-clause-unequal
returns-clause-unequal c = all_fail unequal refl

pub returns-clause-subtypes : goal.returns-clause-subtypes
returns-clause-subtypes c = all_hold
