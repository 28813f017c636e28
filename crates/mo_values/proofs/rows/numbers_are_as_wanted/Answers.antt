use Rattle.std.proofs.Common.{refl}
use Rattle.std.specs.Fmt.{digits}
use Rattle.mo_values.proofs.rows.numbers_are_as_wanted.Goals as goal

pub returns-clause-quotients : goal.returns-clause-quotients
returns-clause-quotients c = refl

pub returns-clause-powers : goal.returns-clause-powers
returns-clause-powers c = refl

pub returns-clause-limits : goal.returns-clause-limits
returns-clause-limits c = refl

pub returns-clause-turns : goal.returns-clause-turns
returns-clause-turns c = refl

pub returns-clause-orders : goal.returns-clause-orders
returns-clause-orders c = refl

pub returns-clause-strangers : goal.returns-clause-strangers
returns-clause-strangers c = refl

pub returns-clause-digits : goal.returns-clause-digits
unfolding digits
returns-clause-digits c = refl
