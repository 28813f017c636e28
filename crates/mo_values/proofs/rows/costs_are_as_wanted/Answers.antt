use Rattle.std.proofs.Common.{refl}
use Rattle.std.specs.Str.{is_utf8, chars}
use Rattle.std.specs.Fmt.{digits}
use lib.Utf8.{encode}
use Rattle.mo_values.proofs.rows.costs_are_as_wanted.Goals as goal

pub returns-clause-rows : goal.returns-clause-rows
unfolding is_utf8 chars encode digits
returns-clause-rows c = refl

pub returns-clause-costs : goal.returns-clause-costs
unfolding is_utf8 chars encode digits
returns-clause-costs c = refl
