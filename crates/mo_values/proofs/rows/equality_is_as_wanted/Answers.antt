use Rattle.std.proofs.Common.{refl}
use Rattle.std.specs.Str.{is_utf8, chars}
use lib.Utf8.{encode}
use Rattle.mo_values.proofs.rows.equality_is_as_wanted.Goals as goal

pub returns-clause-equalities : goal.returns-clause-equalities
unfolding is_utf8 chars encode
returns-clause-equalities c = refl

pub returns-clause-stuck : goal.returns-clause-stuck
unfolding is_utf8 chars
returns-clause-stuck c = refl
