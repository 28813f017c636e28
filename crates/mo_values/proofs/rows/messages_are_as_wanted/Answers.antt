use Rattle.std.proofs.Common.{refl}
use Rattle.std.specs.Str.{is_utf8, chars}
use lib.Utf8.{encode}
use Rattle.mo_values.proofs.rows.messages_are_as_wanted.Goals as goal

pub returns-clause-sent : goal.returns-clause-sent
unfolding is_utf8 chars encode
returns-clause-sent c = refl

pub returns-clause-read : goal.returns-clause-read
returns-clause-read c = refl
