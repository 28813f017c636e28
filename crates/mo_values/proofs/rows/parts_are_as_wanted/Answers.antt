use Rattle.std.proofs.Common.{refl}
use Rattle.std.specs.Str.{is_utf8, chars}
use lib.Utf8.{encode}
use Rattle.mo_values.proofs.rows.parts_are_as_wanted.Goals as goal

pub returns-clause-made : goal.returns-clause-made
returns-clause-made c = refl

pub returns-clause-taken : goal.returns-clause-taken
returns-clause-taken c = refl

pub returns-clause-outside : goal.returns-clause-outside
unfolding is_utf8 chars encode
returns-clause-outside c = refl
