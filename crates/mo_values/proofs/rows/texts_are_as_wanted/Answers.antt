use Rattle.std.proofs.Common.{refl}
use Rattle.std.specs.Str.{is_utf8, chars}
use lib.Utf8.{encode}
use Rattle.mo_values.proofs.rows.texts_are_as_wanted.Goals as goal

pub returns-clause-orders : goal.returns-clause-orders
unfolding is_utf8 chars encode
returns-clause-orders c = refl

pub returns-clause-lengths : goal.returns-clause-lengths
unfolding is_utf8 chars encode
returns-clause-lengths c = refl

pub returns-clause-assertions : goal.returns-clause-assertions
unfolding is_utf8 chars encode
returns-clause-assertions c = refl
