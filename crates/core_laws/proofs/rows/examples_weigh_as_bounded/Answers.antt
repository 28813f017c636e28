use Rattle.std.proofs.Common.{refl}
use Rattle.std.specs.Str.{is_utf8, chars}
use Rattle.std.specs.Fmt.{digits}
use lib.Utf8.{encode}
use Rattle.core_laws.proofs.rows.examples_weigh_as_bounded.Goals as goal

pub returns-clause-split : goal.returns-clause-split
unfolding is_utf8 chars encode digits
returns-clause-split c = refl

pub returns-clause-converted : goal.returns-clause-converted
unfolding is_utf8 chars encode digits
returns-clause-converted c = refl
