use Rattle.std.proofs.Common.{refl}
use Rattle.std.specs.Str.{is_utf8, chars}
use Rattle.std.specs.Fmt.{digits}
use lib.Utf8.{encode}
use Rattle.mo_types.specs.Layout.{layout}
use Rattle.mo_meaning.proofs.rows.counters_are_as_wanted.Goals as goal

pub returns-clause-calls : goal.returns-clause-calls
unfolding is_utf8 chars encode digits layout
returns-clause-calls c = refl

pub returns-clause-names : goal.returns-clause-names
unfolding is_utf8 chars encode digits layout
returns-clause-names c = refl

pub returns-clause-trap : goal.returns-clause-trap
unfolding is_utf8 chars encode digits layout
returns-clause-trap c = refl
