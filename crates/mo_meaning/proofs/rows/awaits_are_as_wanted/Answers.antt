use Rattle.std.proofs.Common.{refl}
use Rattle.std.specs.Str.{is_utf8, chars}
use Rattle.std.specs.Fmt.{digits}
use lib.Utf8.{encode}
use Rattle.mo_types.specs.Layout.{layout}
use Rattle.mo_meaning.proofs.rows.awaits_are_as_wanted.Goals as goal

pub returns-clause-commits : goal.returns-clause-commits
unfolding is_utf8 chars encode digits layout
returns-clause-commits c = refl

pub returns-clause-interleaved : goal.returns-clause-interleaved
unfolding is_utf8 chars encode digits layout
returns-clause-interleaved c = refl

pub returns-clause-upgrade : goal.returns-clause-upgrade
unfolding is_utf8 chars encode digits layout
returns-clause-upgrade c = refl

pub returns-clause-answered : goal.returns-clause-answered
unfolding is_utf8 chars encode digits layout
returns-clause-answered c = refl

pub returns-clause-second : goal.returns-clause-second
unfolding is_utf8 chars encode digits layout
returns-clause-second c = refl

pub returns-clause-errors : goal.returns-clause-errors
unfolding is_utf8 chars encode digits layout
returns-clause-errors c = refl
