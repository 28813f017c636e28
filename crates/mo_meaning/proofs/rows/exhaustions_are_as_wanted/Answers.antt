use Rattle.std.proofs.Common.{refl}
use Rattle.std.specs.Str.{is_utf8, chars}
use Rattle.std.specs.Fmt.{digits}
use lib.Utf8.{encode}
use Rattle.mo_types.specs.Layout.{layout}
use Rattle.mo_meaning.proofs.rows.exhaustions_are_as_wanted.Goals as goal

pub returns-clause-steps : goal.returns-clause-steps
unfolding is_utf8 chars encode digits layout
returns-clause-steps c = refl

pub returns-clause-early : goal.returns-clause-early
unfolding is_utf8 chars encode digits layout
returns-clause-early c = refl

pub returns-clause-heap : goal.returns-clause-heap
unfolding is_utf8 chars encode digits layout
returns-clause-heap c = refl

pub returns-clause-little : goal.returns-clause-little
unfolding is_utf8 chars encode digits layout
returns-clause-little c = refl

pub returns-clause-upgrade : goal.returns-clause-upgrade
unfolding is_utf8 chars encode digits layout
returns-clause-upgrade c = refl
