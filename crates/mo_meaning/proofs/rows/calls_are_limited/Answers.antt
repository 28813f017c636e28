use Rattle.std.proofs.Common.{refl}
use Rattle.std.specs.Str.{is_utf8, chars}
use Rattle.std.specs.Fmt.{digits}
use lib.Utf8.{encode}
use Rattle.mo_types.specs.Layout.{layout}
use Rattle.mo_meaning.proofs.rows.calls_are_limited.Goals as goal

pub returns-clause-call : goal.returns-clause-call
unfolding is_utf8 chars encode digits layout
returns-clause-call c = refl

pub returns-clause-resume : goal.returns-clause-resume
unfolding is_utf8 chars encode digits layout
returns-clause-resume c = refl

pub returns-clause-text : goal.returns-clause-text
unfolding is_utf8 chars encode digits layout
returns-clause-text c = refl
