use Rattle.std.proofs.Common.{refl}
use Rattle.std.specs.Str.{is_utf8, chars}
use Rattle.std.specs.Fmt.{digits}
use lib.Utf8.{encode}
use Rattle.mo_types.specs.Layout.{layout}
use Rattle.mo_meaning.proofs.rows.weights_are_as_wanted.Goals as goal

pub returns-clause-execution : goal.returns-clause-execution
unfolding is_utf8 chars encode digits layout
returns-clause-execution c = refl

pub returns-clause-call : goal.returns-clause-call
unfolding is_utf8 chars encode digits layout
returns-clause-call c = refl

pub returns-clause-messages : goal.returns-clause-messages
unfolding is_utf8 chars encode digits layout
returns-clause-messages c = refl

pub returns-clause-print : goal.returns-clause-print
unfolding is_utf8 chars encode digits layout
returns-clause-print c = refl

pub returns-clause-upgrade : goal.returns-clause-upgrade
unfolding is_utf8 chars encode digits layout
returns-clause-upgrade c = refl

pub returns-clause-answer : goal.returns-clause-answer
unfolding is_utf8 chars encode digits layout
returns-clause-answer c = refl
