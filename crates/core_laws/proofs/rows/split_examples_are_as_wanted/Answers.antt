use Rattle.std.proofs.Common.{refl}
use Rattle.std.specs.Str.{is_utf8, chars}
use Rattle.std.specs.Fmt.{digits}
use lib.Utf8.{encode}
use Rattle.core_laws.proofs.rows.split_examples_are_as_wanted.Goals as goal

pub returns-clause-awaits : goal.returns-clause-awaits
unfolding is_utf8 chars encode digits
returns-clause-awaits c = refl

pub returns-clause-refused : goal.returns-clause-refused
unfolding is_utf8 chars encode digits
returns-clause-refused c = refl

pub returns-clause-plain : goal.returns-clause-plain
unfolding is_utf8 chars encode digits
returns-clause-plain c = refl

pub returns-clause-started : goal.returns-clause-started
unfolding is_utf8 chars encode digits
returns-clause-started c = refl

pub returns-clause-saved : goal.returns-clause-saved
unfolding is_utf8 chars encode digits
returns-clause-saved c = refl

pub returns-clause-actor : goal.returns-clause-actor
unfolding is_utf8 chars encode digits
returns-clause-actor c = refl
