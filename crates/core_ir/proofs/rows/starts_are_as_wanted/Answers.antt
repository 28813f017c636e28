use Rattle.std.proofs.Common.{refl}
use Rattle.std.specs.Str.{is_utf8, chars}
use Rattle.std.specs.Fmt.{digits}
use lib.Utf8.{encode}
use Rattle.core_ir.proofs.rows.starts_are_as_wanted.Goals as goal

pub returns-clause-started : goal.returns-clause-started
unfolding is_utf8 chars encode digits
returns-clause-started c = refl

pub returns-clause-saved : goal.returns-clause-saved
unfolding is_utf8 chars encode digits
returns-clause-saved c = refl
