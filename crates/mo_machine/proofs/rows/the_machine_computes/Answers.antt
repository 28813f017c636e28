use Rattle.std.proofs.Common.{refl}
use Rattle.std.specs.Str.{is_utf8, chars}
use lib.Utf8.{encode}
use Rattle.mo_machine.proofs.rows.the_machine_computes.Goals as goal

pub returns-clause-actors : goal.returns-clause-actors
unfolding is_utf8 chars encode
returns-clause-actors c = refl

pub returns-clause-bodies : goal.returns-clause-bodies
unfolding is_utf8 chars encode
returns-clause-bodies c = refl
