use Rattle.std.proofs.Common.{refl}
use Rattle.mo_actor.proofs.rows.calls_are_as_wanted.Goals as goal

pub returns : goal.returns
returns c = refl
