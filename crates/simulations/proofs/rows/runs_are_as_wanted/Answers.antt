use Rattle.std.proofs.Common.{refl}
use Rattle.simulations.proofs.rows.runs_are_as_wanted.Goals as goal

pub returns : goal.returns
returns c = refl
