use Rattle.core_laws.proofs.Settled.{programs_settle}
use Rattle.core_laws.proofs.laws.programs_settle.Goals as goal

pub returns : goal.returns
returns g c = programs_settle _ _ _ _
