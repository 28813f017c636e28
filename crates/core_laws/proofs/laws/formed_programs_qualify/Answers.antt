use Rattle.core_laws.proofs.FormedPrograms.{formed_qualify}
use Rattle.core_laws.proofs.laws.formed_programs_qualify.Goals as goal

pub returns : goal.returns
returns c = formed_qualify
