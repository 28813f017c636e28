use Rattle.fault_places.proofs.Faults.{in_programs}
use Rattle.fault_places.proofs.laws.faults_are_in_programs.Goals as goal

pub returns : goal.returns
returns c = in_programs
