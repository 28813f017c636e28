use Rattle.fault_places.proofs.Faults.{in_texts}
use Rattle.fault_places.proofs.laws.faults_start_in_texts.Goals as goal

pub returns : goal.returns
returns c = in_texts
