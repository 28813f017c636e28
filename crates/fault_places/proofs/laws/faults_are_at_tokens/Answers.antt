use Rattle.fault_places.proofs.Faults.{at_tokens}
use Rattle.fault_places.proofs.laws.faults_are_at_tokens.Goals as goal

pub returns : goal.returns
returns c = at_tokens
