use Rattle.mo_front.proofs.TypeFaults.{starts_token}
use Rattle.mo_front.proofs.laws.faults_of_typing_start_tokens.Goals as goal

pub returns : goal.returns
returns c = starts_token
