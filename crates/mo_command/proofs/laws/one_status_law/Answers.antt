use Rattle.mo_command.proofs.OneStatus.{one_status}
use Rattle.mo_command.proofs.laws.one_status_law.Goals as goal

pub returns : goal.returns
returns c = one_status
