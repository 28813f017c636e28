use Rattle.script_laws.proofs.OneFault.{one_fault}
use Rattle.script_laws.proofs.fault_law.Goals as goal

pub returns : goal.returns
returns c = one_fault
