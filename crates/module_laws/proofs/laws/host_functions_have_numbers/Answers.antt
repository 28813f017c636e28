use Rattle.module_laws.proofs.HostNumbers.{numbered}
use Rattle.module_laws.proofs.laws.host_functions_have_numbers.Goals as goal

pub returns : goal.returns
returns c = numbered
