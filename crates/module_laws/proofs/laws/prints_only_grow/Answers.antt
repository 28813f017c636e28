use Rattle.module_laws.proofs.HostPrints.{prints_grow}
use Rattle.module_laws.proofs.laws.prints_only_grow.Goals as goal

pub returns : goal.returns
returns c = prints_grow
