use Rattle.module_laws.proofs.StoredBytes.{stores_read}
use Rattle.module_laws.proofs.laws.stores_are_read.Goals as goal

pub returns : goal.returns
returns c = stores_read
