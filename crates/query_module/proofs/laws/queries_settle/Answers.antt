use Rattle.query_module.proofs.Told.{queries_settle}
use Rattle.query_module.proofs.laws.queries_settle.Goals as goal

pub returns : goal.returns
returns c = queries_settle
