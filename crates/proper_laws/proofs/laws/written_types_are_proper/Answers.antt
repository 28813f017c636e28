use Rattle.proper_laws.proofs.Written.{written_proper}
use Rattle.proper_laws.proofs.laws.written_types_are_proper.Goals as goal

pub returns : goal.returns
returns c = written_proper
