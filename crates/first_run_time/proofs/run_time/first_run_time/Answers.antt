use Rattle.first_run_time.proofs.Formed.{made_formed}
use Rattle.first_run_time.proofs.run_time.first_run_time.Goals as goal

pub returns-clause-formed : goal.returns-clause-formed
returns-clause-formed c = made_formed c.joined.result c.joined.ensures
