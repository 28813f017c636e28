use Rattle.elaboration_actors.proofs.Entries.{methods_end}
use Rattle.elaboration_actors.proofs.Resumptions.{resumptions_end}
use Rattle.elaboration_actors.proofs.laws.executions_end.Goals as goal

pub returns-clause-methods : goal.returns-clause-methods
returns-clause-methods c = methods_end

pub returns-clause-waiting : goal.returns-clause-waiting
returns-clause-waiting c = resumptions_end
