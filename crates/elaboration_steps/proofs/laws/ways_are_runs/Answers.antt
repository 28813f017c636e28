use Rattle.elaboration_steps.proofs.Running.{ways, ends}
use Rattle.elaboration_steps.proofs.laws.ways_are_runs.Goals as goal

pub returns-clause-ways : goal.returns-clause-ways
returns-clause-ways c = ways

pub returns-clause-stops : goal.returns-clause-stops
returns-clause-stops c = ends
