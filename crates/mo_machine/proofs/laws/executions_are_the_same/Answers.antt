use Rattle.mo_machine.proofs.Runs.{run_same, given_run_same, body_same}
use Rattle.mo_machine.proofs.laws.executions_are_the_same.Goals as goal

pub returns-clause-begun : goal.returns-clause-begun
returns-clause-begun c = λ s n c. run_same s n c

pub returns-clause-resumed : goal.returns-clause-resumed
returns-clause-resumed c = λ s g n c. given_run_same s g n c

pub returns-clause-bodies : goal.returns-clause-bodies
returns-clause-bodies c = λ s fields body n. body_same s fields body n
