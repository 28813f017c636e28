use Rattle.elaboration_runs.proofs.Resuming.{answers}
use Rattle.elaboration_runs.proofs.laws.answers_are_followed.Goals as goal

pub returns : goal.returns
returns c = answers
