use Rattle.query_module.proofs.Told.{runs_are_answers}
use Rattle.query_module.proofs.laws.runs_are_answers.Goals as goal

pub returns : goal.returns
returns c = runs_are_answers
