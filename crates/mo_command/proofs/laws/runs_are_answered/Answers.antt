use Rattle.mo_command.proofs.Answered.{runs_are_answered}
use Rattle.mo_command.proofs.laws.runs_are_answered.Goals as goal

pub returns : goal.returns
returns c = runs_are_answered
