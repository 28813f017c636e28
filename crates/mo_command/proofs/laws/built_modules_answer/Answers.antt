use Rattle.mo_command.proofs.Answered.{built_modules_answer}
use Rattle.mo_command.proofs.laws.built_modules_answer.Goals as goal

pub returns : goal.returns
returns c = built_modules_answer
