use Rattle.query_module.proofs.Told.{refined_modules_answer}
use Rattle.query_module.proofs.laws.refined_modules_answer.Goals as goal

pub returns : goal.returns
returns c = refined_modules_answer
