use Rattle.typing_rules.proofs.OneAnswer.{program_one}
use Rattle.typing_rules.proofs.laws.programs_have_one_answer.Goals as goal

pub returns : goal.returns
returns c = λ program r s x y. program_one program r s x y
