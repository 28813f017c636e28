use Rattle.typing_rules.proofs.OneAnswer.{one}
use Rattle.typing_rules.proofs.laws.judgements_have_one_answer.Goals as goal

pub returns : goal.returns
returns g c = λ defs j met p q. one defs j met p q
