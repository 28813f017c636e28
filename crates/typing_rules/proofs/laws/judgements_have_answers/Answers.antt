use Rattle.typing_rules.proofs.Existing.{some_answer}
use Rattle.typing_rules.proofs.laws.judgements_have_answers.Goals as goal

pub returns : goal.returns
returns g c = λ defs told counted j met. some_answer defs told counted j met
