use Rattle.std.proofs.Common.{◌≡◌, true}
use Rattle.mo_values.proofs.Alike.{alike_answers, alike_costs}
use Rattle.mo_values.proofs.laws.alike_operands_have_alike_answers.Goals as goal

pub returns-clause-answers : goal.returns-clause-answers
returns-clause-answers g c = λ head related o vs ws a. alike_answers (λ f g. related f g ≡ true) head o vs ws a

pub returns-clause-costs : goal.returns-clause-costs
returns-clause-costs g c = λ head related o vs ws a. alike_costs (λ f g. related f g ≡ true) head o vs ws a
