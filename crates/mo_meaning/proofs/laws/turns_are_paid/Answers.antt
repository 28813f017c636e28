use Rattle.mo_meaning.proofs.Payment.{all_paid}
use Rattle.mo_meaning.proofs.laws.turns_are_paid.Goals as goal

pub returns : goal.returns
returns c = λ s. all_paid s
