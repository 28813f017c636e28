use Rattle.mo_machine.proofs.Turns.{reply_same}
use Rattle.mo_machine.proofs.laws.replies_are_the_same.Goals as goal

pub returns : goal.returns
returns c = λ s types r. reply_same s types r
