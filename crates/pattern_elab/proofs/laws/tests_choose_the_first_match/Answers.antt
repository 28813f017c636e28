use Rattle.pattern_elab.proofs.Chosen.{made_choose}
use Rattle.pattern_elab.proofs.laws.tests_choose_the_first_match.Goals as goal

pub returns : goal.returns
returns g c = λ ps made e. made_choose ps made e
