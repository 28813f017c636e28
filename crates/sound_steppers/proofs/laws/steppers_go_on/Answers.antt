use Rattle.sound_steppers.proofs.Sound.{steps_go_on}
use Rattle.sound_steppers.proofs.laws.steppers_go_on.Goals as goal

pub returns : goal.returns
returns c = λ coding faithful firsts x fit short first events items last proper steps. steps_go_on coding faithful firsts x fit short events items last first proper steps
