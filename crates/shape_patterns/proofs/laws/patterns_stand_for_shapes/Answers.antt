use Rattle.shape_patterns.proofs.Sound.{sound}
use Rattle.shape_patterns.proofs.laws.patterns_stand_for_shapes.Goals as goal

pub returns : goal.returns
returns g c = λ head has k t v h. sound head has k t v h
