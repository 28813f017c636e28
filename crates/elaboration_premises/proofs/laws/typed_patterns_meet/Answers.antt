use Rattle.program_soundness.specs.Worlds.{running}
use Rattle.program_soundness.proofs.Given.{lawful_types}
use Rattle.elaboration_premises.proofs.Meeting.{same, meets_at}
use Rattle.elaboration_premises.proofs.laws.typed_patterns_meet.Goals as goal

pub returns : goal.returns
returns c = λ types graph basics answers kinds known p a ns v w h i b. meets_at (running types) answers kinds (lawful_types types graph basics) p a ns _ w h i (same known v w b)
