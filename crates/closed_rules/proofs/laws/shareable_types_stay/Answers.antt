use Rattle.closed_rules.proofs.Constants.{head_stays}
use Rattle.closed_rules.proofs.laws.shareable_types_stay.Goals as goal

pub returns : goal.returns
returns c = λ types first past lawful t s l. head_stays types first past lawful t (s, l)
