use Rattle.closed_types.proofs.Instances.{agreeing}
use Rattle.closed_types.proofs.laws.closings_go_by_what_is_mentioned.Goals as goal

pub returns : goal.returns
returns g x = λ head other closed c d vs agree t m. agreeing head other closed c d vs agree t m
