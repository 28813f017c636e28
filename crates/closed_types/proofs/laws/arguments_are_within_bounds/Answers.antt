use Rattle.closed_types.proofs.Arguments.{stays_within}
use Rattle.closed_types.proofs.laws.arguments_are_within_bounds.Goals as goal

pub returns : goal.returns
returns g x = λ head other closed ends c d within vs ts outer puts kept inner outside rest many bounds. stays_within head other closed ends c d within vs ts outer puts kept inner outside rest many bounds
