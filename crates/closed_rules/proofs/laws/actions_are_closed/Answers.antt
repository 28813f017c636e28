use Rattle.closed_rules.proofs.Actions.{action_closed}
use Rattle.closed_rules.proofs.laws.actions_are_closed.Goals as goal

pub returns : goal.returns
returns g = λ head other c x a ws w i h. action_closed head other c x a ws w i h
