use Rattle.closed_types.proofs.Constants.{shareable_constant, comparable_shareable}
use Rattle.closed_types.proofs.laws.shareable_types_are_constant.Goals as goal

pub returns-clause-shareable : goal.returns-clause-shareable
returns-clause-shareable g c = λ head lawful t s. shareable_constant head lawful t s

pub returns-clause-comparable : goal.returns-clause-comparable
returns-clause-comparable g c = λ head t s. comparable_shareable head t s
