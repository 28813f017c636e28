use Rattle.typing_rules.proofs.Limits.{too_many, many_units}
use Rattle.typing_rules.proofs.rows.nodes_are_limited.Goals as goal

pub returns-clause-any : goal.returns-clause-any
returns-clause-any c = too_many

pub returns-clause-units : goal.returns-clause-units
returns-clause-units c = many_units
