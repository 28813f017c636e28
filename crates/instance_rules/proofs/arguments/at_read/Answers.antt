use Rattle.std.proofs.Common.{◌∙◌}
use Rattle.instance_rules.proofs.arguments.at_read.Goals as goal

pub at_arguments-requires-clause-number : goal.at_arguments-requires-clause-number
at_arguments-requires-clause-number c = c.if-as_many.true ∙ c.len.ensures

pub returns-else-as_many : goal.returns-else-as_many
returns-else-as_many c = λ s q. record { outcome = tt }
