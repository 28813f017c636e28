use Rattle.typing_rules.proofs.ManyTypes.{many_options}
use Rattle.typing_rules.proofs.rows.types_are_limited.Goals as goal

pub returns : goal.returns
returns c = many_options
