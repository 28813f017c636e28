use Rattle.source_laws.proofs.Recursion.{expressions_are_typed}
use Rattle.source_laws.proofs.laws.expressions_are_typed.Goals as goal

pub returns : goal.returns
returns c = expressions_are_typed
