use Rattle.declaration_laws.proofs.Lets.{lets_are_typed}
use Rattle.declaration_laws.proofs.laws.lets_are_typed.Goals as goal

pub returns : goal.returns
returns c = lets_are_typed
