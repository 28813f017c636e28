use Rattle.list_laws.proofs.Placed.{lists_are_typed}
use Rattle.list_laws.proofs.laws.lists_are_typed.Goals as goal

pub returns : goal.returns
returns c = lists_are_typed
