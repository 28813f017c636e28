use Rattle.source_laws.proofs.Recursion.{lists_are_ready}
use Rattle.source_laws.proofs.laws.lists_are_ready.Goals as goal

pub returns : goal.returns
returns c = lists_are_ready
