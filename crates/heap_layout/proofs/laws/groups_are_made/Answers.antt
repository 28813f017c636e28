use Rattle.heap_layout.proofs.Makes.{groups_made}
use Rattle.heap_layout.proofs.laws.groups_are_made.Goals as goal

pub returns : goal.returns
returns c = groups_made
