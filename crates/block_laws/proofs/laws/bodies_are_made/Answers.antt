use Rattle.block_laws.proofs.Bodies.{bodies_are_made}
use Rattle.block_laws.proofs.laws.bodies_are_made.Goals as goal

pub returns : goal.returns
returns c = bodies_are_made
