use Rattle.abstract_type_walk.proofs.TypeMaking.{arguments_made}
use Rattle.abstract_type_walk.proofs.type_walk.TypeWalk.arguments.Goals as goal

pub returns-in_ok-number_behind-in-Some : goal.returns-in_ok-number_behind-in-Some
returns-in_ok-number_behind-in-Some g c = rw c.in-Some.is (arguments_made _ _ _ _ _ (rw c.as_slice.ensures at c.in_ok-made-in-Some.ensures) c.in_ok-number_behind-in-Some.ensures)
