use Rattle.abstract_type_walk.proofs.TypeMaking.{type_arguments_made}
use Rattle.abstract_type_walk.proofs.type_making.abstract_type_arguments.Goals as goal

pub returns-in_ok-number_behind-in-Some : goal.returns-in_ok-number_behind-in-Some
returns-in_ok-number_behind-in-Some c = rw c.in-Some.is (type_arguments_made _ _ _ _ _ (rw c.as_slice.ensures at c.in_ok-made-in-Some.ensures) c.in_ok-number_behind-in-Some.ensures)
