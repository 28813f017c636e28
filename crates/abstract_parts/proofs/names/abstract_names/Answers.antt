use Rattle.abstract_parts.proofs.ListMaking.{no_names_made, names_made}
use Rattle.abstract_parts.proofs.names.abstract_names.Goals as goal

pub returns-in-None : goal.returns-in-None
returns-in-None c = rw c.in-None.is (no_names_made _ _ _ c.in_ok-open.ensures c.new.ensures)

pub returns-in_ok-number_behind-in-Some : goal.returns-in_ok-number_behind-in-Some
returns-in_ok-number_behind-in-Some c = rw c.in-Some.is (names_made _ _ _ _ _ _ c.in_ok-open.ensures (rw c.as_slice.ensures at c.in_ok-made-in-Some.ensures) c.in_ok-number_behind-in-Some.ensures)
