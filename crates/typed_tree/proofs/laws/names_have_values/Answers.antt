use Rattle.typed_tree.proofs.Counts.{as_many_as_names, as_many_as_all_names}
use Rattle.typed_tree.proofs.laws.names_have_values.Goals as goal

pub returns-clause-one : goal.returns-clause-one
returns-clause-one g c = λ p v vs e. as_many_as_names p v vs e

pub returns-clause-all : goal.returns-clause-all
returns-clause-all g c = λ ps us vs e. as_many_as_all_names ps us vs e
