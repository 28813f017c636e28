use Rattle.elaboration_formed.proofs.Programs.{trees_are_shaped, functions_are_shaped, programs_are_shaped}
use Rattle.elaboration_formed.proofs.laws.typed_trees_are_shaped.Goals as goal

pub returns-clause-trees : goal.returns-clause-trees
returns-clause-trees c = trees_are_shaped

pub returns-clause-functions : goal.returns-clause-functions
returns-clause-functions c = functions_are_shaped

pub returns-clause-programs : goal.returns-clause-programs
returns-clause-programs c = programs_are_shaped
