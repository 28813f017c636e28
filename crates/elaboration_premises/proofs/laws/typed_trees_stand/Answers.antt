use Rattle.elaboration_premises.proofs.Programs.{trees_stand, starts_stand, methods_stand, hooks_stand}
use Rattle.elaboration_premises.proofs.laws.typed_trees_stand.Goals as goal

pub returns-clause-trees : goal.returns-clause-trees
returns-clause-trees c = trees_stand

pub returns-clause-starts : goal.returns-clause-starts
returns-clause-starts c = starts_stand

pub returns-clause-methods : goal.returns-clause-methods
returns-clause-methods c = methods_stand

pub returns-clause-hooks : goal.returns-clause-hooks
returns-clause-hooks c = hooks_stand
