use Rattle.std.proofs.Common.{refl}
use Rattle.typed_tree.proofs.rows.patterns_are_as_wanted.Goals as goal

pub returns-clause-cases : goal.returns-clause-cases
returns-clause-cases c = refl

pub returns-clause-weights : goal.returns-clause-weights
returns-clause-weights c = refl
