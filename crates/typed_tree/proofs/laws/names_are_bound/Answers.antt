use Rattle.typed_tree.proofs.ScopedPrograms.{program_scoped}
use Rattle.typed_tree.proofs.laws.names_are_bound.Goals as goal

pub returns : goal.returns
returns c = λ p w. program_scoped p w
