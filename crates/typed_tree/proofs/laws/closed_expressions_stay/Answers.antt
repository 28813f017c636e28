use Rattle.typed_tree.proofs.Closed.{stays}
use Rattle.typed_tree.proofs.laws.closed_expressions_stay.Goals as goal

pub returns : goal.returns
returns c = λ s e h. stays 0 s e h
