use Rattle.node_laws.proofs.ProgramNodes.{classes_are_covered}
use Rattle.node_laws.proofs.laws.classes_are_covered.Goals as goal

pub returns : goal.returns
returns c = classes_are_covered
