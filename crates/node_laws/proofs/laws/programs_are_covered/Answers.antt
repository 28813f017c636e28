use Rattle.node_laws.proofs.ProgramNodes.{programs_are_covered}
use Rattle.node_laws.proofs.laws.programs_are_covered.Goals as goal

pub returns : goal.returns
returns c = programs_are_covered
