use Rattle.node_laws.proofs.ProgramNodes.{functions_are_covered}
use Rattle.node_laws.proofs.laws.functions_are_covered.Goals as goal

pub returns : goal.returns
returns c = functions_are_covered
