use Rattle.program_facts.proofs.Programs.{programs_are_in_order}
use Rattle.program_facts.proofs.laws.programs_are_in_order.Goals as goal

pub returns : goal.returns
returns c = programs_are_in_order
