use Rattle.module_forms.proofs.Spelling.{programs_spelled}
use Rattle.module_forms.proofs.laws.programs_are_spelled.Goals as goal

pub returns : goal.returns
returns c = programs_spelled
