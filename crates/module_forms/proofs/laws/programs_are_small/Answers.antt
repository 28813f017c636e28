use Rattle.module_forms.proofs.Sizes.{programs_small}
use Rattle.module_forms.proofs.laws.programs_are_small.Goals as goal

pub returns : goal.returns
returns c = programs_small
