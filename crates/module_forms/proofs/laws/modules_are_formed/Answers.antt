use Rattle.module_forms.proofs.Modules.{modules_formed}
use Rattle.module_forms.proofs.laws.modules_are_formed.Goals as goal

pub returns : goal.returns
returns c = modules_formed
