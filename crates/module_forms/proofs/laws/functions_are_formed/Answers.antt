use Rattle.module_forms.proofs.Placed.{functions_formed_all}
use Rattle.module_forms.proofs.laws.functions_are_formed.Goals as goal

pub returns : goal.returns
returns c = functions_formed_all
