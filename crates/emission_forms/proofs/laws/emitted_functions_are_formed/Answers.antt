use Rattle.emission_forms.proofs.Functions.{functions_formed}
use Rattle.emission_forms.proofs.laws.emitted_functions_are_formed.Goals as goal

pub returns : goal.returns
returns c = functions_formed
