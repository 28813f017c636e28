use Rattle.mo_types.proofs.Messages.{variable_saved}
use Rattle.mo_types.proofs.candid_laws.a_variable_is_saved.Goals as goal

pub returns : goal.returns
returns c = variable_saved
