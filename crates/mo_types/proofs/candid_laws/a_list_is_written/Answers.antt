use Rattle.mo_types.proofs.Messages.{list_written}
use Rattle.mo_types.proofs.candid_laws.a_list_is_written.Goals as goal

pub returns : goal.returns
returns c = list_written
