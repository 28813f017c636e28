use Rattle.mo_types.proofs.Candid.{number_read}
use Rattle.mo_types.proofs.candid_laws.a_number_is_read.Goals as goal

pub returns : goal.returns
returns c = number_read
