use Rattle.mo_types.proofs.Candid.{list_visited}
use Rattle.mo_types.proofs.candid_laws.a_list_has_two_entries.Goals as goal

pub returns : goal.returns
returns c = list_visited
