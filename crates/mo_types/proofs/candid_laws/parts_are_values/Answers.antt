use Rattle.mo_types.proofs.Candid.{flat_tree}
use Rattle.mo_types.proofs.candid_laws.parts_are_values.Goals as goal

pub returns : goal.returns
returns c = λ parts. flat_tree parts
