use Rattle.candid_laws.proofs.Types.{equal_types}
use Rattle.candid_laws.proofs.header.types_of_one_header_are_equal.Goals as goal

pub returns : goal.returns
returns c = λ head other types others bytes s t h k. equal_types head other types others bytes s t h k
