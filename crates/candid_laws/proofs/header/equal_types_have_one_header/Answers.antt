use Rattle.mo_types.specs.Wire.{refs, wire}
use Rattle.mo_types.specs.Spelling.{shortest}
use Rattle.candid_laws.proofs.Headers.{canonical_along}
use Rattle.candid_laws.proofs.header.equal_types_have_one_header.Goals as goal

pub returns : goal.returns
returns c = λ head other types others bytes s k. canonical_along (wire head) (wire other) shortest (refs types) (refs others) bytes s k
