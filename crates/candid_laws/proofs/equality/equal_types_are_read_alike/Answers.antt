use Rattle.candid_laws.proofs.Along.{reads_along}
use Rattle.candid_laws.proofs.equality.equal_types_are_read_alike.Goals as goal

pub returns : goal.returns
returns c = λ head other types others v w bytes s e t h. reads_along head other types others v w bytes s e t h
