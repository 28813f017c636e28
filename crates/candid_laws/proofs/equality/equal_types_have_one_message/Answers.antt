use Rattle.candid_laws.proofs.Along.{code_along}
use Rattle.candid_laws.proofs.equality.equal_types_have_one_message.Goals as goal

pub returns : goal.returns
returns c = λ head other types others v w bytes s e h. code_along head other types others v w bytes s e h
