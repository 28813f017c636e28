use Rattle.subtype_laws.proofs.EqualWires.{same_wires}
use Rattle.subtype_laws.proofs.messages.equal_types_have_equal_candid_types.Goals as goal

pub returns : goal.returns
returns g c = λ head ts us s p q. same_wires head ts us s p q
