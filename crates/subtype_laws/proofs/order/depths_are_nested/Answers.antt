use Rattle.subtype_laws.proofs.Depths.{lesser}
use Rattle.subtype_laws.proofs.order.depths_are_nested.Goals as goal

pub returns : goal.returns
returns g c = λ head m n t u l s. lesser head m n t u l s
