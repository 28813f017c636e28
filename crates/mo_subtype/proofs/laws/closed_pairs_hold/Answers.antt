use Rattle.mo_types.specs.Graph.{head_at}
use Rattle.mo_subtype.proofs.Rounds.{closed}
use Rattle.mo_subtype.proofs.laws.closed_pairs_hold.Goals as goal

pub returns : goal.returns
returns c = λ types pairs q k i. record { by = λ n. closed (head_at types) pairs (λ p j h. k.each p (j, h)) n q i.0 i.1 }
