use Rattle.subtype_laws.proofs.Bounds.{needed}
use Rattle.subtype_laws.proofs.order.transitivity_needs_equal_bounds.Goals as goal

pub returns : goal.returns
returns g c = λ head self trans t u b c n e f apart. needed head self trans t u b c n e f apart
