use Rattle.std.proofs.Common.{◌≡◌, length, subst}
use Rattle.met_types.specs.States.{State}
use Rattle.kernel_types.proofs.types.KernelTypes.turns.Goals as goal

pub returns-clause-many : goal.returns-clause-many
returns-clause-many c = subst (λ (s : State). length s.listed.bounded ≡ length s.listed.bounds) c.self.view_is c.self.invariant.kept.stand.as_many_bounds
