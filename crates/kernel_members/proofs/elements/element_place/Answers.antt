use Rattle.std.proofs.Common.{[], ◌∷◌, refl}
use Rattle.mo_values.specs.declared.operation.Operation.TheVariants as op
use Rattle.kernel_nodes.proofs.Rolling.{operates_on}
use Rattle.kernel_members.proofs.elements.element_place.Goals as goal

pub returns : goal.returns
returns c = operates_on c.args.types.now c.args.kind c.operates.result op.Element op.Element c.in_ok-operands.operands (c.args.a ∷ c.args.i ∷ []) refl c.in_ok-operands.ensures c.operates.ensures
