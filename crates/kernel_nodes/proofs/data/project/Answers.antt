use Rattle.std.proofs.Common.{[], ◌∷◌, refl, ap}
use Rattle.mo_values.specs.declared.operation.Operation.TheVariants as op
use Rattle.kernel_nodes.proofs.Rolling.{operates_on}
use Rattle.kernel_nodes.proofs.data.project.Goals as goal

pub returns : goal.returns
returns c = operates_on c.args.types.now c.args.kind c.operate_on.result (op.Project c.in_ok-part.part) (op.Project c.args.number) (c.args.a ∷ []) (c.args.a ∷ []) (ap op.Project c.in_ok-part.ensures) refl c.operate_on.ensures
