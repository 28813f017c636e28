use Rattle.std.proofs.Common.{[], ◌∷◌, ap}
use Rattle.mo_values.specs.declared.operation.Operation.TheVariants as op
use Rattle.kernel_nodes.proofs.Rolling.{operates_on}
use Rattle.kernel_members.proofs.members.method.Goals as goal

pub returns : goal.returns
returns c =
    operates_on c.args.types.now c.args.kind c.operates.result (op.Method c.in_ok-label.label) (op.Method c.args.name.now) c.in_ok-operands.operands (c.args.a ∷ [])
    (ap op.Method c.in_ok-label.ensures) c.in_ok-operands.ensures c.operates.ensures
