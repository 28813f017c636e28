use Rattle.std.proofs.Common.{[], ◌∷◌, ap}
use Rattle.mo_values.specs.declared.operation.Operation.TheVariants as op
use Rattle.kernel_nodes.proofs.Rolling.{operates_on}
use Rattle.kernel_members.proofs.members.field.Goals as goal

pub returns : goal.returns
returns c =
    operates_on c.args.types.now c.args.kind c.operates.result (op.Field c.in_ok-label.label) (op.Field c.args.name.now) c.in_ok-operands.operands (c.args.a ∷ [])
    (ap op.Field c.in_ok-label.ensures) c.in_ok-operands.ensures c.operates.ensures
