use Rattle.std.proofs.Common.{[], ◌∷◌, ap}
use Rattle.mo_values.specs.declared.operation.Operation.TheVariants as op
use Rattle.kernel_operators.specs.Operations.{kind_in}
use Rattle.kernel_operators.proofs.Operators.{operated}
use Rattle.kernel_operators.proofs.operands.negative.Goals as goal

pub returns : goal.returns
returns c =
    operated c.operates.result c.args.types.now c.args.kind c.args.a c.args.a (op.Negate c.in_ok-of.of) (op.Negate (kind_in c.args.types.now c.args.kind)) c.in_ok-operands.operands (c.args.a ∷ [])
    (ap (λ k. op.Negate k) c.in_ok-of.ensures) c.in_ok-operands.ensures c.operates.ensures
