use Rattle.std.proofs.Common.{[], ◌∷◌}
use Rattle.mo_values.specs.declared.operation.Operation.TheVariants as op
use Rattle.kernel_nodes.specs.Made.{operates_at}
use Rattle.kernel_nodes.proofs.Rolling.{held_on}
use Rattle.kernel_members.proofs.members.read_field.Goals as goal

pub returns : goal.returns
returns c = held_on c.args.types.now c.args.kind c.held.result c.args.mutable c.in_ok-value.value (operates_at c.args.types.now c.args.kind (op.Field c.args.name.now) (c.args.a ∷ [])) c.in_ok-value.ensures c.held.ensures
