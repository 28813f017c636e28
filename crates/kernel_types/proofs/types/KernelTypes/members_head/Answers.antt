use Rattle.kernel_types.proofs.Promoting.{members_found}
use Rattle.kernel_types.proofs.types.KernelTypes.members_head.Goals as goal

pub returns : goal.returns
returns c = members_found c.args.self.now c.args.kind c.in_ok-promoted.field-0 c.head.result c.in_ok-promoted.ensures c.head.ensures
