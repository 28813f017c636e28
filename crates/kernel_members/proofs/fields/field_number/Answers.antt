use Rattle.kernel_members.proofs.Heads.{field_is}
use Rattle.kernel_members.proofs.fields.field_number.Goals as goal

pub returns : goal.returns
returns c = field_is c.args.types.now c.args.label.now c.args.kind c.in_ok-head.head.now c.field_at.result c.in_ok-head.ensures c.field_at.ensures
