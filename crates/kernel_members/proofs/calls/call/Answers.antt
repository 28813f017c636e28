use Rattle.kernel_members.proofs.Accessed.{call_made}
use Rattle.kernel_members.proofs.calls.call.Goals as goal

pub returns : goal.returns
returns c = call_made c.args.types.now c.args.kind c.acts.result c.args.of c.in_ok-action.action c.args.operands c.in_ok-action.ensures c.acts.ensures
