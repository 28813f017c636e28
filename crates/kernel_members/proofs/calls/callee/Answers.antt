use Rattle.kernel_nodes.proofs.Rolling.{if_same}
use Rattle.kernel_members.specs.Accesses.{callee_at, callee_of}
use Rattle.kernel_members.proofs.Heads.{callee_is}
use Rattle.kernel_members.proofs.calls.callee.Goals as goal

pub returns : goal.returns
returns c = if_same c.callee_at.result (callee_at c.in_ok-head.head.now) (callee_of c.args.types.now c.args.of) (callee_is c.args.types.now c.args.of c.in_ok-head.head.now c.in_ok-head.ensures) c.callee_at.ensures
