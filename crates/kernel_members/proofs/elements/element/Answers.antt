use Rattle.kernel_members.proofs.Accessed.{element_made}
use Rattle.kernel_members.proofs.Heads.{mutable_is}
use Rattle.kernel_members.proofs.elements.element.Goals as goal

pub returns : goal.returns
returns c =
    element_made c.args.types.now c.args.kind c.held.result c.args.of c.is_mutable-mutable.result c.in_ok-value.value c.args.a c.args.i
    (mutable_is c.args.types.now c.args.of c.in_ok-head.head.now c.in_ok-head.ensures c.is_mutable-mutable.result c.is_mutable-mutable.ensures) c.in_ok-value.ensures c.held.ensures
