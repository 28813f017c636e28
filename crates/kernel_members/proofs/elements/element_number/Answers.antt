use Rattle.kernel_members.proofs.Heads.{element_is}
use Rattle.kernel_members.proofs.elements.element_number.Goals as goal

pub returns-in-Some : goal.returns-in-Some
returns-in-Some c = element_is c.args.types.now c.args.kind c.in_ok-head.head.now c.in-Some.part c.in_ok-head.ensures c.in-Some.ensures
