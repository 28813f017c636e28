use Rattle.kernel_types.proofs.Numbered.{head_found}
use Rattle.kernel_types.proofs.types.KernelTypes.head.Goals as goal

pub returns-in-Some : goal.returns-in-Some
returns-in-Some c = head_found c.self.inside.types c.args.self.now c.self.invariant c.self.view_is c.args.kind c.in-Some.head.now c.in-Some.ensures.there
