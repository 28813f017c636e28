use Rattle.kernel_types.proofs.Numbered.{number_found}
use Rattle.kernel_types.proofs.types.KernelTypes.number.Goals as goal

pub returns-in-Some : goal.returns-in-Some
returns-in-Some c = number_found c.self.inside.types c.args.self.now c.self.invariant c.self.view_is c.in-Some.id c.args.kind c.in-Some.ensures.there
