use Rattle.kernel_types.proofs.Numbered.{form_found}
use Rattle.kernel_types.proofs.types.KernelTypes.number_of_form.Goals as goal

pub returns-in-Some : goal.returns-in-Some
returns-in-Some c = form_found c.self.inside.types c.args.self.now c.self.invariant c.self.view_is c.number.result c.terms.result.now c.in-Some.kind c.args.form.now c.terms.ensures c.in-Some.ensures.there c.number.ensures
