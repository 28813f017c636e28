use Rattle.kernel_methods.proofs.Typed.{shared_found}
use Rattle.kernel_methods.proofs.shared.is_shared_type.Goals as goal

pub returns-in-Some : goal.returns-in-Some
returns-in-Some c = λ h. shared_found c.args.types.now.forms c.terms.result.now c.args.kind _ c.in-Some.form.now c.is_shared_form.result c.terms.ensures c.index.ensures c.in-Some.ensures.founded c.in-Some.ensures.there c.is_shared_form.ensures h
