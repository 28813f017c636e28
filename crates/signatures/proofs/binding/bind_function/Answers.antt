use Rattle.type_terms.specs.declared.form.Form.TheVariants as form
use Rattle.std.proofs.Common.{refl}
use Rattle.signatures.specs.Naming.{function_of, no_more}
use Rattle.signatures.proofs.Steps.{made_first}
use Rattle.signatures.proofs.binding.bind_function.Goals as goal

pub returns : goal.returns
returns c =
    made_first c.args.name.now c.args.generics (form.Function c.args.parameters c.args.of) c.in_ok-kind.kind c.args.types.now c.function.new.types c.in_ok-kind.ensures (function_of c.args.name.now c.args.generics c.args.parameters c.args.of) (λ later. refl) c.bind.new.types c.args.sharing.now c.args.names.now c.bind.new.names no_more c.bind.result c.bind.ensures
