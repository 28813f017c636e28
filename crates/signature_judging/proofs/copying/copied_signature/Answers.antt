use Rattle.std.proofs.Common.{◌∙◌, ap, map}
use Rattle.abstract_types.specs.TypeView.{annotation, parameter}
use Rattle.typed_patterns.specs.Binding.{patterns_in}
use Rattle.signature_judging.proofs.Copied.{signature_again}
use Rattle.signature_judging.proofs.copying.copied_signature.Goals as goal

pub returns : goal.returns
returns c = λ later.
    signature_again (map parameter c.in_ok-generics.generics) (map parameter c.args.signature.now.generics) (patterns_in c.args.parameters later) (annotation c.in_ok-result.result) (annotation c.args.signature.now.result)
    (c.in_ok-generics.ensures ∙ ap (map parameter) c.as_slice.ensures) c.in_ok-result.ensures
