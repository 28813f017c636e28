use Rattle.std.proofs.Common.{◌∙◌, List, ◌++◌, ap}
use Rattle.typing_rules.specs.AbstractSyntax.{Bytes}
use Rattle.judged_parts.specs.Parts.{See}
use Rattle.kernel_methods.specs.Methods.{context_names_of, parameter_names_of}
use Rattle.kernel_methods.proofs.Around.{pushed_is}
use Rattle.kernel_methods.proofs.bodies.enter_method.Goals as goal

pub returns-clause-pushed : goal.returns-clause-pushed
returns-clause-pushed c = λ (see : See).
    let own : List Bytes = parameter_names_of see c.args.parameters.now in
    let whole : List Bytes = context_names_of see c.args.context.now in
    pushed_is c.args.frames.now c.push_names.new.self c.push_hidden_names.new.frames c.parameter_names.new.names c.as_slice.result.now c.as_slice-2.result.now own c.new-hiding.result c.as_slice-3.result.now
    c.new-hiding.ensures (c.in_ok-parameter_names.ensures see) c.as_slice.ensures c.as_slice-2.ensures whole
    (c.as_slice-3.ensures ∙ (c.in_ok-add_context.ensures see ∙ ap (λ (l : List Bytes). l ++ whole) c.new-names.ensures)) c.in_ok-push_names.ensures c.in_ok-push_hidden_names.ensures
