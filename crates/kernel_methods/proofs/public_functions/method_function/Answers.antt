use Rattle.std.proofs.Common.{◌∙◌, List, ap}
use Rattle.abstract_types.specs.declared.patterns.Pattern.{Pattern}
use Rattle.value_scopes.specs.declared.note.Note.{Note}
use Rattle.value_scopes.specs.Values.{noted}
use Rattle.kernel_patterns.specs.Written.{patterns_of}
use Rattle.kernel_methods.specs.Methods.{body_in}
use Rattle.kernel_methods.proofs.Adding.{function_is}
use Rattle.kernel_methods.proofs.public_functions.method_function.Goals as goal

pub returns-clause-made : goal.returns-clause-made
returns-clause-made g c =
    let s = c.args.layer.now.types.now in
    function_is s c.args.frames.now c.args.query c.args.context.now c.args.of.now c.args.body.now c.method_sort.result c.new.result c.in_ok-nodes.nodes c.in_ok-parameters.parameters c.in_ok-made.made c.method_sort.ensures c.new.ensures (c.in_ok-nodes.ensures (noted s.forms))
    (c.in_ok-parameters.ensures ∙ ap (λ (l : List (Pattern Note)). patterns_of s l) c.as_slice.ensures)
    (c.in_ok-made.ensures.made ∙ ap (λ (l : List (Pattern Note)). body_in s c.args.frames.now c.args.context.now l c.args.body.now) c.as_slice-2.ensures)
