use Rattle.std.proofs.Common.{◌∙◌, List, ap, map}
use Rattle.abstract_types.specs.declared.patterns.Pattern.{Pattern}
use Rattle.abstract_types.specs.declared.types.TypeParameter.{TypeParameter}
use Rattle.value_scopes.specs.declared.note.Note.{Note}
use Rattle.kernel_patterns.specs.Written.{patterns_of}
use Rattle.kernel_functions.specs.Functions.{parameter_of}
use Rattle.kernel_functions.proofs.Made.{made_is}
use Rattle.kernel_functions.proofs.functions.made_function.Goals as goal

pub returns : goal.returns
returns c =
    made_is c.args.types.now c.args.of.now c.in_ok-type_parameters.type_parameters c.args.nodes c.in_ok-parameters.parameters c.args.body
    (c.in_ok-type_parameters.ensures ∙ ap (λ (l : List TypeParameter). map (parameter_of c.args.types.now) l) c.as_slice.ensures)
    (c.in_ok-parameters.ensures ∙ ap (λ (l : List (Pattern Note)). patterns_of c.args.types.now l) c.as_slice-2.ensures)
