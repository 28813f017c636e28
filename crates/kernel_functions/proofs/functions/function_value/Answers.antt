use Rattle.std.proofs.Common.{◌∙◌, List, ap}
use Rattle.abstract_types.specs.declared.patterns.Pattern.{Pattern}
use Rattle.value_scopes.specs.declared.note.Note.{Note}
use Rattle.desugaring.specs.Frames.{in_function}
use Rattle.kernel_nodes.proofs.Rolling.{if_same}
use Rattle.kernel_parts.specs.Views.{tree_of}
use Rattle.kernel_scopes.specs.Bound.{parameters_of}
use Rattle.kernel_functions.specs.Functions.{function_in, made_of}
use Rattle.kernel_functions.proofs.Made.{function_is}
use Rattle.kernel_functions.proofs.functions.function_value.Goals as goal

pub returns-clause-made : goal.returns-clause-made
returns-clause-made g c =
    if_same c.made_function.result (made_of c.args.layer.now.types.now c.args.of.now c.in_ok-nodes.nodes c.in_ok-made.made) (function_in c.args.layer.now.types.now c.args.frames.now c.args.of.now c.args.body.now)
    (function_is c.args.layer.now.types.now c.args.frames.now c.args.of.now c.args.body.now c.in_ok-nodes.nodes c.in_ok-made.made (c.in_ok-nodes.ensures c.args.layer.now.types.now)
    (c.in_ok-made.ensures.made ∙ ap (λ (l : List (Pattern Note)). tree_of c.args.layer.now.types.now (in_function (parameters_of c.args.layer.now.types.now l) c.args.frames.now) c.args.body.now) c.as_slice.ensures)) c.made_function.ensures
