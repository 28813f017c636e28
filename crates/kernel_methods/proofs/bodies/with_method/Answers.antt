use Rattle.std.proofs.Common.{◌∙◌, List, ap, map}
use Rattle.typing_rules.specs.AbstractSyntax.{Bytes}
use Rattle.value_scopes.specs.Values.{noted}
use Rattle.judged_parts.specs.Parts.{See}
use Rattle.desugaring.specs.Frames.{Entry, Frame, hidden_by}
use Rattle.kernel_parts.specs.Views.{tree_of}
use Rattle.kernel_methods.specs.Methods.{context_names_of, parameter_names_of}
use Rattle.kernel_methods.proofs.Around.{back, cuts}
use Rattle.kernel_methods.proofs.bodies.with_method.Goals as goal

pub truncate-requires : goal.truncate-requires
truncate-requires g c =
    let see : See = noted c.args.layer.now.types.now.forms in
    let xs : List Bytes = parameter_names_of see c.args.parameters.now in
    let es : List Entry = map (hidden_by xs) (context_names_of see c.args.context.now) in
    cuts es xs c.args.frames.now c.enter_method.new.frames c.part.new.frames (c.in_ok-mark.ensures.pushed see) c.in_ok-made.ensures.same c.in_ok-mark.mark c.in_ok-mark.ensures.mark

pub returns-clause-made : goal.returns-clause-made
returns-clause-made g c = c.in_ok-made.ensures.made ∙ ap (λ (f : Frame). tree_of c.args.layer.now.types.now f c.args.body.now) (c.in_ok-mark.ensures.pushed (noted c.args.layer.now.types.now.forms))

pub returns-clause-same : goal.returns-clause-same
returns-clause-same g c =
    let see : See = noted c.args.layer.now.types.now.forms in
    let xs : List Bytes = parameter_names_of see c.args.parameters.now in
    let es : List Entry = map (hidden_by xs) (context_names_of see c.args.context.now) in
    back es xs c.args.frames.now c.enter_method.new.frames c.part.new.frames (c.in_ok-mark.ensures.pushed see) c.in_ok-made.ensures.same c.in_ok-mark.mark c.truncate.new.self c.in_ok-mark.ensures.mark c.truncate.ensures.exits c.truncate.ensures.names
