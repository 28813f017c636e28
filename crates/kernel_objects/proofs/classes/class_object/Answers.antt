use Rattle.std.proofs.Common.{◌∙◌, List, ap}
use Rattle.abstract_types.specs.declared.patterns.Pattern.{Pattern}
use Rattle.value_scopes.specs.declared.note.Note.{Note}
use Rattle.desugaring.specs.Frames.{Frame, with_names}
use Rattle.kernel_scopes.specs.Bound.{parameters_of}
use Rattle.kernel_scopes.proofs.Around.{back, cuts}
use Rattle.kernel_objects.specs.Objects.{object_in}
use Rattle.kernel_objects.proofs.classes.class_object.Goals as goal

pub truncate-requires : goal.truncate-requires
truncate-requires g c = cuts c.args.frames.now c.enter_parameters.new.frames c.object_block.new.frames (parameters_of c.args.lists.now.layer.types.now c.as_slice.result.now) (c.in_ok-mark.ensures.pushed c.args.lists.now.layer.types.now) c.in_ok-made.ensures.same c.in_ok-mark.mark c.in_ok-mark.ensures.mark

pub returns-clause-made : goal.returns-clause-made
returns-clause-made g c =
    c.in_ok-made.ensures.made ∙ ap (λ (f : Frame). object_in c.args.lists.now.layer.types.now f c.args.note.kind c.args.fields.now) (c.in_ok-mark.ensures.pushed c.args.lists.now.layer.types.now ∙ ap (λ (l : List (Pattern Note)). with_names (parameters_of c.args.lists.now.layer.types.now l) c.args.frames.now) c.as_slice.ensures)

pub returns-clause-same : goal.returns-clause-same
returns-clause-same g c =
    back c.args.frames.now c.enter_parameters.new.frames c.object_block.new.frames (parameters_of c.args.lists.now.layer.types.now c.as_slice.result.now) (c.in_ok-mark.ensures.pushed c.args.lists.now.layer.types.now) c.in_ok-made.ensures.same c.in_ok-mark.mark c.truncate.new.self c.in_ok-mark.ensures.mark
    c.truncate.ensures.exits c.truncate.ensures.names
