use Rattle.std.proofs.Common.{◌∙◌, List, false, ap}
use Rattle.typed_tree.specs.declared.expression.Step.{Step}
use Rattle.desugaring.specs.Frames.{Frame}
use Rattle.kernel_parts.specs.Views.{list_of}
use Rattle.kernel_objects.specs.Objects.{object_at}
use Rattle.kernel_objects.proofs.Made.{back, cuts}
use Rattle.kernel_objects.proofs.objects.object_block.Goals as goal

pub truncate-requires : goal.truncate-requires
truncate-requires g c = cuts c.args.lists.now.layer.types.now false c.args.fields.now c.args.frames.now c.list.new.frames c.in_ok-list.ensures.frame c.mark-mark.result c.mark-mark.ensures

pub returns-clause-made : goal.returns-clause-made
returns-clause-made g c =
    c.in_ok-made.ensures
    ∙ (ap (λ (f : Frame). object_at c.args.lists.now.layer.types.now f c.args.note.kind c.parts-steps.result.0 c.args.fields.now) c.in_ok-list.ensures.frame
    ∙ ap (λ (l : List Step). object_at c.args.lists.now.layer.types.now (list_of c.args.lists.now.layer.types.now c.args.frames.now false c.args.fields.now).frame c.args.note.kind l c.args.fields.now) (c.parts-steps.ensures.steps ∙ c.in_ok-list.ensures.steps))

pub returns-clause-same : goal.returns-clause-same
returns-clause-same g c =
    back c.args.lists.now.layer.types.now false c.args.fields.now c.args.frames.now c.list.new.frames c.in_ok-list.ensures.frame c.mark-mark.result c.truncate.new.self c.mark-mark.ensures c.truncate.ensures.exits c.truncate.ensures.names
