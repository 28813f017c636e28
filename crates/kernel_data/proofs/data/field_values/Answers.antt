use Rattle.std.proofs.Common.{◌∙◌, ap}
use Rattle.desugaring.specs.Frames.{Frame}
use Rattle.kernel_parts.proofs.Looping.{pushed}
use Rattle.kernel_data.specs.Fields.{field_of}
use Rattle.kernel_data.proofs.data.field_values.Goals as goal

pub loop-field-preserved : goal.loop-field-preserved
loop-field-preserved g c = record {
  made = pushed (field_of c.args.layer.now.types.now c.args.frames.now c.args.note.kind) c.args.list.now c.loop-field.field-index c.field-item.result c.loop-field.made c.push.new.self c.in_ok-value.value c.loop-field-test.true c.field-item.is c.loop-field.invariant.made
      (c.in_ok-value.ensures.made ∙ ap (λ (f : Frame). field_of c.args.layer.now.types.now f c.args.note.kind c.field-item.result) c.loop-field.invariant.same) c.in_ok-push.ensures.ok;
  same = c.in_ok-value.ensures.same ∙ c.loop-field.invariant.same;
}
