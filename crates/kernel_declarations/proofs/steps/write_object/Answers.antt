use Rattle.std.proofs.Common.{◌∙◌, [], ◌∷◌, ap}
use Rattle.typed_tree.specs.declared.expression.Step.{Step}
use Rattle.desugaring.specs.Frames.{Frame, value, with_entries}
use Rattle.kernel_declarations.specs.Becoming.{object_becomes}
use Rattle.kernel_declarations.proofs.Writing.{written}
use Rattle.kernel_declarations.proofs.steps.write_object.Goals as goal

pub returns : goal.returns
returns g c =
    written (object_becomes c.args.lists.now.layer.types.now c.args.note c.args.name.now c.args.fields.now) c.args.steps.now c.push.new.self c.args.frames.now c.push_value.new.self c.push.result (c.in_ok-step.step ∷ [])
    (ap (λ (z : Step). z ∷ []) c.in_ok-step.ensures.made)
    (c.in_ok-push_value.ensures ∙ ap (λ (f : Frame). with_entries (value c.args.name.now ∷ []) f) c.in_ok-step.ensures.same)
    c.push.ensures.ok
