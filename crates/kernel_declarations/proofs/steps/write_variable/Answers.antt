use Rattle.std.proofs.Common.{◌∙◌, [], ◌∷◌, ap}
use Rattle.typed_tree.specs.declared.expression.Step.{Step}
use Rattle.desugaring.specs.Frames.{Frame, cell, with_entries}
use Rattle.kernel_declarations.specs.Becoming.{variable_becomes}
use Rattle.kernel_declarations.proofs.Writing.{written}
use Rattle.kernel_declarations.proofs.steps.write_variable.Goals as goal

pub returns : goal.returns
returns g c =
    written (variable_becomes c.args.layer.now.types.now c.args.stable c.args.name.now c.args.a.now) c.args.steps.now c.push.new.self c.args.frames.now c.push_cell.new.self c.push.result (c.in_ok-step.step ∷ [])
    (ap (λ (z : Step). z ∷ []) c.in_ok-step.ensures.made)
    (c.in_ok-push_cell.ensures ∙ ap (λ (f : Frame). with_entries (cell c.args.name.now ∷ []) f) c.in_ok-step.ensures.same)
    c.push.ensures.ok
