use Rattle.std.proofs.Common.{◌∙◌, [], ◌∷◌, ap}
use Rattle.typed_tree.specs.declared.expression.Step.{Step}
use Rattle.desugaring.specs.Frames.{Frame, with_names}
use Rattle.kernel_scopes.specs.Bound.{names_of}
use Rattle.kernel_declarations.specs.Becoming.{let_becomes}
use Rattle.kernel_declarations.proofs.Writing.{written}
use Rattle.kernel_declarations.proofs.steps.write_let.Goals as goal

pub returns : goal.returns
returns g c =
    written (let_becomes c.args.layer.now.types.now c.args.q.now c.args.a.now) c.args.steps.now c.push.new.self c.args.frames.now c.enter_pattern.new.frames c.push.result (c.in_ok-step.step ∷ [])
    (ap (λ (z : Step). z ∷ []) c.in_ok-step.ensures.made)
    (c.in_ok-enter_pattern.ensures.pushed c.args.layer.now.types.now ∙ ap (λ (f : Frame). with_names (names_of c.args.layer.now.types.now c.args.q.now) f) c.in_ok-step.ensures.same)
    c.push.ensures.ok
