use Rattle.std.proofs.Common.{List, ◌++◌, ◌∷◌, [], sym, ap, ◌∙◌}
use Rattle.arena_actors.specs.declared.actor.Activation.{Activation}
use Rattle.arena_actors.specs.declared.actor.Activation.TheVariants as activation
use Rattle.stepper.proofs.Repeats.{repeat_more}
use Rattle.stepper.proofs.installing.answered.Goals as goal

pub loop-preserved : goal.loop-preserved
loop-preserved c =
    c.in_ok-push.ensures.ok ∙ ap (λ (xs : List Activation). xs ++ activation.Answered ∷ []) c.loop.invariant ∙ sym (repeat_more c.loop.counter activation.Answered)
