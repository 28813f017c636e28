use Rattle.std.proofs.Common.{ap, [], ◌∷◌, ◌++◌, ◌∙◌, arith}
use Rattle.core_members.proofs.Listing.{level_step}
use Rattle.core_members.proofs.calls.levels_from.Goals as goal

pub loop-next-preserved : goal.loop-next-preserved
loop-next-preserved c =
    let below = c.loop-next.invariant.0 in
    (omega (arith, below), c.in_ok-push.ensures.items ∙ ap (λ ls. ls ++ c.loop-next.next ∷ []) c.loop-next.invariant.1 ∙ level_step c.args.level c.loop-next.next below)
