use Rattle.std.proofs.Common.{sym, subst}
use Rattle.arena_coding.proofs.Written.{ok_more}
use Rattle.arena_executions.specs.declared.reached.Reached.{Reached}
use Rattle.arena_saving.specs.Saving.{IsReaching}
use Rattle.arena_saving.proofs.saving.saved_as.Goals as goal

pub returns : goal.returns
returns c =
    ok_more _ _ c.ended_as.result c.ended_as.ensures
    (λ s h.
    let Of : Reached → Type 0 = λ r. IsReaching c.args.types.now c.args.stable.now c.args.machine c.args.exports r s in
    subst Of (sym c.in-Ended.is) h)
