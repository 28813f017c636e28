use Rattle.std.proofs.Common.{sym, subst}
use Rattle.arena_coding.proofs.Written.{ok_more}
use Rattle.arena_executions.specs.declared.reached.End.{End}
use Rattle.arena_saving.specs.Saving.{IsEnding}
use Rattle.arena_saving.proofs.Runs.{ending_other}
use Rattle.arena_saving.proofs.saving.ended_as.Goals as goal

pub returns-in-Returns : goal.returns-in-Returns
returns-in-Returns c =
    ok_more _ _ c.kept.result c.kept.ensures
    (λ s h.
    let Of : End → Type 0 = λ e. IsEnding c.args.types.now c.args.stable.now c.args.machine c.args.exports e s in
    subst Of (sym c.in-Returns.is) h)

pub returns : goal.returns
returns c =
    ending_other c.args.types.now c.args.stable.now c.args.machine c.args.exports c.args.end (λ v q. c.in_default.not-Returns v q) (λ text q. c.in_default.not-Traps text q)
