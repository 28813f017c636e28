use Rattle.std.proofs.Common.{sym, subst}
use Rattle.std.proofs.lemmas.Result.{IfOk-weaker}
use Rattle.play_script.specs.declared.event.Event.{Event}
use Rattle.stepper.specs.declared.state.Next.{Next}
use Rattle.stepper.specs.declared.state.Next.TheVariants as next
use Rattle.stepper.specs.declared.state.State.TheVariants as state
use Rattle.stepper.specs.Stepping.{IsNext}
use Rattle.stepper.proofs.Installs.{ignored_answer, ignored_reject, ignored_upgrade, refused_next}
use Rattle.stepper.proofs.absent.without_actor.Goals as goal

pub returns-in-Install : goal.returns-in-Install
returns-in-Install c =
    let Of : Next → Event → Type 0 = λ z e. IsNext c.args.programs.now c.args.own.now e c.args.turns (state.NoActor c.args.came) z in
    IfOk-weaker c.install_at.result _ _ (λ z h. subst (Of z) (sym c.in-Install.is) h) c.install_at.ensures

pub returns-in-Call : goal.returns-in-Call
returns-in-Call c =
    let Of : Next → Event → Type 0 = λ z e. IsNext c.args.programs.now c.args.own.now e c.args.turns (state.NoActor c.args.came) z in
    IfOk-weaker c.refused.result _ _ (λ z is. subst (Of z) (sym c.in-Call.is) (refused_next c.args.programs.now c.args.own.now _ _ _ _ c.args.turns c.args.came z is)) c.refused.ensures

pub returns-in-Reply : goal.returns-in-Reply
returns-in-Reply c =
    let Of : Event → Type 0 = λ e. IsNext c.args.programs.now c.args.own.now e c.args.turns (state.NoActor c.args.came) next.Ignored in
    subst Of (sym c.in-Reply.is) (ignored_answer c.args.programs.now c.args.own.now _ _ c.args.turns c.args.came)

pub returns-in-Reject : goal.returns-in-Reject
returns-in-Reject c =
    let Of : Event → Type 0 = λ e. IsNext c.args.programs.now c.args.own.now e c.args.turns (state.NoActor c.args.came) next.Ignored in
    subst Of (sym c.in-Reject.is) (ignored_reject c.args.programs.now c.args.own.now _ _ _ c.args.turns c.args.came)

pub returns-in-Upgrade : goal.returns-in-Upgrade
returns-in-Upgrade c =
    let Of : Event → Type 0 = λ e. IsNext c.args.programs.now c.args.own.now e c.args.turns (state.NoActor c.args.came) next.Ignored in
    subst Of (sym c.in-Upgrade.is) (ignored_upgrade c.args.programs.now c.args.own.now _ c.args.turns c.args.came)
