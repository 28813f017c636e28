use Rattle.std.proofs.Common.{sym, ap₂, subst, ◌∙◌}
use Rattle.std.proofs.lemmas.Result.{IfOk-weaker}
use Rattle.play_script.specs.declared.event.Event.{Event}
use Rattle.play_script.specs.declared.event.Event.TheVariants as event
use Rattle.mo_values.specs.Shapes.{Bytes}
use Rattle.stepper.specs.declared.state.Next.{Next}
use Rattle.stepper.specs.declared.state.Next.TheVariants as next
use Rattle.stepper.specs.declared.state.State.TheVariants as state
use Rattle.stepper.specs.Stepping.{IsNext}
use Rattle.stepper.proofs.Steps.{no_course}
use Rattle.stepper.proofs.stepper.with_actor.Goals as goal

pub returns-in-Install : goal.returns-in-Install
returns-in-Install c =
    let Of : Event → Type 0 = λ e. IsNext c.args.programs.now c.args.own.now e c.args.turns (state.Running c.args.running.now) next.NoCourse in
    subst Of (sym c.in-Install.is) (no_course c.args.programs.now c.args.own.now _ c.args.turns c.args.running.now)

pub returns-in-Call : goal.returns-in-Call
returns-in-Call c =
    let Of : Next → Event → Type 0 = λ z e. IsNext c.args.programs.now c.args.own.now e c.args.turns (state.Running c.args.running.now) z in
    IfOk-weaker c.call.result _ _
    (λ z h.
    subst (Of z)
    (ap₂ (λ (name bytes : Bytes). event.Call c.in-Call.query name c.in-Call.caller bytes) c.as_slice.ensures c.as_slice-in-Call.ensures ∙ sym c.in-Call.is)
    (h c.args.programs.now))
    c.call.ensures

pub returns-in-Reply : goal.returns-in-Reply
returns-in-Reply c =
    let Of : Next → Event → Type 0 = λ z e. IsNext c.args.programs.now c.args.own.now e c.args.turns (state.Running c.args.running.now) z in
    IfOk-weaker c.answered.result _ _ (λ z h. subst (Of z) (sym c.in-Reply.is) (h c.args.programs.now)) c.answered.ensures

pub returns-in-Reject : goal.returns-in-Reject
returns-in-Reject c =
    let Of : Next → Event → Type 0 = λ z e. IsNext c.args.programs.now c.args.own.now e c.args.turns (state.Running c.args.running.now) z in
    IfOk-weaker c.answered-in-Reject.result _ _ (λ z h. subst (Of z) (sym c.in-Reject.is) (h c.args.programs.now)) c.answered-in-Reject.ensures

pub returns-in-Upgrade : goal.returns-in-Upgrade
returns-in-Upgrade c =
    let Of : Next → Event → Type 0 = λ z e. IsNext c.args.programs.now c.args.own.now e c.args.turns (state.Running c.args.running.now) z in
    IfOk-weaker c.upgrade_to.result _ _ (λ z h. subst (Of z) (sym c.in-Upgrade.is) h) c.upgrade_to.ensures
