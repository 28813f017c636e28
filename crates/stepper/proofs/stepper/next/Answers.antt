use Rattle.std.proofs.Common.{sym, subst}
use Rattle.std.proofs.lemmas.Result.{IfOk-weaker}
use Rattle.stepper.specs.declared.state.Next.{Next}
use Rattle.stepper.specs.declared.state.State.{State}
use Rattle.stepper.specs.Standing.{IsStanding}
use Rattle.stepper.specs.Stepping.{IsNext}
use Rattle.stepper.proofs.stepper.next.Goals as goal

pub with_actor-requires-clause-actor : goal.with_actor-requires-clause-actor
with_actor-requires-clause-actor c =
    let Of : State → Type 0 = λ s. IsStanding s in
    subst Of c.in-Running.is c.requires.standing

pub returns-in-NoActor : goal.returns-in-NoActor
returns-in-NoActor c =
    let x = c.args.stepper.now in
    let Of : Next → State → Type 0 = λ z s. IsNext x.programs.now x.own.now c.args.event.now c.args.turns s z in
    IfOk-weaker c.without_actor.result _ _ (λ z h. subst (Of z) (sym c.in-NoActor.is) h) c.without_actor.ensures

pub returns-in-Running : goal.returns-in-Running
returns-in-Running c =
    let x = c.args.stepper.now in
    let Of : Next → State → Type 0 = λ z s. IsNext x.programs.now x.own.now c.args.event.now c.args.turns s z in
    IfOk-weaker c.with_actor.result _ _ (λ z h. subst (Of z) (sym c.in-Running.is) h) c.with_actor.ensures
