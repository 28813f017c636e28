use Rattle.std.proofs.lemmas.Result.{IfOk-weaker}
use Rattle.arena_events.proofs.Goings.{idle_taken, taken_body, taken_given, taken_sound, waiting_taken}
use Rattle.arena_events.proofs.answering.go_with.Goals as goal

pub run_waiting-requires-clause-sound : goal.run_waiting-requires-clause-sound
run_waiting-requires-clause-sound c = taken_sound c.args.number c.args.owner c.args.actor c.take_body-actor.result c.take_body-actor.ensures c.requires.sound

pub run_waiting-requires-clause-given : goal.run_waiting-requires-clause-given
run_waiting-requires-clause-given c = taken_given c.args.number c.args.owner c.args.actor c.take_body-actor.result c.args.given c.take_body-actor.ensures c.requires.given

pub run_waiting-requires-clause-body : goal.run_waiting-requires-clause-body
run_waiting-requires-clause-body c = taken_body c.args.number c.args.owner c.args.actor c.take_body-actor.result c.in-Some.body c.take_body-actor.ensures c.in-Some.is c.requires.sound

pub returns-in-Some : goal.returns-in-Some
returns-in-Some c =
    IfOk-weaker c.run_waiting.result _ _
    (λ r h. waiting_taken c.args.number c.args.owner c.args.actor c.args.types.now c.args.own.now c.args.given c.args.turns c.take_body-actor.result c.in-Some.body c.take_body-actor.ensures c.in-Some.is r h)
    c.run_waiting.ensures

pub returns-in-None : goal.returns-in-None
returns-in-None c =
    rw (← c.no_effects.ensures) at (idle_taken c.args.number c.args.owner c.args.actor c.args.types.now c.args.own.now c.args.given c.args.turns c.take_body-actor.result c.take_body-actor.ensures c.in-None.is c.requires.sound)
