use Rattle.std.proofs.Common.{List, refl, subst}
use Rattle.mo_types.specs.declared.node.TypeId.{TypeId}
use Rattle.mo_meaning.specs.Actor.{surroundings}
use Rattle.mo_meaning.specs.Coding.{Coding, IsFaithful}
use Rattle.arena_bodies.specs.Bodies.{IsResumedRun}
use Rattle.arena_executions.specs.Surrounding.{IsAround}
use Rattle.arena_actors.specs.declared.actor.Made.{Made}
use Rattle.arena_actors.specs.States.{table_of}
use Rattle.arena_outcomes.proofs.Runs.{resumed_so}
use Rattle.arena_outcomes.proofs.running.run_waiting.Goals as goal

pub returns : goal.returns
returns c =
    let types = c.args.types.now in
    let own = c.args.own.now in
    let x = c.args.actor in
    let b = c.args.body in
    let around = c.in_ok-around.around in
    let Around_by : List Made → Type 0 = λ ms. (coding : Coding) → IsFaithful coding → IsAround types around (surroundings coding types own (table_of coding types x.first ms)) in
    let Run_by : List TypeId → Type 0 = λ ts. IsResumedRun types around ts c.args.given b.focus c.args.turns c.begun-rest.result.execution c.in_ok-reached.reached c.run_resumed.new.execution in
    resumed_so types own b.results c.args.turns x c.requires.sound around (subst Around_by c.as_slice.ensures (λ coding faithful. c.in_ok-around.ensures coding types faithful)) c.run_resumed.new.execution
    c.in_ok-reached.reached b c.args.given c.begun-rest.result c.concluded.result refl c.begun-rest.ensures (subst Run_by c.as_slice-2.ensures c.in_ok-reached.ensures) c.concluded.ensures
