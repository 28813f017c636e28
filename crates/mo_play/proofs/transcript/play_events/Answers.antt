use Rattle.std.proofs.Common.{arith, ap, ◌∙◌, ◌≡◌}
use Rattle.canister.specs.Executed.{execution_limits}
use Rattle.canister_host.specs.HostRun.{step, outcome}
use Rattle.canister.specs.Shown.{shown, limits_of_canister}
use Rattle.mo_play.proofs.Events.{event_played, event_broken, played_stopped, step_with}
use Rattle.mo_play.proofs.transcript.play_events.Goals as goal

pub returns-in-Err-clause-put : goal.returns-in-Err-clause-put
returns-in-Err-clause-put g c = played_stopped _ _ _ _ _ _ _ _ _ c.loop-event.invariant.played

pub returns-in-Err-put_items-clause-put : goal.returns-in-Err-put_items-clause-put
returns-in-Err-put_items-clause-put g c =
    let h : step c.args.modules.now (limits_of_canister c.args.canister.now) c.args.canister.now.own c.event-item.result (shown c.args.modules.now c.loop-event.canister)
    ≡ outcome c.in-Ok.items (shown c.args.modules.now c.event.new.self) =
    step_with c.args.modules.now (limits_of_canister c.loop-event.canister) (limits_of_canister c.args.canister.now) c.loop-event.canister.own c.args.canister.now.own c.event-item.result
    (shown c.args.modules.now c.loop-event.canister) (outcome c.in-Ok.items (shown c.args.modules.now c.event.new.self)) (ap execution_limits c.loop-event.invariant.limits) c.loop-event.invariant.own c.in-Ok.ensures.items in
    event_broken c.args.modules.now (limits_of_canister c.args.canister.now) c.args.canister.now.own c.args.events.now (shown c.args.modules.now c.args.canister.now) c.loop-event.event-index c.event-item.result
    (shown c.args.modules.now c.loop-event.canister) (shown c.args.modules.now c.event.new.self) c.in-Ok.items (g.O.Sink.shown c.args.out.now) (g.O.Sink.shown c.loop-event.out) (g.O.Sink.shown c.put_items.new.out)
    c.loop-event-test.true c.event-item.is h c.loop-event.invariant.played (rw c.as_slice.ensures at c.in-Err-put_items.ensures.put)

pub loop-event-preserved : goal.loop-event-preserved
loop-event-preserved g c =
    let h : step c.args.modules.now (limits_of_canister c.args.canister.now) c.args.canister.now.own c.event-item.result (shown c.args.modules.now c.loop-event.canister)
    ≡ outcome c.in-Ok.items (shown c.args.modules.now c.event.new.self) =
    step_with c.args.modules.now (limits_of_canister c.loop-event.canister) (limits_of_canister c.args.canister.now) c.loop-event.canister.own c.args.canister.now.own c.event-item.result
    (shown c.args.modules.now c.loop-event.canister) (outcome c.in-Ok.items (shown c.args.modules.now c.event.new.self)) (ap execution_limits c.loop-event.invariant.limits) c.loop-event.invariant.own c.in-Ok.ensures.items in
    record {
      sound = c.event.ensures.sound;
      number = omega (arith, c.in-Ok.ensures.events, c.loop-event.invariant.number);
      limits = c.event.ensures.limits ∙ c.loop-event.invariant.limits;
      own = c.event.ensures.own ∙ c.loop-event.invariant.own;
      played =
          event_played c.args.modules.now (limits_of_canister c.args.canister.now) c.args.canister.now.own c.args.events.now (shown c.args.modules.now c.args.canister.now) c.loop-event.event-index c.event-item.result
          (shown c.args.modules.now c.loop-event.canister) (shown c.args.modules.now c.event.new.self) c.in-Ok.items (g.O.Sink.shown c.args.out.now) (g.O.Sink.shown c.loop-event.out) (g.O.Sink.shown c.put_items.new.out)
          c.loop-event-test.true c.event-item.is h c.loop-event.invariant.played (rw c.as_slice.ensures at c.in-Ok-put_items.ensures.put);
      count = omega (arith, c.loop-event.invariant.count, c.put_items.ensures.cause.later);
    }
