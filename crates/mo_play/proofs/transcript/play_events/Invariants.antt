use Rattle.std.proofs.Common.{◌≡◌, ◌≤◌}
use Rattle.canister.specs.Shown.{shown, limits_of_canister, IsCanisterOf}
use Rattle.mo_play.proofs.Events.{HasPlayed}
use Rattle.mo_play.proofs.transcript.play_events.Given as goal

abbrev pub invariant-loop-event : goal.invariant-loop-event
invariant-loop-event g l = record {
  sound : IsCanisterOf l.modules l.canister;
  number : l.canister.events ≡ l.event-index;
  limits : l.canister.limits ≡ l.fn.canister.limits;
  own : l.canister.own ≡ l.fn.canister.own;
  played : HasPlayed l.modules (limits_of_canister l.fn.canister) l.fn.canister.own l.events (shown l.modules l.fn.canister) l.event-index (shown l.modules l.canister) (g.O.Sink.shown l.fn.out) (g.O.Sink.shown l.out);
  count : g.O.Sink.faults l.fn.out ≤ g.O.Sink.faults l.out;
}
