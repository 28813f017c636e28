use Rattle.std.proofs.Common.{take}
use Rattle.stepper.specs.Standing.{IsSound}
use Rattle.meaning_player.proofs.Events.{HasGone}
use Rattle.meaning_player.proofs.playing.play.Given as goal

abbrev pub invariant-loop-event : goal.invariant-loop-event
invariant-loop-event g l = record {
  sound : IsSound l.stepper;
  gone : HasGone l.programs (take l.event-index l.events) l.stepper (g.O.Sink.shown l.fn.out) (g.O.Sink.shown l.out);
}
