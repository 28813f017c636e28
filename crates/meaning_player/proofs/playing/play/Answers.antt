use Rattle.std.proofs.Common.{ℕ, List, Bor, ap, ◌∙◌}
use Rattle.typed_tree.specs.declared.program.Program.{Program}
use Rattle.meaning_player.proofs.Events.{none_gone, next_gone, all_gone}
use Rattle.meaning_player.proofs.playing.play.Goals as goal

pub loop-event-init : goal.loop-event-init
loop-event-init g c = record {
  sound = c.new-stepper.ensures.sound c.requires;
  gone =
      none_gone c.args.programs.now c.new-stepper.result (g.O.Sink.shown c.args.out.now)
      (record {
        programs = ap (λ (b : Bor (List Program)). b.now) c.new-stepper.ensures.programs;
        own = ap (λ (b : Bor (List ℕ)). b.now) c.new-stepper.ensures.own ∙ c.in-Some.ensures.1;
        state = c.new-stepper.ensures.state;
      });
}

pub loop-event-preserved : goal.loop-event-preserved
loop-event-preserved g c = record {
  sound = c.in_ok-play_event.ensures.sound;
  gone =
      next_gone c.args.programs.now c.args.events.now c.loop-event.event-index c.event-item.result c.args.turns c.loop-event.stepper c.play_event.new.stepper c.in_ok-play_event.field-0
      (g.O.Sink.shown c.args.out.now) (g.O.Sink.shown c.loop-event.out) (g.O.Sink.shown c.play_event.new.out) c.loop-event-test.true c.event-item.is c.if-not-branch.false c.loop-event.invariant.gone
      c.in_ok-play_event.ensures.played;
}

pub returns : goal.returns
returns g c = all_gone c.args.programs.now c.args.events.now c.loop-event.event-index c.loop-event.stepper (g.O.Sink.shown c.args.out.now) (g.O.Sink.shown c.loop-event.out) c.loop-event-test.false c.loop-event.invariant.gone
