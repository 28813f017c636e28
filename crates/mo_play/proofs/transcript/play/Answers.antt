use Rattle.std.proofs.Common.{ap, subst, ◌∙◌}
use Rattle.std.proofs.lemmas.List.Elements.{recursion_from_All}
use Rattle.play_script.specs.Items.{ItemsText}
use Rattle.canister.specs.Executed.{execution_limits}
use Rattle.canister_host.specs.HostRun.{host_run}
use Rattle.mo_play.specs.Transcripts.{own_principal, IsPut}
use Rattle.mo_play.proofs.Lines.{items_lines, nothing_put}
use Rattle.mo_play.proofs.Events.{items_with}
use Rattle.mo_play.proofs.transcript.play.Goals as goal

pub returns-in-Err-clause-put : goal.returns-in-Err-clause-put
returns-in-Err-clause-put g c =
    let lines = items_lines (host_run c.args.modules.now (execution_limits c.args.limits) own_principal c.args.events.now) in (lines.0, lines.1, nothing_put (g.O.Sink.shown c.args.out.now) lines.0)

pub play_events-requires-clause-sound : goal.play_events-requires-clause-sound
play_events-requires-clause-sound g c = c.in-Ok.ensures.sound c.args.modules.now

pub play_events-requires-clause-fit : goal.play_events-requires-clause-fit
play_events-requires-clause-fit g c = recursion_from_All _ _ c.requires.fit

pub play_events-requires-clause-below : goal.play_events-requires-clause-below
play_events-requires-clause-below g c = recursion_from_All _ _ c.requires.suits.below

pub play_events-requires-clause-first : goal.play_events-requires-clause-first
play_events-requires-clause-first g c = recursion_from_All _ _ c.requires.suits.first

pub returns-clause-put : goal.returns-clause-put
returns-clause-put g c =
    subst (λ items. IsPut (ItemsText items) (g.O.Sink.shown c.args.out.now) (g.O.Sink.shown c.play_events.new.out) c.play_events.result)
    (items_with _ _ _ _ _ c.args.events.now _ (ap execution_limits c.in-Ok.ensures.limits) (c.in-Ok.ensures.own ∙ c.own_principal.ensures.own) (c.in-Ok.ensures.first c.args.modules.now)) c.play_events.ensures.put
