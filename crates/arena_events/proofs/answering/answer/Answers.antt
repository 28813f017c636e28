use Rattle.std.proofs.Common.{List, Option, sym, ap, ◌∙◌}
use Rattle.std.proofs.lemmas.Result.{IfOk-weaker}
use Rattle.mo_types.specs.Heads.{map_option}
use Rattle.arena_actors.specs.declared.actor.Made.{Made}
use Rattle.arena_events.specs.declared.answering.OpenCall.{OpenCall}
use Rattle.arena_events.specs.Answering.{open_at, placed}
use Rattle.arena_events.proofs.Answered.{event_ignored, event_open}
use Rattle.arena_events.proofs.answering.answer.Goals as goal

pub returns-in-Some : goal.returns-in-Some
returns-in-Some c =
    let x = c.args.actor.now in
    let there = ap (λ (o : Option OpenCall). map_option (λ (k : OpenCall). placed k.place k.call.now) o) (sym c.in-Some.is) ∙ c.open_call.ensures
    ∙ ap (λ (ms : List Made). open_at x.first ms c.args.number) c.as_slice.ensures in
    IfOk-weaker c.conclude.result _ _
    (λ l h. event_open c.args.program.now c.args.own.now c.args.number c.args.received c.args.turns x c.in-Some.asked.place c.in-Some.asked.call.now l there h)
    c.conclude.ensures

pub returns-in-None : goal.returns-in-None
returns-in-None c =
    let x = c.args.actor.now in
    let none = ap (λ (o : Option OpenCall). map_option (λ (k : OpenCall). placed k.place k.call.now) o) (sym c.in-None.is) ∙ c.open_call.ensures
    ∙ ap (λ (ms : List Made). open_at x.first ms c.args.number) c.as_slice.ensures in
    event_ignored c.args.program.now c.args.own.now c.args.number c.args.received c.args.turns x none
