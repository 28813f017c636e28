use Rattle.std.proofs.Common.{List, subst, ap, ◌∙◌}
use Rattle.arena_actors.specs.declared.actor.Filled.{Filled}
use Rattle.arena_actors.specs.declared.actor.Made.{Made}
use Rattle.arena_outcomes.specs.declared.ran.Ran.TheVariants as ran
use Rattle.arena_events.specs.Answering.{IsGoingOn}
use Rattle.arena_events.specs.Filling.{place_of, received_as}
use Rattle.arena_events.proofs.Answered.{answered_completes, answered_still, answered_traps, placed_some}
use Rattle.arena_events.proofs.answering.conclude.Goals as goal

pub returns-in-Still : goal.returns-in-Still
returns-in-Still c = λ open_there.
    let p = c.args.program.now in
    let x = c.args.actor.now in
    let m = c.args.asked.call.now in
    let k = placed_some x.made (place_of x.first c.args.number) c.args.asked.place m open_there in
    let form = ran.Still c.in-Still.table in
    let Of : Filled → Type 0 = λ f. IsGoingOn p.types c.args.own.now c.args.number c.args.asked.place m f c.args.turns x form in
    let filled = c.in_ok-filled.ensures ∙ ap (λ (ms : List Made). received_as x.first ms m c.args.received_as) c.as_slice.ensures in
    answered_still p c.args.own.now c.args.number c.args.asked.place m c.args.received_as c.args.turns x k.here c.in-Still.table (subst Of filled (rw c.in-Still.is at c.in_ok-table.ensures))

pub returns-in_ok-over-in-Traps : goal.returns-in_ok-over-in-Traps
returns-in_ok-over-in-Traps c = λ open_there.
    let p = c.args.program.now in
    let x = c.args.actor.now in
    let m = c.args.asked.call.now in
    let k = placed_some x.made (place_of x.first c.args.number) c.args.asked.place m open_there in
    let form = ran.Traps c.in-Traps.table c.in-Traps.prints c.in-Traps.text in
    let Of : Filled → Type 0 = λ f. IsGoingOn p.types c.args.own.now c.args.number c.args.asked.place m f c.args.turns x form in
    let filled = c.in_ok-filled.ensures ∙ ap (λ (ms : List Made). received_as x.first ms m c.args.received_as) c.as_slice.ensures in
    answered_traps p c.args.own.now c.args.number c.args.asked.place m c.args.received_as c.args.turns x k.here c.in-Traps.table c.in-Traps.prints c.in-Traps.text c.in_ok-over-in-Traps.over
    c.in_ok-over-in-Traps.ensures (subst Of filled (rw c.in-Traps.is at c.in_ok-table.ensures))

pub returns-in_ok-completed-in-Completes : goal.returns-in_ok-completed-in-Completes
returns-in_ok-completed-in-Completes c = λ open_there.
    let p = c.args.program.now in
    let x = c.args.actor.now in
    let m = c.args.asked.call.now in
    let k = placed_some x.made (place_of x.first c.args.number) c.args.asked.place m open_there in
    let form = ran.Completes c.in-Completes.done in
    let Of : Filled → Type 0 = λ f. IsGoingOn p.types c.args.own.now c.args.number c.args.asked.place m f c.args.turns x form in
    let filled = c.in_ok-filled.ensures ∙ ap (λ (ms : List Made). received_as x.first ms m c.args.received_as) c.as_slice.ensures in
    answered_completes p c.args.own.now c.args.number c.args.asked.place m c.args.received_as c.args.turns x k.here c.in-Completes.done (subst Of filled (rw c.in-Completes.is at c.in_ok-table.ensures))
    c.in_ok-completed-in-Completes.field-0 c.in_ok-completed-in-Completes.ensures
