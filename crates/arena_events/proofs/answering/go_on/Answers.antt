use Rattle.std.proofs.Common.{sym, subst, ◌∙◌}
use Rattle.std.proofs.lemmas.Result.{IfOk-weaker}
use Rattle.arena_outcomes.specs.declared.ran.Ran.{Ran}
use Rattle.arena_events.specs.Answering.{IsGoingOn}
use Rattle.arena_events.proofs.Answered.{unread_going}
use Rattle.arena_events.proofs.Assembled.{filled_going, filled_sound}
use Rattle.arena_events.proofs.answering.go_on.Goals as goal

pub returns-in-None : goal.returns-in-None
returns-in-None c =
    let types = c.args.types.now in
    let x = c.args.actor.now in
    let m = c.args.asked.call.now in
    let Of : Ran → Type 0 = λ r. IsGoingOn types c.args.own.now c.args.number c.args.asked.place m c.args.filled c.args.turns x r in
    IfOk-weaker c.trapping.result _ _
    (λ r is. subst Of (sym is)
    (unread_going types c.args.own.now c.args.number c.args.asked.place m c.args.filled c.args.turns x c.in_ok-table-in-None.table c.in_ok-copy.copy.arena c.given.new.arena
    (c.in_ok-table-in-None.ensures.items ∙ c.as_slice.ensures.value) (rw c.in-None.is at c.in_ok-given.ensures)))
    c.trapping.ensures

pub go_with-requires-clause-sound : goal.go_with-requires-clause-sound
go_with-requires-clause-sound c =
    rw (sym c.with_filled-copy.ensures) at (filled_sound c.args.actor.now c.in_ok-copy.copy c.in_ok-copy.ensures c.given.new.arena c.in_ok-given.ensures.grows c.args.asked.place c.args.filled)

pub returns : goal.returns
returns c =
    IfOk-weaker c.go_with.result _ _
    (λ r h.
    filled_going c.args.actor.now c.in_ok-copy.copy c.in_ok-copy.ensures c.given.new.arena c.in_ok-given.ensures.grows c.args.asked.place c.args.filled c.args.types.now c.args.own.now c.args.number c.args.asked.call.now
    c.args.turns c.in-Some.given c.in_ok-copy.copy.arena r (rw c.in-Some.is at c.in_ok-given.ensures) (rw c.with_filled-copy.ensures at h))
    c.go_with.ensures
