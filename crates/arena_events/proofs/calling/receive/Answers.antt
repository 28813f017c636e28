use Rattle.std.proofs.Common.{Bool, sym, subst}
use Rattle.std.proofs.lemmas.Result.{IfOk-weaker}
use Rattle.arena_events.specs.Calling.{IsReceived}
use Rattle.arena_events.proofs.calling.receive.Goals as goal

pub returns-then-query : goal.returns-then-query
returns-then-query c =
    IfOk-weaker c.receive_query.result _ _
    (λ l h.
    let Of : Bool → Type 0 = λ q. IsReceived c.args.program.now c.args.own.now q c.args.call.name.now c.args.call.caller.now c.args.call.argument.now c.args.turns c.args.actor.now l in
    subst Of (sym c.if-query.true) h)
    c.receive_query.ensures

pub returns-else-query : goal.returns-else-query
returns-else-query c =
    IfOk-weaker c.receive_update.result _ _
    (λ l h.
    let Of : Bool → Type 0 = λ q. IsReceived c.args.program.now c.args.own.now q c.args.call.name.now c.args.call.caller.now c.args.call.argument.now c.args.turns c.args.actor.now l in
    subst Of (sym c.if-query.false) h)
    c.receive_update.ensures
