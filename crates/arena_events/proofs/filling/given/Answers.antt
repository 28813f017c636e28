use Rattle.std.proofs.Common.{refl}
use Rattle.std.proofs.lemmas.Result.{IfOk-weaker}
use Rattle.arena_actors.specs.declared.actor.Filled.TheVariants as filled
use Rattle.arena_events.proofs.Givens.{given_so, nothing_given}
use Rattle.arena_events.proofs.filling.given.Goals as goal

pub returns-in-Replied : goal.returns-in-Replied
returns-in-Replied c =
    IfOk-weaker c.given_reply.result _ _
    (λ o h. given_so c.args.types.now c.args.filled.now (filled.Replied c.in-Replied.ids c.in-Replied.bytes) c.args.arena.now c.given_reply.new.arena o c.in-Replied.is h)
    c.given_reply.ensures

pub returns-in-Rejected : goal.returns-in-Rejected
returns-in-Rejected c =
    IfOk-weaker c.given_reject.result _ _
    (λ o h. given_so c.args.types.now c.args.filled.now (filled.Rejected c.in-Rejected.code c.in-Rejected.text) c.args.arena.now c.given_reject.new.arena o c.in-Rejected.is (h c.args.types.now))
    c.given_reject.ensures

pub returns-in-Open : goal.returns-in-Open
returns-in-Open c = given_so c.args.types.now c.args.filled.now filled.Open c.args.arena.now c.args.arena.now _ c.in-Open.is (nothing_given c.args.types.now filled.Open c.args.arena.now (λ coding. refl))

pub returns-in-Neither : goal.returns-in-Neither
returns-in-Neither c = given_so c.args.types.now c.args.filled.now filled.Neither c.args.arena.now c.args.arena.now _ c.in-Neither.is (nothing_given c.args.types.now filled.Neither c.args.arena.now (λ coding. refl))

pub returns-in-Lost : goal.returns-in-Lost
returns-in-Lost c = given_so c.args.types.now c.args.filled.now filled.Lost c.args.arena.now c.args.arena.now _ c.in-Lost.is (nothing_given c.args.types.now filled.Lost c.args.arena.now (λ coding. refl))
