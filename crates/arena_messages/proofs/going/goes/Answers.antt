use Rattle.arena_messages.proofs.Turns.{going_on, less_waits, next_within, refused}
use Rattle.arena_messages.specs.Waiting.{typed}
use Rattle.arena_messages.proofs.going.goes.Goals as goal

pub ask-requires : goal.ask-requires
ask-requires c = next_within c.args.types.now c.args.arena.now (typed c.args.of_type c.args.value) c.in-Some.asked c.loop-asked.waiting.items c.pop.new.self.items c.loop-asked.invariant c.in-Some.ensures.items

pub returns-then-not-fitting : goal.returns-then-not-fitting
returns-then-not-fitting c = λ groups.
    refused c.args.types.now c.args.arena.now (typed c.args.of_type c.args.value) c.in-Some.asked c.loop-asked.waiting.items c.pop.new.self.items c.ask.new.waiting.items c.loop-asked.invariant c.in-Some.ensures.items
    (rw c.if-not-fitting.true at c.in_ok-fitting.ensures) groups

pub loop-asked-smaller : goal.loop-asked-smaller
loop-asked-smaller c =
    less_waits c.args.types.now c.args.arena.now c.in-Some.asked c.loop-asked.waiting.items c.pop.new.self.items c.ask.new.waiting.items c.in-Some.ensures.items (rw c.if-not-fitting.false at c.in_ok-fitting.ensures)

pub loop-asked-preserved : goal.loop-asked-preserved
loop-asked-preserved c =
    going_on c.args.types.now c.args.arena.now (typed c.args.of_type c.args.value) c.in-Some.asked c.loop-asked.waiting.items c.pop.new.self.items c.ask.new.waiting.items c.loop-asked.invariant c.in-Some.ensures.items
    (rw c.if-not-fitting.false at c.in_ok-fitting.ensures)
