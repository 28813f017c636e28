use Rattle.std.proofs.Common.{◌≡◌, List, [], ◌∷◌, length, refl, arith}
use Rattle.arena_messages.specs.Waiting.{typed}
use Rattle.arena_messages.proofs.Turns.{all_put, next_goes, none_put, putting_on}
use Rattle.arena_messages.proofs.parts.plain.Goals as goal

pub returns-then-not-going : goal.returns-then-not-going
returns-then-not-going c = none_put c.args.types.now c.args.arena.now c.args.of_type c.args.value (rw c.if-not-going.true at c.in_ok-going.ensures)

pub put-requires-clause-goes : goal.put-requires-clause-goes
put-requires-clause-goes c =
    next_goes c.args.types.now c.args.arena.now (typed c.args.of_type c.args.value) c.in-Some.next c.loop-next.waiting.items c.pop.new.self.items c.loop-next.parts.items c.loop-next.invariant c.in-Some.ensures.items

pub loop-next-preserved : goal.loop-next-preserved
loop-next-preserved c =
    putting_on c.args.types.now c.args.arena.now (typed c.args.of_type c.args.value) c.in-Some.next c.loop-next.waiting.items c.pop.new.self.items c.put.new.waiting.items c.loop-next.parts.items c.put.new.parts.items
    c.loop-next.invariant c.in-Some.ensures.items c.in_ok-put.ensures

empty : {X : Type 0} (xs : List X) → length xs ≡ 0 → xs ≡ []
empty [] h = refl
empty (x ∷ xs) h = absurd (omega arith)

pub returns : goal.returns
returns c =
    let none : length c.loop-next.waiting.items ≡ 0 = omega (arith, c.loop-next.waiting.ok.0, c.in_default.ensures.cases.0) in
    all_put c.args.types.now c.args.arena.now c.args.of_type c.args.value c.loop-next.waiting.items c.loop-next.parts.items c.loop-next.invariant (empty c.loop-next.waiting.items none) (rw c.if-not-going.false at c.in_ok-going.ensures)
