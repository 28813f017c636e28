use Rattle.std.proofs.Common.{◌≡◌, ◌∙◌, ◌+◌, suc, arith, ap, sym, subst, refl, length}
use Rattle.type_definitions.specs.Outcomes.{IsRound}
use Rattle.type_definitions.proofs.PutIn.{if_ok}
use Rattle.type_definitions.proofs.Leading.{WithinRounds, one_round, all_rounds, settles}
use Rattle.type_definitions.proofs.chains.outcomes.Goals as goal

pub loop-turn-preserved : goal.loop-turn-preserved
loop-turn-preserved c =
    let e : suc c.loop-turn._turn ≡ c.loop-turn._turn + 1 = omega arith in
    subst (λ m. WithinRounds c.args.terms.now c.args.definitions.now m c.in_ok-next.next.items) e
    (one_round c.args.terms.now c.args.definitions.now c.loop-turn._turn c.loop-turn.known.items c.in_ok-next.next.items c.loop-turn.invariant
    (subst (λ os. IsRound c.args.terms.now c.args.definitions.now os c.in_ok-next.next.items) c.as_slice.ensures.value c.in_ok-next.ensures))

pub returns-then-are_same : goal.returns-then-are_same
returns-then-are_same c =
    let e : c.in_ok-next.next.items ≡ c.loop-turn.known.items = sym c.as_slice-in-loop-turn.ensures.value ∙ (c.are_same.ensures c.if-are_same.true ∙ c.as_slice-in-loop-turn-2.ensures.value) in
    settles c.args.terms.now c.args.definitions.now (length c.args.definitions.now.types) c.loop-turn._turn c.loop-turn.known.items c.requires.as_many refl (omega (arith, ap length c.types-turn-end.ensures)) c.loop-turn.invariant
    (subst (λ os. IsRound c.args.terms.now c.args.definitions.now c.loop-turn.known.items os) e (subst (λ os. IsRound c.args.terms.now c.args.definitions.now os c.in_ok-next.next.items) c.as_slice.ensures.value c.in_ok-next.ensures))

pub returns : goal.returns
returns c = if_ok c.round-2.result _ _ c.round-2.ensures
    (λ made r. all_rounds c.args.terms.now c.args.definitions.now c.loop-turn._turn made.items c.requires.as_many (let h = ap length c.types-turn-end.ensures in omega (arith, h))
    (one_round c.args.terms.now c.args.definitions.now c.loop-turn._turn c.loop-turn.known.items made.items c.loop-turn.invariant
    (subst (λ os. IsRound c.args.terms.now c.args.definitions.now os made.items) c.as_slice-2.ensures.value r)))
