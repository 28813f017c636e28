use Rattle.std.proofs.Common.{rules, arith}
use Rattle.std.proofs.lemmas.Grind.{common_steps}
use Rattle.mo_syntax.specs.declared.token.TokenKind.TheVariants as t
use Rattle.mo_parser_base.specs.Input.{commas_from}
use Rattle.mo_parser_base.proofs.Turns.{one_more, no_more}
use Rattle.mo_parser_base.proofs.lists.read_commas.Goals as goal

pub returns-in_err-item : goal.returns-in_err-item
unfolding commas_from
returns-in_err-item g c = λ rule keeps.
    let e = one_more (λ n. commas_from rule (t.Mark c.args.close) n c.loop-turn.found c.loop-turn.tokens) _ c.loop-turn._turn c.loop-turn-test.true (c.loop-turn.invariant rule keeps) in
    let read = keeps _ _ _ c.item.ensures in
    first_of (search rules, grind (arith, common_steps))

pub returns-in_err-expect_mark : goal.returns-in_err-expect_mark
unfolding commas_from
returns-in_err-expect_mark g c = λ rule keeps.
    let e = one_more (λ n. commas_from rule (t.Mark c.args.close) n c.loop-turn.found c.loop-turn.tokens) _ c.loop-turn._turn c.loop-turn-test.true (c.loop-turn.invariant rule keeps) in
    let read = keeps _ _ _ c.item.ensures in
    first_of (search rules, grind (arith, common_steps))

pub returns-then-not-eat_mark : goal.returns-then-not-eat_mark
unfolding commas_from
returns-then-not-eat_mark g c = λ rule keeps.
    let e = one_more (λ n. commas_from rule (t.Mark c.args.close) n c.loop-turn.found c.loop-turn.tokens) _ c.loop-turn._turn c.loop-turn-test.true (c.loop-turn.invariant rule keeps) in
    let read = keeps _ _ _ c.item.ensures in
    first_of (search rules, grind (arith, common_steps))

pub loop-turn-preserved : goal.loop-turn-preserved
unfolding commas_from
loop-turn-preserved g c = λ rule keeps.
    let e = one_more (λ n. commas_from rule (t.Mark c.args.close) n c.loop-turn.found c.loop-turn.tokens) _ c.loop-turn._turn c.loop-turn-test.true (c.loop-turn.invariant rule keeps) in
    let read = keeps _ _ _ c.item.ensures in
    first_of (search rules, grind (arith, common_steps))

pub returns : goal.returns
unfolding commas_from
returns g c = λ rule keeps.
    let e = no_more (λ n. commas_from rule (t.Mark c.args.close) n c.loop-turn.found c.loop-turn.tokens) _ c.loop-turn._turn c.loop-turn-test.false (c.loop-turn.invariant rule keeps) in
    first_of (search rules, grind (arith, common_steps))
