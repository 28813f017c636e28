use Rattle.std.proofs.Common.{rules, arith}
use Rattle.std.proofs.lemmas.Grind.{common_steps}
use Rattle.mo_parser_base.proofs.Turns.{one_more, no_more}
use Rattle.mo_parser_patterns.specs.Patterns.{alternatives, more, pattern_at}
use Rattle.mo_parser_patterns.proofs.grammar.Grammar.alternatives.Goals as goal

pub returns-then-not-eat_word : goal.returns-then-not-eat_word
unfolding more
returns-then-not-eat_word g c =
    let e = one_more (λ n. more (pattern_at c.args.self.now.depth) n c.loop-turn.left c.loop-turn.tokens) _ c.loop-turn._turn c.loop-turn-test.true c.loop-turn.invariant in
    first_of (search rules, grind (arith, common_steps))

pub returns-in_err-right : goal.returns-in_err-right
unfolding more
returns-in_err-right g c =
    let e = one_more (λ n. more (pattern_at c.args.self.now.depth) n c.loop-turn.left c.loop-turn.tokens) _ c.loop-turn._turn c.loop-turn-test.true c.loop-turn.invariant in
    first_of (search rules, grind (arith, common_steps))

pub loop-turn-preserved : goal.loop-turn-preserved
unfolding more
loop-turn-preserved g c =
    let e = one_more (λ n. more (pattern_at c.args.self.now.depth) n c.loop-turn.left c.loop-turn.tokens) _ c.loop-turn._turn c.loop-turn-test.true c.loop-turn.invariant in
    first_of (search rules, grind (arith, common_steps))

pub returns : goal.returns
unfolding more
returns g c =
    let e = no_more (λ n. more (pattern_at c.args.self.now.depth) n c.loop-turn.left c.loop-turn.tokens) _ c.loop-turn._turn c.loop-turn-test.false c.loop-turn.invariant in
    first_of (search rules, grind (arith, common_steps))
