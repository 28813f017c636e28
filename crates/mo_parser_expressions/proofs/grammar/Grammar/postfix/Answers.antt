use Rattle.std.proofs.Common.{rules, arith}
use Rattle.std.proofs.lemmas.Grind.{common_steps}
use Rattle.mo_parser_base.proofs.Turns.{one_more, no_more}
use Rattle.mo_parser_expressions.specs.Expressions.{postfix, chain, expression_at, declaration_at}
use Rattle.mo_parser_expressions.proofs.grammar.Grammar.postfix.Goals as goal

pub returns-then-not-goes_on : goal.returns-then-not-goes_on
unfolding chain
returns-then-not-goes_on g c =
    let e = one_more (λ n. chain (expression_at c.args.self.now.depth) (declaration_at c.args.self.now.depth) n c.loop-turn.a c.loop-turn.tokens) _ c.loop-turn._turn c.loop-turn-test.true c.loop-turn.invariant in
    first_of (search rules, grind (arith, common_steps))

pub returns-in_err-a-2 : goal.returns-in_err-a-2
unfolding chain
returns-in_err-a-2 g c =
    let e = one_more (λ n. chain (expression_at c.args.self.now.depth) (declaration_at c.args.self.now.depth) n c.loop-turn.a c.loop-turn.tokens) _ c.loop-turn._turn c.loop-turn-test.true c.loop-turn.invariant in
    first_of (search rules, grind (arith, common_steps))

pub loop-turn-preserved : goal.loop-turn-preserved
unfolding chain
loop-turn-preserved g c =
    let e = one_more (λ n. chain (expression_at c.args.self.now.depth) (declaration_at c.args.self.now.depth) n c.loop-turn.a c.loop-turn.tokens) _ c.loop-turn._turn c.loop-turn-test.true c.loop-turn.invariant in
    first_of (search rules, grind (arith, common_steps))

pub returns : goal.returns
unfolding chain
returns g c =
    let e = no_more (λ n. chain (expression_at c.args.self.now.depth) (declaration_at c.args.self.now.depth) n c.loop-turn.a c.loop-turn.tokens) _ c.loop-turn._turn c.loop-turn-test.false c.loop-turn.invariant in
    first_of (search rules, grind (arith, common_steps))
