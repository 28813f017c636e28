use Rattle.std.proofs.Common.{rules, arith}
use Rattle.std.proofs.lemmas.Grind.{common_steps}
use Rattle.mo_parser_base.proofs.Turns.{one_more, no_more}
use Rattle.mo_parser_expressions.specs.Expressions.{climbed, climb, expression_at, declaration_at}
use Rattle.mo_parser_expressions.proofs.grammar.Grammar.climbed.Goals as goal

pub returns-then-not-goes : goal.returns-then-not-goes
unfolding climb
returns-then-not-goes g c =
    let e = one_more (λ n. climb (expression_at c.args.self.now.depth) (declaration_at c.args.self.now.depth) c.args.least c.loop-turn.height n c.loop-turn.a c.loop-turn.tokens) _ c.loop-turn._turn c.loop-turn-test.true c.loop-turn.invariant in
    first_of (search rules, grind (arith, common_steps))

pub returns-in_err-a : goal.returns-in_err-a
unfolding climb
returns-in_err-a g c =
    let e = one_more (λ n. climb (expression_at c.args.self.now.depth) (declaration_at c.args.self.now.depth) c.args.least c.loop-turn.height n c.loop-turn.a c.loop-turn.tokens) _ c.loop-turn._turn c.loop-turn-test.true c.loop-turn.invariant in
    first_of (search rules, grind (arith, common_steps))

pub loop-turn-preserved : goal.loop-turn-preserved
unfolding climb
loop-turn-preserved g c =
    let e = one_more (λ n. climb (expression_at c.args.self.now.depth) (declaration_at c.args.self.now.depth) c.args.least c.loop-turn.height n c.loop-turn.a c.loop-turn.tokens) _ c.loop-turn._turn c.loop-turn-test.true c.loop-turn.invariant in
    first_of (search rules, grind (arith, common_steps))

pub returns : goal.returns
unfolding climb
returns g c =
    let e = no_more (λ n. climb (expression_at c.args.self.now.depth) (declaration_at c.args.self.now.depth) c.args.least c.loop-turn.height n c.loop-turn.a c.loop-turn.tokens) _ c.loop-turn._turn c.loop-turn-test.false c.loop-turn.invariant in
    first_of (search rules, grind (arith, common_steps))
