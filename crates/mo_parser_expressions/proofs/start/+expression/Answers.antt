use Rattle.std.proofs.Common.{◌≡◌, ap, arith}
use Rattle.mo_parser_expressions.specs.Expressions.{expression_at, declaration_at, readers}
use Rattle.mo_parser_base.proofs.Turns.{deeper}
use Rattle.mo_parser_expressions.proofs.start.+expression.Goals as goal

pub expression_at-returns-then-depth-eq0 : goal.expression_at-returns-then-depth-eq0
unfolding expression_at readers
expression_at-returns-then-depth-eq0 t c _ = let none : c.args.depth ≡ 0 = omega arith in
    ap (λ n. expression_at n c.args.level c.args.tokens.now) none

pub expression_at-returns : goal.expression_at-returns
unfolding expression_at declaration_at readers
expression_at-returns t c = rw (deeper (λ n. expression_at n c.args.level c.args.tokens.now) c.args.depth (omega arith)) c.level.ensures

pub declaration_at-returns-then-depth-eq0 : goal.declaration_at-returns-then-depth-eq0
unfolding declaration_at readers
declaration_at-returns-then-depth-eq0 t c _ = let none : c.args.depth ≡ 0 = omega arith in
    ap (λ n. declaration_at n c.args.tokens.now) none

pub declaration_at-returns : goal.declaration_at-returns
unfolding expression_at declaration_at readers
declaration_at-returns t c = rw (deeper (λ n. declaration_at n c.args.tokens.now) c.args.depth (omega arith)) c.declaration.ensures
