use Rattle.std.proofs.Common.{◌≡◌, ap, arith}
use Rattle.mo_parser_patterns.specs.Patterns.{pattern_at}
use Rattle.mo_parser_base.proofs.Turns.{deeper}
use Rattle.mo_parser_patterns.proofs.start.+pattern_at.Goals as goal

pub returns-then-depth-eq0 : goal.returns-then-depth-eq0
unfolding pattern_at
returns-then-depth-eq0 t c _ = let none : c.args.depth ≡ 0 = omega arith in
    ap (λ n. pattern_at n c.args.level c.args.tokens.now) none

pub returns : goal.returns
unfolding pattern_at
returns t c = rw (deeper (λ n. pattern_at n c.args.level c.args.tokens.now) c.args.depth (omega arith)) c.level.ensures
