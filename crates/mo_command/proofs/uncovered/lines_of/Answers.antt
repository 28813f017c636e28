use Rattle.std.proofs.Common.{◌≡◌, ◌+◌, [], ◌∷◌, ◌++◌, take, sym, subst}
use Rattle.mo_command.specs.Uncovered.{AreLines, IsUncoveredLine}
use Rattle.mo_command.proofs.Shown.{next_line}
use Rattle.mo_command.proofs.uncovered.lines_of.Goals as goal

pub loop-one-preserved : goal.loop-one-preserved
loop-one-preserved c =
    let m : c.push.new.self.items ≡ c.loop-one.made.items ++ c.in_ok-line_at.field-0 ∷ [] = c.in_ok-push.ensures.items in
    subst (λ ls. AreLines c.args.source.now c.args.tokens.now (take (c.loop-one.one-index + 1) c.args.found.now) ls) (sym m)
    (next_line c.args.source.now c.args.tokens.now c.args.found.now c.loop-one.one-index c.one-item.result c.loop-one.made.items c.in_ok-line_at.field-0 c.loop-one-test.true c.one-item.is c.loop-one.invariant
    (subst (λ p. IsUncoveredLine c.args.source.now p c.in_ok-line_at.field-0) c.token_start.ensures c.in_ok-line_at.ensures))
