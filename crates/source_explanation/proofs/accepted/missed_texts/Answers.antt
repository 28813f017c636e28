use Rattle.std.proofs.Common.{◌≡◌, ◌+◌, ◌++◌, take, ap, sym, subst, ◌∙◌}
use Rattle.source_explanation.specs.Misses.{AreMissedTexts}
use Rattle.source_explanation.proofs.Missed.{next_text}
use Rattle.source_explanation.proofs.accepted.missed_texts.Goals as goal

pub loop-one-preserved : goal.loop-one-preserved
loop-one-preserved c =
    let m : c.extend.new.self ≡ c.loop-one.made ++ c.in_ok-text.text = c.in_ok-extend.ensures.ok ∙ ap (λ t. c.loop-one.made ++ t) c.as_slice.ensures in
    subst (AreMissedTexts c.args.source.now c.args.tokens.now c.args.types.now c.args.table.now (take (c.loop-one.one-index + 1) c.args.found.now)) (sym m)
    (next_text c.args.source.now c.args.tokens.now c.args.types.now c.args.table.now c.args.found.now c.loop-one.one-index c.one-item.result c.loop-one.made c.in_ok-text.text c.loop-one-test.true c.one-item.is c.loop-one.invariant c.in_ok-text.ensures)
