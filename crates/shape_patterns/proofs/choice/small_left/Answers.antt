use Rattle.std.proofs.Common.{◌≡◌, length, false, arith, ◌∙◌, rules}
use Rattle.shape_patterns.specs.Choice.{is_small_left}
use Rattle.shape_patterns.proofs.Counting.{small_next}
use Rattle.shape_patterns.proofs.choice.small_left.Goals as goal

pub loop-number-preserved : goal.loop-number-preserved
loop-number-preserved c =
    let f : is_small_left c.args.kind c.loop-number.number c.args.parts.now ≡ false = search rules in
    (omega (arith, c.loop-number-test.true), small_next c.args.kind (length c.args.parts.now) c.loop-number.number c.args.parts.now c.loop-number-test.true f ∙ c.loop-number.invariant.1)
