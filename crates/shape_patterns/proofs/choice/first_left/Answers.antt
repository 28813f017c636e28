use Rattle.std.proofs.Common.{◌≡◌, IfOk, length, true, false, arith, ◌∙◌, subst, rules}
use Rattle.pattern_coverage.specs.Leaves.{is_among}
use Rattle.shape_patterns.specs.Choice.{numbered}
use Rattle.shape_patterns.proofs.Counting.{first_end, first_here, first_next}
use Rattle.shape_patterns.proofs.choice.first_left.Goals as goal

pub returns-then-not-branch : goal.returns-then-not-branch
returns-then-not-branch c =
    let f : is_among (numbered c.args.node.now c.loop-number.number) c.args.parts.now ≡ false = search rules in
    subst (λ z. IfOk c.numbered.result (λ made. made ≡ z)) (first_here c.args.node.now (length c.args.parts.now) c.loop-number.number c.args.parts.now c.loop-number-test.true f ∙ c.loop-number.invariant.1) c.numbered.ensures

pub loop-number-preserved : goal.loop-number-preserved
loop-number-preserved c =
    let f : is_among (numbered c.args.node.now c.loop-number.number) c.args.parts.now ≡ true = search rules in
    (omega (arith, c.loop-number-test.true), first_next c.args.node.now (length c.args.parts.now) c.loop-number.number c.args.parts.now c.loop-number-test.true f ∙ c.loop-number.invariant.1)

pub returns : goal.returns
returns c =
    let e : c.loop-number.number ≡ length c.args.parts.now = omega (arith, c.loop-number.invariant.0, c.loop-number-test.false) in
    subst (λ z. IfOk c.numbered-2.result (λ made. made ≡ z)) (first_end c.args.node.now (length c.args.parts.now) c.loop-number.number c.args.parts.now e ∙ c.loop-number.invariant.1) c.numbered-2.ensures
