use Rattle.std.proofs.Common.{◌∙◌, arith, inl, inr, pos, ◌≤ℤ◌, ◌+ℤ◌}
use Rattle.std.specs.Prelude.{int_rem}
use mir.Syntax.{w128}
use mir.Val.{SFits}
use Rattle.std.proofs.lemmas.Int.{to_z-of_z, ints}
use Rattle.mo_num.proofs.Powers.{unit_power, power_out, parity_fits}
use Rattle.mo_num.proofs.power.pow.Goals as goal

pub returns-then-a-ltminus1 : goal.returns-then-a-ltminus1
returns-then-a-ltminus1 c = power_out c.args.kind c.args.a c.args.b (inl (omega (arith, ints))) (omega (arith, ints))

pub returns-then-a-gt1 : goal.returns-then-a-gt1
returns-then-a-gt1 c = power_out c.args.kind c.args.a c.args.b (inr (omega (arith, ints))) (omega (arith, ints))

pub returns-else-a-gt1 : goal.returns-else-a-gt1
returns-else-a-gt1 c =
    let a : SFits w128 c.args.a = c.ranges.a in
    let b : SFits w128 c.args.b = c.ranges.b in
    let big : pos 128 ≤ℤ c.args.b = omega (arith, ints) in
    let r : SFits w128 (int_rem c.args.b (pos 2)) = (parity_fits c.args.b big).0 in
    let e : SFits w128 (pos 2 +ℤ int_rem c.args.b (pos 2)) = (parity_fits c.args.b big).1 in
    (simp to_z-of_z at c.raised-else-a-gt1.ensures) ∙ unit_power c.args.kind c.args.a c.args.b (omega (arith, ints)) (omega (arith, ints)) big
