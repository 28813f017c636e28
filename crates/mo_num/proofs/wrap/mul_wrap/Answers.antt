use Rattle.std.proofs.Common.{◌*ℤ◌}
use mir.Syntax.{w128}
use mir.Val.{SFits}
use Rattle.std.proofs.lemmas.Int.{to_z-of_z, wrapping_mul_is}
use Rattle.mo_num.proofs.Wrapping.{rewrapped}
use Rattle.mo_num.proofs.wrap.mul_wrap.Goals as goal

pub returns : goal.returns
returns c =
    let r : SFits w128 c.wrapped.result = record { sfits = c.wrapped.type_inv } in
    simp to_z-of_z (rewrapped c.args.kind (c.args.a *ℤ c.args.b) _ _ (wrapping_mul_is w128 c.args.a c.args.b c.ranges.a c.ranges.b) c.wrapped.ensures)
