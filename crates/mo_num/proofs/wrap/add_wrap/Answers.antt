use Rattle.std.proofs.Common.{◌+ℤ◌}
use mir.Syntax.{w128}
use mir.Val.{SFits}
use Rattle.std.proofs.lemmas.Int.{to_z-of_z}
use Rattle.mo_num.proofs.Ranges.{fits_sum}
use Rattle.mo_num.proofs.wrap.add_wrap.Goals as goal

pub returns : goal.returns
returns c =
    let a : SFits w128 c.args.a = c.ranges.a in
    let b : SFits w128 c.args.b = c.ranges.b in
    let r : SFits w128 c.wrapped.result = record { sfits = c.wrapped.type_inv } in
    let f : SFits w128 (c.args.a +ℤ c.args.b) = fits_sum c.args.kind _ _ c.requires.left c.requires.right in
    simp to_z-of_z (simp to_z-of_z at c.wrapped.ensures)
