use Rattle.std.proofs.Common.{◌∙◌, sym}
use mir.Syntax.{w128}
use mir.Val.{SFits}
use Rattle.std.specs.Prelude.{int_div}
use Rattle.std.proofs.lemmas.Int.{to_z-of_z}
use Rattle.mo_num.proofs.Ranges.{divided_other, nonzero, fits_quotient}
use Rattle.mo_num.proofs.arith.div.Goals as goal

pub returns : goal.returns
returns c =
    let a : SFits w128 c.args.a = c.ranges.a in
    let b : SFits w128 c.args.b = c.ranges.b in
    let f : SFits w128 (int_div c.args.a c.args.b) = fits_quotient c.args.kind _ _ c.requires.left in
    (simp to_z-of_z at c.bounded.ensures) ∙ sym (divided_other c.args.b _ (nonzero c.args.b c.if-b-eq0.false))
