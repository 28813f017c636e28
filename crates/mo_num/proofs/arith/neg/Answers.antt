use Rattle.std.proofs.Common.{neg_ℤ}
use mir.Syntax.{w128}
use mir.Val.{SFits}
use Rattle.std.proofs.lemmas.Int.{to_z-of_z}
use Rattle.mo_num.proofs.Ranges.{fits_negation, from_zero}
use Rattle.mo_num.proofs.arith.neg.Goals as goal

pub returns : goal.returns
returns c =
    let a : SFits w128 c.args.a = c.ranges.a in
    let f : SFits w128 (neg_ℤ c.args.a) = fits_negation c.args.kind _ c.requires in
    simp (from_zero, to_z-of_z) at c.bounded.ensures
