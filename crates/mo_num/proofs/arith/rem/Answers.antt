use Rattle.std.proofs.Common.{◌∙◌, rules, sym}
use mir.Syntax.{w128}
use mir.Val.{SFits}
use Rattle.std.specs.Prelude.{int_rem}
use lib.Signed.{mag_rem}
use Rattle.std.proofs.lemmas.Int.{to_z-of_z}
use Rattle.mo_num.proofs.Ranges.{divided_other, nonzero}
use Rattle.mo_num.proofs.arith.rem.Goals as goal

pub returns : goal.returns
returns c =
    let a : SFits w128 c.args.a = c.ranges.a in
    let b : SFits w128 c.args.b = c.ranges.b in
    let f : SFits w128 (int_rem c.args.a c.args.b) = record { sfits = search (rules, mag_rem) } in
    (simp to_z-of_z at c.bounded.ensures) ∙ sym (divided_other c.args.b _ (nonzero c.args.b c.if-b-eq0.false))
