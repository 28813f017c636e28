use Rattle.std.proofs.Common.{◌≡◌, ◌++◌, ◌∷◌, [], length, arith, sym, ap, subst}
use Rattle.std.proofs.lemmas.List.{length-append}
use Rattle.mo_types.specs.Values.{copies}
use Rattle.mo_coverage.proofs.Lists.{one_more_byte}
use Rattle.mo_coverage.proofs.leaves.repeated.Goals as goal

pub loop-made-preserved : goal.loop-made-preserved
loop-made-preserved c =
    let e : c.push.new.self ≡ c.loop-made.made ++ c.args.byte ∷ [] = grind (arith) in
    let l : length c.push.new.self ≡ length (c.loop-made.made ++ c.args.byte ∷ []) = ap length e in
    (omega (arith, l, length-append c.loop-made.made (c.args.byte ∷ [])), subst (λ z. z ≡ copies (length z) c.args.byte) (sym e) (one_more_byte c.loop-made.made c.args.byte c.loop-made.invariant.1))
