use Rattle.std.proofs.Common.{◌≡◌, ◌<◌, ap, ◌∙◌, sym, subst, arith, pos, ◌-ℤ◌, ◌≤ℤ◌, ◌<ℤ◌}
use Rattle.std.specs.Int.{int_rem_euclid}
use mir.Syntax.{w128}
use mir.Val.{SFits}
use Rattle.std.proofs.lemmas.Int.{to_z-of_z, ints}
use Rattle.mo_num.specs.Kinds.{greatest, modulus}
use Rattle.mo_num.specs.Arith.{IsWrapped}
use Rattle.mo_num.proofs.Ranges.{fits_between}
use Rattle.mo_num.proofs.Wrapping.{wrapped_low, wrapped_high, some_values}
use Rattle.mo_num.proofs.wrap.wrapped.Goals as goal

pub returns-then-greatest-low : goal.returns-then-greatest-low
returns-then-greatest-low c =
    let n : SFits w128 c.args.n = c.ranges.n in
    let m : SFits w128 c.modulus.result = record { sfits = c.modulus.type_inv } in
    let l : SFits w128 c.rem_euclid-low.result = record { sfits = c.rem_euclid-low.type_inv } in
    let g : SFits w128 c.greatest.result = record { sfits = c.greatest.type_inv } in
    let k : SFits w128 c.modulus-then-greatest-low.result = record { sfits = c.modulus-then-greatest-low.type_inv } in
    let some : 0 < modulus c.args.kind = some_values c.args.kind in
    let e : c.rem_euclid-low.result ≡ int_rem_euclid c.args.n (pos (modulus c.args.kind)) = (simp to_z-of_z at c.rem_euclid-low.ensures.value) ∙ ap (λ z. int_rem_euclid c.args.n z) c.modulus.ensures in
    let lo : greatest c.args.kind <ℤ c.rem_euclid-low.result = omega (arith, ints, c.greatest.ensures) in
    let hi : c.rem_euclid-low.result <ℤ pos (modulus c.args.kind) = omega (arith, ints, c.modulus.ensures, c.rem_euclid-low.ensures.upper_bound) in
    let zero : pos 0 ≤ℤ c.rem_euclid-low.result = omega (arith, ints, c.rem_euclid-low.ensures.lower_bound) in
    let f : SFits w128 (c.rem_euclid-low.result -ℤ c.modulus-then-greatest-low.result) = fits_between _ (omega (arith, ints, c.modulus-then-greatest-low.ensures)) (omega (arith, ints, c.modulus-then-greatest-low.ensures)) in
    simp to_z-of_z (subst (λ z. IsWrapped c.args.kind c.args.n (c.rem_euclid-low.result -ℤ z)) (sym c.modulus-then-greatest-low.ensures) (wrapped_high c.args.kind c.args.n c.rem_euclid-low.result e some lo hi))

pub returns-else-greatest-low : goal.returns-else-greatest-low
returns-else-greatest-low c =
    let n : SFits w128 c.args.n = c.ranges.n in
    let m : SFits w128 c.modulus.result = record { sfits = c.modulus.type_inv } in
    let l : SFits w128 c.rem_euclid-low.result = record { sfits = c.rem_euclid-low.type_inv } in
    let g : SFits w128 c.greatest.result = record { sfits = c.greatest.type_inv } in
    let some : 0 < modulus c.args.kind = some_values c.args.kind in
    let e : c.rem_euclid-low.result ≡ int_rem_euclid c.args.n (pos (modulus c.args.kind)) = (simp to_z-of_z at c.rem_euclid-low.ensures.value) ∙ ap (λ z. int_rem_euclid c.args.n z) c.modulus.ensures in
    let hi : c.rem_euclid-low.result ≤ℤ greatest c.args.kind = omega (arith, ints, c.greatest.ensures) in
    let zero : pos 0 ≤ℤ c.rem_euclid-low.result = omega (arith, ints, c.rem_euclid-low.ensures.lower_bound) in
    simp to_z-of_z (wrapped_low c.args.kind c.args.n c.rem_euclid-low.result e some zero hi)
