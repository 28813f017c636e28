use Rattle.std.proofs.Common.{◌≡◌, ◌<◌, ◌+◌, subst, sym, arith, rules, Ok, Err, refl, pos, ◌-ℤ◌, ◌*ℤ◌}
use mir.Syntax.{w128}
use mir.Val.{SFits, to_z}
use Rattle.std.proofs.lemmas.Int.{to_z-of_z, to_z_pos, ints}
use Rattle.mo_num.specs.declared.leb_reader.LebFault.TheVariants.{TooWide}
use Rattle.mo_num.specs.LebRead.{ReadsSleb}
use Rattle.mo_num.proofs.Ranges.{fits_between}
use Rattle.mo_num.proofs.Reading.{IsLast, sleb_last, sleb_last_wide, sleb_more_ok, sleb_more_err, first_byte, rest_signed, joined}
use Rattle.mo_num.proofs.leb_reader.+sleb_read.Goals as goal

pub returns-then-fits_signed : goal.returns-then-fits_signed
returns-then-fits_signed t c =
    let e = c.in-Some.ensures.cases in
    let f = c.if-fits_signed.ensures in
    let v : SFits w128 c.last_digit-value.result = search rules in
    let l : IsLast c.in-Some.first.now c.last_digit-value.result = c.last_digit-value.ensures in
    let s = simp to_z-of_z at (f.0 refl) in
    simp to_z-of_z (subst (λ l. ReadsSleb c.args.bits l (Ok (c.last_digit-value.result, 1))) (sym e.0) (sleb_last c.args.bits c.in-Some.first.now c.in-Some.rest.now c.last_digit-value.result c.requires.some l s))

pub returns-else-fits_signed : goal.returns-else-fits_signed
returns-else-fits_signed t c =
    let e = c.in-Some.ensures.cases in
    let f = c.if-fits_signed.ensures in
    let v : SFits w128 c.last_digit-value.result = search rules in
    let l : IsLast c.in-Some.first.now c.last_digit-value.result = c.last_digit-value.ensures in
    let s = simp to_z-of_z at f.1 in
    subst (λ l. ReadsSleb c.args.bits l (Err TooWide)) (sym e.0) (sleb_last_wide c.args.bits c.in-Some.first.now c.in-Some.rest.now c.last_digit-value.result c.requires.some l (λ h. let g = s h in cc))

pub overflow_mul-result : goal.overflow_mul-result
overflow_mul-result t c =
    let h = c.in-Ok.ensures in
    let high : SFits w128 c.in-Ok.high = search rules in
    let r = rest_signed c.args.bits c.in-Ok.high c.requires.most (omega arith) h.1 in
    let m : SFits w128 (pos 128 *ℤ c.in-Ok.high) = fits_between _ (omega (arith, ints, r.0)) (omega (arith, ints, r.1)) in
    simp to_z-of_z m

pub returns-in-Ok : goal.returns-in-Ok
returns-in-Ok t c =
    let e = c.in-Some.ensures.cases in
    let h = c.in-Ok.ensures in
    let b : c.in-Some.first.now < 256 = first_byte c.args.bytes.now c.in-Some.first.now c.in-Some.rest.now e.0 c.type_inv.bytes in
    let high : SFits w128 c.in-Ok.high = search rules in
    let r = rest_signed c.args.bits c.in-Ok.high c.requires.most (omega arith) h.1 in
    let p : to_z w128 c.in-Some.first.now ≡ pos c.in-Some.first.now = to_z_pos w128 c.in-Some.first.now (omega (arith, b)) in
    let d : SFits w128 (pos c.in-Some.first.now -ℤ pos 128) = fits_between _ (omega (arith, ints)) (omega (arith, ints, b)) in
    let m : SFits w128 (pos 128 *ℤ c.in-Ok.high) = fits_between _ (omega (arith, ints, r.0)) (omega (arith, ints, r.1)) in
    let s : SFits w128 (joined c.in-Some.first.now c.in-Ok.high) = fits_between _ (omega (arith, ints, r.0)) (omega (arith, ints, r.1, b)) in
    simp (p, to_z-of_z)
    (subst (λ l. ReadsSleb c.args.bits l (Ok (joined c.in-Some.first.now c.in-Ok.high, c.in-Ok.count + 1))) (sym e.0)
    (sleb_more_ok c.args.bits c.in-Some.first.now c.in-Ok.count c.in-Ok.high c.in-Some.rest.now (omega arith) c.if-low-lt128.false b h))

pub returns-in-Err : goal.returns-in-Err
returns-in-Err t c =
    let e = c.in-Some.ensures.cases in
    let b = first_byte c.args.bytes.now c.in-Some.first.now c.in-Some.rest.now e.0 c.type_inv.bytes in
    subst (λ l. ReadsSleb c.args.bits l (Err c.in-Err.fault)) (sym e.0)
    (sleb_more_err c.args.bits c.in-Some.first.now c.in-Some.rest.now c.in-Err.fault (omega arith) c.if-low-lt128.false b c.in-Err.ensures)
