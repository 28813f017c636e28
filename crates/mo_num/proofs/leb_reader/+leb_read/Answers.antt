use Rattle.std.proofs.Common.{◌+◌, ◌-◌, ◌*◌, subst, sym, arith, Ok, Err, refl}
use Rattle.mo_num.specs.declared.leb_reader.LebFault.TheVariants.{TooWide}
use Rattle.mo_num.specs.LebRead.{ReadsLeb}
use Rattle.mo_num.proofs.Reading.{leb_last, leb_last_wide, leb_more_ok, leb_more_err, first_byte, rest_fits}
use Rattle.mo_num.proofs.leb_reader.+leb_read.Goals as goal

pub returns-then-fits : goal.returns-then-fits
returns-then-fits t c =
    let e = c.in-Some.ensures.cases in
    let f = c.if-fits.ensures in
    subst (λ l. ReadsLeb c.args.bits l (Ok (c.in-Some.first.now, 1))) (sym e.0) (leb_last c.args.bits c.in-Some.first.now c.in-Some.rest.now c.requires.some c.if-low-lt128.true (f.0 refl))

pub returns-else-fits : goal.returns-else-fits
returns-else-fits t c =
    let e = c.in-Some.ensures.cases in
    let f = c.if-fits.ensures in
    subst (λ l. ReadsLeb c.args.bits l (Err TooWide)) (sym e.0) (leb_last_wide c.args.bits c.in-Some.first.now c.in-Some.rest.now c.requires.some c.if-low-lt128.true (λ h. let g = f.1 h in cc))

pub overflow_mul-result : goal.overflow_mul-result
overflow_mul-result t c =
    let h = c.in-Ok.ensures in
    let r = rest_fits c.args.bits c.in-Ok.high c.requires.most (omega arith) h.1 in
    omega (arith, r)

pub overflow_add-result : goal.overflow_add-result
overflow_add-result t c =
    let e = c.in-Some.ensures.cases in
    let h = c.in-Ok.ensures in
    let b = first_byte c.args.bytes.now c.in-Some.first.now c.in-Some.rest.now e.0 c.type_inv.bytes in
    let r = rest_fits c.args.bits c.in-Ok.high c.requires.most (omega arith) h.1 in
    omega (arith, r, b)

pub returns-in-Ok : goal.returns-in-Ok
returns-in-Ok t c =
    let e = c.in-Some.ensures.cases in
    let b = first_byte c.args.bytes.now c.in-Some.first.now c.in-Some.rest.now e.0 c.type_inv.bytes in
    subst (λ l. ReadsLeb c.args.bits l (Ok (c.in-Some.first.now - 128 + 128 * c.in-Ok.high, c.in-Ok.count + 1))) (sym e.0)
    (leb_more_ok c.args.bits c.in-Some.first.now c.in-Ok.high c.in-Ok.count c.in-Some.rest.now (omega arith) c.if-low-lt128.false b c.in-Ok.ensures)

pub returns-in-Err : goal.returns-in-Err
returns-in-Err t c =
    let e = c.in-Some.ensures.cases in
    let b = first_byte c.args.bytes.now c.in-Some.first.now c.in-Some.rest.now e.0 c.type_inv.bytes in
    subst (λ l. ReadsLeb c.args.bits l (Err c.in-Err.fault)) (sym e.0)
    (leb_more_err c.args.bits c.in-Some.first.now c.in-Some.rest.now c.in-Err.fault (omega arith) c.if-low-lt128.false b c.in-Err.ensures)
