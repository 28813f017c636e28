use Rattle.std.proofs.Common.{◌+◌, subst, sym, arith}
use Rattle.core_ir.specs.ScopeNames.{named, Jumps}
use Rattle.core_ir.proofs.Scoping.{is_read, jumps_twice}
use Rattle.core_ir.proofs.scopes.jump_from.Goals as goal

pub bounds-entries-near : goal.bounds-entries-near
bounds-entries-near c =
    let r = is_read c.args.entries.now c.args.outer c.index-entries-outer.result c.requires.fit (omega arith) c.requires.within c.index-entries-outer.is in
    let a = r.at_is in let b = r.fits.jumps.back in let o = r.fits.outer in omega (arith, a, b, o)

pub returns : goal.returns
returns c =
    let es = c.args.entries.now in
    let near = c.index-entries-outer.result in
    let far = c.index-entries-near.result in
    let r = is_read es c.args.outer near c.requires.fit (omega arith) c.requires.within c.index-entries-outer.is in
    let a = r.at_is in let b = r.fits.jumps.back in let o = r.fits.outer in
    let q = is_read es near.jump far c.requires.fit (omega arith) (omega (arith, a, b, o)) c.index-entries-near.is in
    subst (λ n. Jumps (named es) n far.jump (1 + near.skip + far.skip)) (sym r.at_is) (jumps_twice (named es) r.i q.i near far r.fits q.at_is q.fits)
