use Rattle.std.proofs.Common.{◌≡◌, subst, suc, arith}
use Rattle.core_ir.specs.ScopeNames.{named}
use Rattle.core_ir.proofs.Scoping.{Searches, is_read, searches_found, searches_jump, searches_outer}
use Rattle.core_ir.proofs.scopes.find.Goals as goal

pub returns-then-left-eq0-clause-found : goal.returns-then-left-eq0-clause-found
returns-then-left-eq0-clause-found c =
    let es = c.args.entries.now in
    let r = is_read es c.loop-at.at c.index-entries-at.result c.requires.fit (omega arith) (omega arith) c.index-entries-at.is in
    let s = subst (λ n. Searches (named es) c.args.scope c.args.place n c.loop-at.left) r.at_is c.loop-at.invariant.searches in
    searches_found (named es) c.args.scope c.args.place r.i c.index-entries-at.result r.fits (subst (λ n. Searches (named es) c.args.scope c.args.place (suc r.i) n) (let e : c.loop-at.left ≡ 0 = omega arith in e) s)

pub loop-at-smaller-then-entry-left : goal.loop-at-smaller-then-entry-left
loop-at-smaller-then-entry-left c =
    let r = is_read c.args.entries.now c.loop-at.at c.index-entries-at.result c.requires.fit (omega arith) (omega arith) c.index-entries-at.is in
    let a = r.at_is in let b = r.fits.jumps.back in let o = r.fits.outer in omega (arith, a, b, o)

pub loop-at-preserved-then-entry-left : goal.loop-at-preserved-then-entry-left
loop-at-preserved-then-entry-left c =
    let es = c.args.entries.now in
    let r = is_read es c.loop-at.at c.index-entries-at.result c.requires.fit (omega arith) (omega arith) c.index-entries-at.is in
    let s = subst (λ n. Searches (named es) c.args.scope c.args.place n c.loop-at.left) r.at_is c.loop-at.invariant.searches in
    record {
      within = let a = r.at_is in let b = r.fits.jumps.back in let o = r.fits.outer in let w = c.loop-at.invariant.within in omega (arith, a, b, o, w);
      searches = searches_jump (named es) c.args.scope c.args.place r.i c.loop-at.left c.index-entries-at.result r.fits s (omega arith);
    }

pub loop-at-smaller : goal.loop-at-smaller
loop-at-smaller c =
    let r = is_read c.args.entries.now c.loop-at.at c.index-entries-at.result c.requires.fit (omega arith) (omega arith) c.index-entries-at.is in
    let a = r.at_is in let o = r.fits.outer in omega (arith, a, o)

pub loop-at-preserved : goal.loop-at-preserved
loop-at-preserved c =
    let es = c.args.entries.now in
    let r = is_read es c.loop-at.at c.index-entries-at.result c.requires.fit (omega arith) (omega arith) c.index-entries-at.is in
    let s = subst (λ n. Searches (named es) c.args.scope c.args.place n c.loop-at.left) r.at_is c.loop-at.invariant.searches in
    record {
      within = let a = r.at_is in let o = r.fits.outer in let w = c.loop-at.invariant.within in omega (arith, a, o, w);
      searches = searches_outer (named es) c.args.scope c.args.place r.i c.loop-at.left c.index-entries-at.result r.fits s (omega arith);
    }
