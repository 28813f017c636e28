use Rattle.std.proofs.Common.{◌+◌, take, sym, subst}
use Rattle.mo_coverage.specs.Covering.{cover_in}
use Rattle.switch_coverage.specs.Found.{switches_in}
use Rattle.switch_coverage.specs.Uncovered.{Selects, all_missing}
use Rattle.switch_coverage.proofs.Selecting.{fits_at, next_found}
use Rattle.switch_coverage.proofs.uncovered.select.Goals as goal

pub cover-requires-clause-fits : goal.cover-requires-clause-fits
cover-requires-clause-fits c = fits_at c.args.types.now c.args.found.now c.loop-one.one-index c.one-item.result c.loop-one-test.true c.one-item.is c.requires.fit

pub loop-one-preserved : goal.loop-one-preserved
loop-one-preserved c =
    subst (λ ms. Selects c.args.types.now (switches_in (take (c.loop-one.one-index + 1) c.args.found.now)) ms) (sym c.in_ok-add.ensures)
    (next_found c.args.types.now c.args.found.now c.loop-one.one-index c.one-item.result (cover_in c.in_ok-told.told) (all_missing c.loop-one.made.items) c.loop-one-test.true c.one-item.is c.loop-one.invariant c.in_ok-told.ensures)
