use Rattle.std.proofs.Common.{Bool, Ok, subst, sym}
use Rattle.judging.specs.Answers.{Answers}
use Rattle.judging.specs.Views.{no_more, nothing}
use Rattle.object_rules.proofs.Fitting.{constant_fits, fits, mutable_fits, not_below}
use Rattle.object_rules.proofs.values.fits_field.Goals as goal

pub returns-in_err-needs_below : goal.returns-in_err-needs_below
returns-in_err-needs_below c = λ s q.
    not_below c.args.at c.args.kind c.args.wanted s c.args.checker.now q c.args.mutable c.in_err-needs_below.field-0.0 c.from_residual.result c.from_residual.ensures c.in_err-needs_below.ensures

pub returns-then-mutable : goal.returns-then-mutable
returns-then-mutable c = λ s q.
    subst (λ (b : Bool). Answers nothing no_more (fits c.args.at c.args.kind c.args.wanted s c.args.checker.now q b) s c.args.checker.now s c.args.checker.now c.needs_below-then-mutable.result) (sym c.if-mutable.true)
    (mutable_fits c.args.at c.args.kind c.args.wanted s c.args.checker.now q c.in_ok-needs_below.ensures c.needs_below-then-mutable.result c.needs_below-then-mutable.ensures)

pub returns-else-mutable : goal.returns-else-mutable
returns-else-mutable c = λ s q.
    subst (λ (b : Bool). Answers nothing no_more (fits c.args.at c.args.kind c.args.wanted s c.args.checker.now q b) s c.args.checker.now s c.args.checker.now (Ok tt)) (sym c.if-mutable.false)
    (constant_fits c.args.at c.args.kind c.args.wanted s c.args.checker.now q c.in_ok-needs_below.ensures)
