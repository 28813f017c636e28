use Rattle.met_types.specs.States.{State}
use Rattle.judging.specs.declared.checker.Checker.{Checker}
use Rattle.judging.proofs.Steps.{sound_on, wanting_on, unmet, not_below, ends}
use Rattle.judging.proofs.site.Site.has.Goals as goal

abbrev met : Checker → State → Checker
met k t = record k { types = t }

pub below_wanted-requires-clause-wanting : goal.below_wanted-requires-clause-wanting
below_wanted-requires-clause-wanting c =
    wanting_on c.args.checker.now (met c.args.checker.now c.meets.new.types) c.args.self.now c.requires.wanting c.in_ok-meets.ensures.kept c.in_ok-meets.ensures.goes

pub returns-in_err-meets : goal.returns-in_err-meets
returns-in_err-meets c = λ s q f e.
    unmet c.args.self.now c.args.kind f s c.args.checker.now (met c.args.checker.now c.meets.new.types) c.in_err-meets.field-0.0 c.from_residual.result c.from_residual.ensures c.in_err-meets.ensures.left
    c.in_err-meets.ensures.judged

pub returns-in_err-below_wanted : goal.returns-in_err-below_wanted
returns-in_err-below_wanted c = λ s q f e.
    let known = sound_on c.args.checker.now s c.meets.new.types q c.in_ok-meets.ensures.kept c.in_ok-meets.ensures.goes in
    not_below c.args.self.now c.args.kind f s c.args.checker.now (met c.args.checker.now c.meets.new.types) c.in_err-below_wanted.field-0.0 c.from_residual-in_err-below_wanted.result known
    c.in_ok-meets.ensures.goes c.in_ok-meets.ensures.judged c.from_residual-in_err-below_wanted.ensures (c.in_err-below_wanted.ensures s known)

pub returns : goal.returns
returns c = λ s q f e.
    let known = sound_on c.args.checker.now s c.meets.new.types q c.in_ok-meets.ensures.kept c.in_ok-meets.ensures.goes in
    ends c.args.self.now c.args.kind f s c.args.checker.now (met c.args.checker.now c.meets.new.types) c.gives.result known c.in_ok-meets.ensures.goes c.in_ok-meets.ensures.judged
    (c.in_ok-below_wanted.ensures s known) (c.gives.ensures s known f e)
