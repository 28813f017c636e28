use Rattle.judging.proofs.Ends.{jumped, no_jump}
use Rattle.judging.proofs.Steps.{wanting_on}
use Rattle.judging.proofs.site.Site.leaves.Goals as goal

pub has_bottom-requires : goal.has_bottom-requires
has_bottom-requires c = wanting_on c.args.checker.now c.takes_unit.new.checker c.args.self.now c.requires.wanting c.in_ok-takes_unit.ensures.kept c.in_ok-takes_unit.ensures.goes

pub returns-in_err-takes_unit : goal.returns-in_err-takes_unit
returns-in_err-takes_unit c = λ s q f e.
    no_jump c.args.self.now c.args.kind f s c.args.checker.now c.takes_unit.new.checker c.in_err-takes_unit.field-0.0 c.from_residual.result c.from_residual.ensures (c.in_err-takes_unit.ensures.answer s q)

pub returns : goal.returns
returns c = λ s q f e.
    let h = c.in_ok-takes_unit.ensures.answer s q in
    jumped c.args.self.now c.args.kind f s c.args.checker.now c.takes_unit.new.checker c.has_bottom.new.checker c.has_bottom.result h (c.has_bottom.ensures s h.outcome.sound f e)
