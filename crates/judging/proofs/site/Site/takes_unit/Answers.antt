use Rattle.judging.proofs.Ends.{no_unit, taken}
use Rattle.judging.proofs.Steps.{reached_on}
use Rattle.judging.proofs.site.Site.takes_unit.Goals as goal

pub needs_below-requires-clause-high : goal.needs_below-requires-clause-high
needs_below-requires-clause-high c = reached_on c.args.checker.now.types c.meets_unit.new.checker.types c.args.kind c.in_ok-unit.ensures.goes c.requires.kind

pub returns-in_err-unit-clause-answer : goal.returns-in_err-unit-clause-answer
returns-in_err-unit-clause-answer c = λ s q.
    no_unit c.args.self.now.at c.args.kind s c.args.checker.now c.meets_unit.new.checker c.in_err-unit.field-0.0 c.from_residual.result c.from_residual.ensures (c.in_err-unit.ensures.answer s q)

pub returns-clause-answer : goal.returns-clause-answer
returns-clause-answer c = λ s q.
    let h = c.in_ok-unit.ensures.answer s q in
    taken c.args.self.now.at c.args.kind s c.args.checker.now c.meets_unit.new.checker c.in_ok-unit.unit c.needs_below.result h.outcome.sound h c.needs_below.ensures
