use Rattle.judging.proofs.Steps.{plain_text, reached_on}
use Rattle.operator_rules.proofs.RightSides.{is_equal, no_text, not_high, not_low}
use Rattle.operator_rules.proofs.assigning.needs_text.Goals as goal

pub meets_plain-requires-clause-plain : goal.meets_plain-requires-clause-plain
meets_plain-requires-clause-plain c = plain_text

pub returns-in_err-text : goal.returns-in_err-text
returns-in_err-text c = λ s q. no_text c.args.at c.args.kind s c.args.checker.now c.meets_plain.new.checker c.in_err-text.field-0.0 c.from_residual.result c.from_residual.ensures (c.in_err-text.ensures.answer s q)

pub needs_below-requires-clause-low : goal.needs_below-requires-clause-low
needs_below-requires-clause-low c = reached_on c.args.checker.now.types c.meets_plain.new.checker.types c.args.kind c.in_ok-text.ensures.goes c.requires.kind

pub returns-in_err-needs_below : goal.returns-in_err-needs_below
returns-in_err-needs_below c = λ s q.
    not_low c.args.at c.args.kind s c.args.checker.now c.meets_plain.new.checker c.in_ok-text.text (c.in_ok-text.ensures.answer s q) c.in_err-needs_below.field-0.0 c.from_residual-in_err-needs_below.result c.from_residual-in_err-needs_below.ensures
    c.in_err-needs_below.ensures

pub needs_below-requires-2-clause-high : goal.needs_below-requires-2-clause-high
needs_below-requires-2-clause-high c = reached_on c.args.checker.now.types c.meets_plain.new.checker.types c.args.kind c.in_ok-text.ensures.goes c.requires.kind

pub returns-in_err-needs_below-2 : goal.returns-in_err-needs_below-2
returns-in_err-needs_below-2 c = λ s q.
    not_high c.args.at c.args.kind s c.args.checker.now c.meets_plain.new.checker c.in_ok-text.text (c.in_ok-text.ensures.answer s q) c.in_err-needs_below-2.field-0.0 c.from_residual-in_err-needs_below-2.result c.from_residual-in_err-needs_below-2.ensures
    c.in_ok-needs_below.ensures c.in_err-needs_below-2.ensures

pub returns : goal.returns
returns c = λ s q. is_equal c.args.at c.args.kind s c.args.checker.now c.meets_plain.new.checker c.in_ok-text.text (c.in_ok-text.ensures.answer s q) c.in_ok-needs_below.ensures c.in_ok-needs_below-2.ensures
