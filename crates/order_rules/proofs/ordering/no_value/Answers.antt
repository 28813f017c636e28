use Rattle.std.proofs.Common.{Option, IfSome, subst}
use Rattle.type_terms.specs.declared.form.TermId.{TermId}
use Rattle.met_types.specs.States.{IsReached}
use Rattle.judging.proofs.Steps.{reached_on}
use Rattle.order_rules.proofs.Expressions.{is_below, no_unit, not_below, unit_alone}
use Rattle.order_rules.proofs.ordering.no_value.Goals as goal

pub needs_below-requires-clause-high : goal.needs_below-requires-clause-high
needs_below-requires-clause-high c =
    reached_on c.args.checker.now.types c.meets_unit.new.checker.types c.in-Some.wanted c.in_ok-unit.ensures.goes
    (subst (λ (o : Option TermId). IfSome o (IsReached c.args.checker.now.types)) c.in-Some.is c.requires.wanted)

pub returns-in_err-unit : goal.returns-in_err-unit
returns-in_err-unit c = λ s q.
    no_unit c.args.site.now s c.args.checker.now c.meets_unit.new.checker c.in_err-unit.field-0.0 c.from_residual.result c.from_residual.ensures (c.in_err-unit.ensures.answer s q)

pub returns-in-None : goal.returns-in-None
returns-in-None c = λ s q. unit_alone c.args.site.now s c.args.checker.now c.meets_unit.new.checker c.in_ok-unit.unit (c.in_ok-unit.ensures.answer s q) c.in-None.is

pub returns-in_err-needs_below-in-Some : goal.returns-in_err-needs_below-in-Some
returns-in_err-needs_below-in-Some c = λ s q.
    not_below c.args.site.now s c.args.checker.now c.meets_unit.new.checker c.in_ok-unit.unit (c.in_ok-unit.ensures.answer s q) c.in-Some.wanted c.in-Some.is c.in_err-needs_below-in-Some.field-0.0
    c.from_residual-in_err-needs_below-in-Some.result c.from_residual-in_err-needs_below-in-Some.ensures c.in_err-needs_below-in-Some.ensures

pub returns-in_ok-needs_below-in-Some : goal.returns-in_ok-needs_below-in-Some
returns-in_ok-needs_below-in-Some c = λ s q.
    is_below c.args.site.now s c.args.checker.now c.meets_unit.new.checker c.in_ok-unit.unit (c.in_ok-unit.ensures.answer s q) c.in-Some.wanted c.in-Some.is c.in_ok-needs_below-in-Some.ensures
