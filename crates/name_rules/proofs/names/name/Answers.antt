use Rattle.std.proofs.Common.{◌∙◌, ap}
use Rattle.typing_rules.specs.AbstractSyntax as p
use Rattle.type_definitions.proofs.Meanings.{within_on}
use Rattle.value_scopes.specs.Values.{noted}
use Rattle.judging.specs.Views.{kind_reached, typed_in}
use Rattle.judging.proofs.Chains.{no_memory}
use Rattle.judging.proofs.Forms.{seen_Name}
use Rattle.judging.proofs.Steps.{wanting_on}
use Rattle.name_rules.proofs.Naming.{bound_within, is_function, is_named, no_name, not_placed}
use Rattle.name_rules.proofs.names.name.Goals as goal

pub future_placed-requires-clause-within : goal.future_placed-requires-clause-within
future_placed-requires-clause-within c = bound_within c.args.checker.now.types.forms c.args.scopes.now.values c.args.name.now c.in-Some.bound.now c.in-Some.ensures c.requires.sound.values

pub has-requires-clause-wanting : goal.has-requires-clause-wanting
has-requires-clause-wanting c = wanting_on c.args.checker.now c.future_placed.new.checker c.args.site.now c.requires.wanting c.in_ok-future_placed-in-Some.ensures.kept c.in_ok-future_placed-in-Some.ensures.goes

pub has-requires-clause-within : goal.has-requires-clause-within
has-requires-clause-within c =
    within_on c.args.checker.now.types.forms c.future_placed.new.checker.types.forms c.in-Some.bound.now.kind c.in_ok-future_placed-in-Some.ensures.goes.forms
    (bound_within c.args.checker.now.types.forms c.args.scopes.now.values c.args.name.now c.in-Some.bound.now c.in-Some.ensures c.requires.sound.values)

pub returns-in_err-future_placed-in-Some : goal.returns-in_err-future_placed-in-Some
returns-in_err-future_placed-in-Some c =
    not_placed c.args.site.now c.args.name.now c.args.scopes.now c.args.checker.now c.in-Some.bound.now c.in-Some.ensures c.is_empty.result c.is_empty.ensures c.if-is_empty.true c.takes_name-takes.result c.takes_name-takes.ensures
    c.future_placed.new.checker c.in_err-future_placed-in-Some.field-0.0 c.from_residual.result c.from_residual.ensures (c.in_err-future_placed-in-Some.ensures.answer c.args.scopes.now c.requires.sound)

pub returns-in_err-copied-in-Some : goal.returns-in_err-copied-in-Some
returns-in_err-copied-in-Some c = no_memory typed_in kind_reached _ c.args.scopes.now c.args.scopes.now c.args.checker.now c.future_placed.new.checker c.from_residual-in_err-copied-in-Some.result c.from_residual-in_err-copied-in-Some.ensures

pub returns-in_ok-copied-in-Some : goal.returns-in_ok-copied-in-Some
returns-in_ok-copied-in-Some c =
    let h = c.in_ok-future_placed-in-Some.ensures.answer c.args.scopes.now c.requires.sound in
    is_named c.args.site.now c.args.name.now c.args.scopes.now c.args.checker.now c.in-Some.bound.now c.in-Some.ensures c.is_empty.result c.is_empty.ensures c.if-is_empty.true c.takes_name-takes.result c.takes_name-takes.ensures
    c.future_placed.new.checker c.has.new.checker c.has.result h
    (c.has.ensures c.args.scopes.now h.outcome.sound (λ later. p.Name c.args.name.now) (λ later. seen_Name (noted later) c.in_ok-copied-in-Some.field-0 ∙ ap p.Name c.in_ok-copied-in-Some.ensures))

pub returns-else-is_empty : goal.returns-else-is_empty
returns-else-is_empty c = is_function c.args.site.now c.args.name.now c.args.scopes.now c.args.checker.now c.in-Some.bound.now c.in-Some.ensures c.is_empty.result c.is_empty.ensures c.if-is_empty.false

pub returns-in-None : goal.returns-in-None
returns-in-None c = no_name c.args.site.now c.args.name.now c.args.scopes.now c.args.checker.now c.in-None.ensures
