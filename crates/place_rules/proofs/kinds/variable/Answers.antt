use Rattle.std.proofs.Common.{◌∙◌, ap}
use Rattle.typing_rules.specs.AbstractSyntax as p
use Rattle.value_scopes.specs.Values.{noted}
use Rattle.judging.specs.Views.{kind_reached, typed_in}
use Rattle.judging.proofs.Chains.{no_memory}
use Rattle.judging.proofs.Forms.{seen_Name}
use Rattle.name_rules.proofs.Naming.{bound_within}
use Rattle.place_rules.proofs.Placing.{constant_name, no_variable, variable_name}
use Rattle.place_rules.proofs.kinds.variable.Goals as goal

pub has-requires-clause-within : goal.has-requires-clause-within
has-requires-clause-within c = bound_within c.args.checker.now.types.forms c.args.scopes.now.values c.args.name.now c.in-Some.bound.now c.in-Some.ensures c.requires.ready.sound.values

pub returns-in_err-copied-in-Some : goal.returns-in_err-copied-in-Some
returns-in_err-copied-in-Some c = no_memory typed_in kind_reached _ c.args.scopes.now c.args.scopes.now c.args.checker.now c.args.checker.now c.from_residual.result c.from_residual.ensures

pub returns-in_ok-copied-in-Some : goal.returns-in_ok-copied-in-Some
returns-in_ok-copied-in-Some c =
    variable_name c.args.site.now c.args.name.now c.args.scopes.now c.args.checker.now c.in-Some.bound.now c.in-Some.ensures c.if-bound.true c.requires.wanted c.has.new.checker c.has.result
    (c.has.ensures c.args.scopes.now c.requires.ready.sound (λ later. p.Name c.args.name.now) (λ later. seen_Name (noted later) c.in_ok-copied-in-Some.field-0 ∙ ap p.Name c.in_ok-copied-in-Some.ensures))

pub returns-else-bound : goal.returns-else-bound
returns-else-bound c = constant_name c.args.site.now c.args.name.now c.args.scopes.now c.args.checker.now c.in-Some.bound.now c.in-Some.ensures c.if-bound.false

pub returns-in-None : goal.returns-in-None
returns-in-None c = no_variable c.args.site.now c.args.name.now c.args.scopes.now c.args.checker.now c.in-None.ensures
