use Rattle.std.proofs.Common.{◌∙◌, ap}
use Rattle.typing_rules.specs.AbstractSyntax as p
use Rattle.typing_rules.specs.AbstractSyntax.{Bytes}
use Rattle.abstract_tree.specs.TreeView.{plain}
use Rattle.value_scopes.specs.Values.{noted}
use Rattle.judging.specs.Views.{kind_reached, typed_in}
use Rattle.judging.proofs.Chains.{no_memory}
use Rattle.judging.proofs.Forms.{seen_Member}
use Rattle.judging.proofs.Steps.{reached_within}
use Rattle.place_rules.proofs.Placing.{constant_field, field_reached, module_field, no_field, no_object, no_wanting, variable_field}
use Rattle.place_rules.proofs.kinds.variable_field.Goals as goal

pub object_field-requires-clause-reached : goal.object_field-requires-clause-reached
object_field-requires-clause-reached g c = c.in_ok-of-in-None.ensures.answer.outcome.holds

pub has-requires-clause-wanting : goal.has-requires-clause-wanting
has-requires-clause-wanting g c = no_wanting c.part_at.new.checker c.args.site.now c.in_ok-of-in-None.ensures.ready.wanting.kept c.requires.wanted

pub has-requires-clause-within : goal.has-requires-clause-within
has-requires-clause-within g c =
    reached_within c.part_at.new.checker.types c.in-Some-object_field.kind c.in_ok-of-in-None.ensures.ready.wanting.kept
    (field_reached c.args.site.now (plain c.args.a.now) c.args.name.now c.args.scopes.now c.args.checker.now c.in-None.ensures c.part_at.new.scopes c.part_at.new.checker c.in_ok-of-in-None.of c.in_ok-of-in-None.ensures.answer
    c.object_field.result c.object_field.ensures.is c.in-Some-object_field.mutable c.in-Some-object_field.kind c.in-Some-object_field.is c.object_field.ensures.reached)

pub returns-in-Some : goal.returns-in-Some
returns-in-Some g c = module_field c.args.site.now (plain c.args.a.now) c.args.name.now c.args.scopes.now c.args.checker.now _ c.in-Some.ensures

pub returns-in_err-of-in-None : goal.returns-in_err-of-in-None
returns-in_err-of-in-None g c =
    no_object c.args.site.now (plain c.args.a.now) c.args.name.now c.args.scopes.now c.args.checker.now c.in-None.ensures c.part_at.new.scopes c.part_at.new.checker c.in_err-of-in-None.field-0.0 c.from_residual.result c.from_residual.ensures
    c.in_err-of-in-None.ensures.answer

pub returns-in_err-name-in-Some-object_field : goal.returns-in_err-name-in-Some-object_field
returns-in_err-name-in-Some-object_field g c =
    no_memory typed_in kind_reached _ c.args.scopes.now _ c.args.checker.now _ c.from_residual-in_err-name-in-Some-object_field.result c.from_residual-in_err-name-in-Some-object_field.ensures

pub returns-in_ok-name-in-Some-object_field : goal.returns-in_ok-name-in-Some-object_field
returns-in_ok-name-in-Some-object_field g c =
    variable_field c.args.site.now (plain c.args.a.now) c.args.name.now c.args.scopes.now c.args.checker.now c.in-None.ensures c.part_at.new.scopes c.part_at.new.checker c.in_ok-of-in-None.of c.in_ok-of-in-None.ensures.answer
    c.object_field.result c.object_field.ensures.is c.in-Some-object_field.mutable c.in-Some-object_field.kind c.in-Some-object_field.is c.if-mutable.true c.requires.wanted c.part_at.new.scopes c.has.new.checker c.has.result
    (c.has.ensures c.part_at.new.scopes c.in_ok-of-in-None.ensures.ready.sound (λ later. p.Member (typed_in c.in_ok-of-in-None.of later) c.args.name.now)
    (λ later. seen_Member (noted later) c.in_ok-of-in-None.of c.in_ok-name-in-Some-object_field.name ∙ ap (λ (z : Bytes). p.Member (typed_in c.in_ok-of-in-None.of later) z) c.in_ok-name-in-Some-object_field.ensures))

pub returns-else-mutable : goal.returns-else-mutable
returns-else-mutable g c =
    constant_field c.args.site.now (plain c.args.a.now) c.args.name.now c.args.scopes.now c.args.checker.now c.in-None.ensures c.part_at.new.scopes c.part_at.new.checker c.in_ok-of-in-None.of c.in_ok-of-in-None.ensures.answer
    c.object_field.result c.object_field.ensures.is c.in-Some-object_field.mutable c.in-Some-object_field.kind c.in-Some-object_field.is c.if-mutable.false

pub returns-in-None-object_field : goal.returns-in-None-object_field
returns-in-None-object_field g c =
    no_field c.args.site.now (plain c.args.a.now) c.args.name.now c.args.scopes.now c.args.checker.now c.in-None.ensures c.part_at.new.scopes c.part_at.new.checker c.in_ok-of-in-None.of c.in_ok-of-in-None.ensures.answer c.in-None-object_field.ensures.is
