use Rattle.std.proofs.Common.{List}
use Rattle.type_terms.specs.declared.form.Form.{Form}
use Rattle.typing_rules.specs.AbstractSyntax as p
use Rattle.abstract_tree.specs.TreeView.{plain}
use Rattle.value_scopes.specs.Values.{noted}
use Rattle.judging.specs.Views.{typed_in}
use Rattle.judging.proofs.Forms.{seen_Index}
use Rattle.judging.proofs.Steps.{reached_on, reached_within}
use Rattle.place_rules.proofs.Placing.{constant_elements, no_array_judged, no_elements, no_index, no_wanting, variable_element}
use Rattle.place_rules.proofs.kinds.variable_element.Goals as goal

pub element-requires-clause-reached : goal.element-requires-clause-reached
element-requires-clause-reached g c = c.in_ok-of.ensures.answer.outcome.holds

pub mutable_element-requires-clause-reached : goal.mutable_element-requires-clause-reached
mutable_element-requires-clause-reached g c = c.in_ok-of.ensures.answer.outcome.holds

pub has-requires-clause-wanting : goal.has-requires-clause-wanting
has-requires-clause-wanting g c = no_wanting c.fits_nat.new.checker c.args.site.now c.in_ok-place-in-Some-mutable_element.ensures.ready.wanting.kept c.requires.wanted

pub has-requires-clause-within : goal.has-requires-clause-within
has-requires-clause-within g c =
    reached_within c.fits_nat.new.checker.types c.in-Some-mutable_element.kind c.in_ok-place-in-Some-mutable_element.ensures.ready.wanting.kept
    (reached_on c.part_at.new.checker.types c.fits_nat.new.checker.types c.in-Some-mutable_element.kind c.in_ok-place-in-Some-mutable_element.ensures.answer.outcome.goes c.in-Some-mutable_element.ensures.reached)

pub returns-in_err-of : goal.returns-in_err-of
returns-in_err-of g c =
    no_array_judged c.args.site.now (plain c.args.a.now) (plain c.args.i.now) c.args.scopes.now c.part_at.new.scopes c.args.checker.now c.part_at.new.checker c.in_err-of.field-0.0 c.from_residual.result c.from_residual.ensures c.in_err-of.ensures.answer

pub returns-in-None : goal.returns-in-None
returns-in-None g c =
    no_elements c.args.site.now (plain c.args.a.now) (plain c.args.i.now) c.args.scopes.now c.part_at.new.scopes c.args.checker.now c.part_at.new.checker c.in_ok-of.of c.in_ok-of.ensures.answer c.in-None.ensures.is

pub returns-in-None-mutable_element : goal.returns-in-None-mutable_element
returns-in-None-mutable_element g c = constant_elements c.args.site.now (plain c.args.a.now) (plain c.args.i.now) c.args.scopes.now c.part_at.new.scopes c.args.checker.now c.part_at.new.checker c.in_ok-of.of c.in_ok-of.ensures.answer c.in-Some.field-0 c.in-Some.ensures.is c.in-None-mutable_element.ensures.is

pub returns-in_err-place-in-Some-mutable_element : goal.returns-in_err-place-in-Some-mutable_element
returns-in_err-place-in-Some-mutable_element g c =
    no_index c.args.site.now (plain c.args.a.now) (plain c.args.i.now) c.args.scopes.now c.part_at.new.scopes c.args.checker.now c.part_at.new.checker c.in_ok-of.of c.in_ok-of.ensures.answer c.in-Some.field-0 c.in-Some.ensures.is c.in-Some-mutable_element.kind c.in-Some-mutable_element.ensures.is
    c.fits_nat.new.scopes c.fits_nat.new.checker c.in_err-place-in-Some-mutable_element.field-0.0 c.from_residual-in_err-place-in-Some-mutable_element.result c.from_residual-in_err-place-in-Some-mutable_element.ensures
    c.in_err-place-in-Some-mutable_element.ensures.answer

pub returns-in_ok-place-in-Some-mutable_element : goal.returns-in_ok-place-in-Some-mutable_element
returns-in_ok-place-in-Some-mutable_element g c =
    variable_element c.args.site.now (plain c.args.a.now) (plain c.args.i.now) c.args.scopes.now c.part_at.new.scopes c.args.checker.now c.part_at.new.checker c.in_ok-of.of c.in_ok-of.ensures.answer c.in-Some.field-0 c.in-Some.ensures.is c.in-Some-mutable_element.kind c.in-Some-mutable_element.ensures.is c.requires.wanted
    c.fits_nat.new.scopes c.fits_nat.new.scopes c.fits_nat.new.checker c.has.new.checker c.in_ok-place-in-Some-mutable_element.place c.has.result c.in_ok-place-in-Some-mutable_element.ensures.answer
    (c.has.ensures c.fits_nat.new.scopes c.in_ok-place-in-Some-mutable_element.ensures.ready.sound (λ (later : List Form). p.Index (typed_in c.in_ok-of.of later) (typed_in c.in_ok-place-in-Some-mutable_element.place later))
    (λ later. seen_Index (noted later) c.in_ok-of.of c.in_ok-place-in-Some-mutable_element.place))
