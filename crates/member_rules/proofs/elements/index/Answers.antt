use Rattle.std.proofs.Common.{List}
use Rattle.mo_num.specs.declared.kind.Kind.TheVariants as kind
use Rattle.type_terms.specs.declared.form.Form.{Form}
use Rattle.typing_rules.specs.AbstractSyntax as p
use Rattle.abstract_tree.specs.TreeView.{plain}
use Rattle.value_scopes.specs.Values.{noted}
use Rattle.judging.specs.Views.{typed_in}
use Rattle.judging.proofs.Forms.{seen_Index}
use Rattle.judging.proofs.Steps.{plain_number, reached_on, reached_within}
use Rattle.member_rules.proofs.Parted.{element_found, no_array_judged, no_elements, no_place}
use Rattle.member_rules.proofs.elements.index.Goals as goal

pub element-requires-clause-reached : goal.element-requires-clause-reached
element-requires-clause-reached g c = c.in_ok-of.ensures.answer.outcome.holds

pub fits-requires-clause-plain : goal.fits-requires-clause-plain
fits-requires-clause-plain g c = plain_number kind.Nat

pub has-requires-clause-within : goal.has-requires-clause-within
has-requires-clause-within g c =
    reached_within c.fits.new.checker.types c.in-Some.kind c.in_ok-place-in-Some.ensures.ready.wanting.kept
    (reached_on c.part.new.checker.types c.fits.new.checker.types c.in-Some.kind c.in_ok-place-in-Some.ensures.answer.outcome.goes c.in-Some.ensures.reached)

pub returns-in_err-of : goal.returns-in_err-of
returns-in_err-of g c =
    no_array_judged c.args.layer.now.site (plain c.args.a.now) (plain c.args.i.now) c.args.scopes.now c.part.new.scopes c.args.checker.now c.part.new.checker c.in_err-of.field-0.0 c.from_residual.result c.from_residual.ensures c.in_err-of.ensures.answer

pub returns-in_err-place-in-Some : goal.returns-in_err-place-in-Some
returns-in_err-place-in-Some g c =
    no_place c.args.layer.now.site (plain c.args.a.now) (plain c.args.i.now) c.args.scopes.now c.part.new.scopes c.args.checker.now c.part.new.checker c.in_ok-of.of c.in_ok-of.ensures.answer c.in-Some.kind c.in-Some.ensures.is
    c.fits.new.scopes c.fits.new.checker c.in_err-place-in-Some.field-0.0 c.from_residual-in_err-place-in-Some.result c.from_residual-in_err-place-in-Some.ensures c.in_err-place-in-Some.ensures.answer

pub returns-in_ok-place-in-Some : goal.returns-in_ok-place-in-Some
returns-in_ok-place-in-Some g c =
    element_found c.args.layer.now.site (plain c.args.a.now) (plain c.args.i.now) c.args.scopes.now c.part.new.scopes c.args.checker.now c.part.new.checker c.in_ok-of.of c.in_ok-of.ensures.answer c.in-Some.kind c.in-Some.ensures.is
    c.fits.new.scopes c.fits.new.scopes c.fits.new.checker c.has.new.checker c.in_ok-place-in-Some.place c.has.result c.in_ok-place-in-Some.ensures.answer
    (c.has.ensures c.fits.new.scopes c.in_ok-place-in-Some.ensures.ready.sound (λ (later : List Form). p.Index (typed_in c.in_ok-of.of later) (typed_in c.in_ok-place-in-Some.place later))
    (λ later. seen_Index (noted later) c.in_ok-of.of c.in_ok-place-in-Some.place))

pub returns-in-None : goal.returns-in-None
returns-in-None g c =
    no_elements c.args.layer.now.site (plain c.args.a.now) (plain c.args.i.now) c.args.scopes.now c.part.new.scopes c.args.checker.now c.part.new.checker c.in_ok-of.of c.in_ok-of.ensures.answer c.in-None.ensures.is
