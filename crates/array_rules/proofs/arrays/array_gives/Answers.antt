use Rattle.std.proofs.Common.{Err, List, None, Ok, false, length, subst, sym}
use Rattle.typing_rules.specs.AbstractSyntax as p
use Rattle.typing_rules.specs.Expressions.{Elements}
use Rattle.typing_rules.specs.Terms as t
use Rattle.value_scopes.specs.Values.{noted}
use Rattle.judging.specs.Answers.{Answers}
use Rattle.judging.specs.Views.{each_in, each_reached, term_in}
use Rattle.judging.proofs.Forms.{seen_Array}
use Rattle.judging.proofs.Steps.{wanting_on}
use Rattle.judging.proofs.TypedParts.{Given}
use Rattle.typing_rules.specs.TypedTrees.{types_of}
use Rattle.array_rules.specs.Within.{is_within}
use Rattle.array_rules.proofs.ByArray.{array_given, having, no_element, no_kind}
use Rattle.array_rules.proofs.AllElements.{below_array}
use Rattle.array_rules.proofs.arrays.array_gives.Goals as goal

pub element_kind-requires-clause-elements : goal.element_kind-requires-clause-elements
element_kind-requires-clause-elements g c = subst (λ (made : List Given). each_reached c.all.new.checker.types made) (sym c.as_slice.ensures) c.in_ok-made.ensures.answer.outcome.holds

pub has_form-requires-clause-wanting : goal.has_form-requires-clause-wanting
has_form-requires-clause-wanting g c =
    let h = c.in_ok-kind.ensures.answer c.all.new.scopes c.in_ok-made.ensures.ready.sound in
    wanting_on c.all.new.checker c.element_kind.new.checker c.args.layer.now.site c.in_ok-made.ensures.ready.wanting h.outcome.sound.known.kept h.outcome.goes

pub has_form-requires-clause-below : goal.has_form-requires-clause-below
has_form-requires-clause-below g c = below_array (length c.element_kind.new.checker.types.forms) c.in_ok-kind.kind c.in_ok-kind.ensures.within

pub returns-in_err-made : goal.returns-in_err-made
returns-in_err-made g c =
    no_element c.args.layer.now.site c.args.items.now None (having c.args.layer.now.site c.args.items.now None false (Elements c.args.layer.now.site.at) t.Array) c.args.scopes.now c.all.new.scopes c.args.checker.now c.all.new.checker
    c.in_err-made.field-0.0 c.from_residual.result c.from_residual.ensures c.in_err-made.ensures.answer

pub returns-in_err-kind : goal.returns-in_err-kind
returns-in_err-kind g c =
    no_kind c.args.layer.now.site c.args.items.now None false (Elements c.args.layer.now.site.at) t.Array c.args.scopes.now c.all.new.scopes c.args.checker.now c.all.new.checker c.in_ok-made.made c.in_ok-made.ensures.answer
    c.element_kind.new.checker c.in_err-kind.field-0.0 c.from_residual-in_err-kind.result c.from_residual-in_err-kind.ensures
    (subst (λ (made : List Given). Answers term_in is_within (λ v. Elements c.args.layer.now.site.at (types_of (each_in made v.later))) c.all.new.scopes c.all.new.checker c.all.new.scopes c.element_kind.new.checker (Err c.in_err-kind.field-0.0))
    c.as_slice.ensures (c.in_err-kind.ensures.answer c.all.new.scopes c.in_ok-made.ensures.ready.sound))

pub returns : goal.returns
returns g c =
    let h = c.in_ok-kind.ensures.answer c.all.new.scopes c.in_ok-made.ensures.ready.sound in
    array_given c.args.layer.now.site c.args.items.now None false (Elements c.args.layer.now.site.at) t.Array c.args.scopes.now c.all.new.scopes c.args.checker.now c.all.new.checker c.in_ok-made.made c.in_ok-made.ensures.answer
    c.element_kind.new.checker c.has_form.new.checker c.in_ok-kind.kind c.has_form.result
    (subst (λ (made : List Given). Answers term_in is_within (λ v. Elements c.args.layer.now.site.at (types_of (each_in made v.later))) c.all.new.scopes c.all.new.checker c.all.new.scopes c.element_kind.new.checker (Ok c.in_ok-kind.kind))
    c.as_slice.ensures h)
    (c.has_form.ensures c.all.new.scopes h.outcome.sound (λ later. p.Array false (each_in c.in_ok-made.made later)) (λ later. seen_Array (noted later) false c.in_ok-made.made))
