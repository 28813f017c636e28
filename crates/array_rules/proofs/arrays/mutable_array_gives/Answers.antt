use Rattle.std.proofs.Common.{Err, List, None, Ok, length, subst, sym, true}
use Rattle.typing_rules.specs.AbstractSyntax as p
use Rattle.typing_rules.specs.declared.condition.Condition.TheVariants as condition
use Rattle.typing_rules.specs.Ends.{Greatest}
use Rattle.typing_rules.specs.Terms as t
use Rattle.value_scopes.specs.Values.{noted}
use Rattle.judging.specs.Answers.{Answers}
use Rattle.judging.specs.Views.{each_in, each_reached, term_in}
use Rattle.judging.proofs.Forms.{seen_Array}
use Rattle.judging.proofs.TypedParts.{Given}
use Rattle.typing_rules.specs.TypedTrees.{types_of}
use Rattle.array_rules.specs.Within.{is_within}
use Rattle.array_rules.proofs.ByArray.{array_given, having, no_element, no_kind}
use Rattle.array_rules.proofs.AllElements.{below_mutable_array}
use Rattle.array_rules.proofs.arrays.mutable_array_gives.Goals as goal

pub mutable_element_kind-requires-clause-elements : goal.mutable_element_kind-requires-clause-elements
mutable_element_kind-requires-clause-elements g c = subst (λ (made : List Given). each_reached c.all.new.checker.types made) (sym c.as_slice.ensures) c.in_ok-made.ensures.answer.outcome.holds

pub has_form-requires-clause-below : goal.has_form-requires-clause-below
has_form-requires-clause-below g c = below_mutable_array (length c.all.new.checker.types.forms) c.in_ok-kind.kind c.in_ok-kind.ensures.within

pub returns-in_err-made : goal.returns-in_err-made
returns-in_err-made g c =
    no_element c.args.layer.now.site c.args.items.now None (having c.args.layer.now.site c.args.items.now None true (Greatest condition.NeedsType c.args.layer.now.site.at) t.MutableArray) c.args.scopes.now c.all.new.scopes c.args.checker.now c.all.new.checker
    c.in_err-made.field-0.0 c.from_residual.result c.from_residual.ensures c.in_err-made.ensures.answer

pub returns-in_err-kind : goal.returns-in_err-kind
returns-in_err-kind g c =
    no_kind c.args.layer.now.site c.args.items.now None true (Greatest condition.NeedsType c.args.layer.now.site.at) t.MutableArray c.args.scopes.now c.all.new.scopes c.args.checker.now c.all.new.checker c.in_ok-made.made c.in_ok-made.ensures.answer
    c.all.new.checker c.in_err-kind.field-0.0 c.from_residual-in_err-kind.result c.from_residual-in_err-kind.ensures
    (subst (λ (made : List Given). Answers term_in is_within (λ v. Greatest condition.NeedsType c.args.layer.now.site.at (types_of (each_in made v.later))) c.all.new.scopes c.all.new.checker c.all.new.scopes c.all.new.checker (Err c.in_err-kind.field-0.0))
    c.as_slice.ensures (c.in_err-kind.ensures.answer c.all.new.scopes c.in_ok-made.ensures.ready.sound))

pub returns : goal.returns
returns g c =
    let h = c.in_ok-kind.ensures.answer c.all.new.scopes c.in_ok-made.ensures.ready.sound in
    array_given c.args.layer.now.site c.args.items.now None true (Greatest condition.NeedsType c.args.layer.now.site.at) t.MutableArray c.args.scopes.now c.all.new.scopes c.args.checker.now c.all.new.checker c.in_ok-made.made c.in_ok-made.ensures.answer
    c.all.new.checker c.has_form.new.checker c.in_ok-kind.kind c.has_form.result
    (subst (λ (made : List Given). Answers term_in is_within (λ v. Greatest condition.NeedsType c.args.layer.now.site.at (types_of (each_in made v.later))) c.all.new.scopes c.all.new.checker c.all.new.scopes c.all.new.checker (Ok c.in_ok-kind.kind))
    c.as_slice.ensures h)
    (c.has_form.ensures c.all.new.scopes h.outcome.sound (λ later. p.Array true (each_in c.in_ok-made.made later)) (λ later. seen_Array (noted later) true c.in_ok-made.made))
