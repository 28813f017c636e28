use Rattle.std.proofs.Common.{◌∙◌, ap, sym}
use Rattle.abstract_tree.specs.TreeView.{plain}
use Rattle.expression_shapes.specs.declared.shape.Shape as value
use Rattle.expression_shapes.specs.Shapes.{seen_shape}
use Rattle.annotation_rules.proofs.ActorTexts.{text_in, text_is}
use Rattle.annotation_rules.proofs.actors.actor_text.Goals as goal

pub returns-in-Constant : goal.returns-in-Constant
returns-in-Constant c = ap (λ (s : value.Shape). text_in (seen_shape s)) (sym c.in-Constant.is) ∙ (ap text_in c.shape_of.ensures ∙ text_is (plain c.args.a.now))

pub returns-in-Name : goal.returns-in-Name
returns-in-Name c = ap (λ (s : value.Shape). text_in (seen_shape s)) (sym c.in-Name.is) ∙ (ap text_in c.shape_of.ensures ∙ text_is (plain c.args.a.now))

pub returns-in-Member : goal.returns-in-Member
returns-in-Member c = ap (λ (s : value.Shape). text_in (seen_shape s)) (sym c.in-Member.is) ∙ (ap text_in c.shape_of.ensures ∙ text_is (plain c.args.a.now))

pub returns-in-Negative : goal.returns-in-Negative
returns-in-Negative c = ap (λ (s : value.Shape). text_in (seen_shape s)) (sym c.in-Negative.is) ∙ (ap text_in c.shape_of.ensures ∙ text_is (plain c.args.a.now))

pub returns-in-ActorReference : goal.returns-in-ActorReference
returns-in-ActorReference c = ap (λ (s : value.Shape). text_in (seen_shape s)) (sym c.in-ActorReference.is) ∙ (ap text_in c.shape_of.ensures ∙ text_is (plain c.args.a.now))

pub returns-in-Other : goal.returns-in-Other
returns-in-Other c = ap (λ (s : value.Shape). text_in (seen_shape s)) (sym c.in-Other.is) ∙ (ap text_in c.shape_of.ensures ∙ text_is (plain c.args.a.now))
