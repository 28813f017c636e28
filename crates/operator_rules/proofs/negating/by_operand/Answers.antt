use Rattle.typing_rules.specs.AbstractSyntax as p
use Rattle.abstract_tree.specs.TreeView.{plain}
use Rattle.value_scopes.specs.Values.{noted}
use Rattle.judging.specs.Views.{typed_in}
use Rattle.judging.proofs.Forms.{seen_Negative}
use Rattle.judging.proofs.Steps.{plain_number}
use Rattle.operator_rules.proofs.Opposites.{is_negated, no_operand, not_negated}
use Rattle.operator_rules.proofs.negating.by_operand.Goals as goal

pub returns-in_err-of : goal.returns-in_err-of
returns-in_err-of g c = no_operand c.args.layer.now.site (plain c.args.a.now) c.args.scopes.now c.part.new.scopes c.args.checker.now c.part.new.checker c.in_err-of.field-0.0 c.from_residual.result c.from_residual.ensures c.in_err-of.ensures.answer

pub negated_of-requires-clause-reached : goal.negated_of-requires-clause-reached
negated_of-requires-clause-reached g c = c.in_ok-of.ensures.answer.outcome.holds

pub has_plain-requires-clause-plain : goal.has_plain-requires-clause-plain
has_plain-requires-clause-plain g c = plain_number c.in-Some.kind

pub returns-in-Some : goal.returns-in-Some
returns-in-Some g c =
    is_negated c.args.layer.now.site (plain c.args.a.now) c.args.scopes.now c.part.new.scopes c.args.checker.now c.part.new.checker c.in_ok-of.of c.in_ok-of.ensures.answer c.negated_of.result c.negated_of.ensures c.in-Some.kind c.has_plain.new.checker c.has_plain.result c.in-Some.is
    (c.has_plain.ensures c.part.new.scopes c.in_ok-of.ensures.ready.sound (λ later. p.Negative (typed_in c.in_ok-of.of later)) (λ later. seen_Negative (noted later) c.in_ok-of.of))

pub returns-in-None : goal.returns-in-None
returns-in-None g c = not_negated c.args.layer.now.site (plain c.args.a.now) c.args.scopes.now c.part.new.scopes c.args.checker.now c.part.new.checker c.in_ok-of.of c.in_ok-of.ensures.answer c.negated_of.result c.negated_of.ensures c.in-None.is
