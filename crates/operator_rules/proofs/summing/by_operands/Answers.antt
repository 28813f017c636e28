use Rattle.typing_rules.specs.AbstractSyntax as p
use Rattle.abstract_tree.specs.TreeView.{plain}
use Rattle.value_scopes.specs.Values.{noted}
use Rattle.judging.specs.Views.{typed_in}
use Rattle.judging.proofs.Forms.{seen_Binary}
use Rattle.judging.proofs.Steps.{reached_within}
use Rattle.operand_rules.specs.Families.{family_in}
use Rattle.operator_rules.proofs.Numbers.{is_number, no_number, no_operands}
use Rattle.operator_rules.proofs.summing.by_operands.Goals as goal

pub returns-in_err-pair : goal.returns-in_err-pair
returns-in_err-pair g c = no_operands c.args.layer.now.site (family_in c.args.family) c.args.operator (plain c.args.a.now) (plain c.args.b.now) c.args.scopes.now c.operands.new.scopes c.args.checker.now c.operands.new.checker c.in_err-pair.field-0.0 c.from_residual.result c.from_residual.ensures c.in_err-pair.ensures.answer

pub number_with-requires-clause-reached : goal.number_with-requires-clause-reached
number_with-requires-clause-reached g c = c.in_ok-pair.ensures.answer.outcome.holds

pub has-requires-clause-within : goal.has-requires-clause-within
has-requires-clause-within g c = reached_within c.operands.new.checker.types c.in_ok-pair.pair.kind c.in_ok-pair.ensures.ready.sound.known.kept c.in_ok-pair.ensures.answer.outcome.holds

pub returns-in-Some : goal.returns-in-Some
returns-in-Some g c =
    is_number c.args.layer.now.site (family_in c.args.family) c.args.operator (plain c.args.a.now) (plain c.args.b.now) c.args.scopes.now c.operands.new.scopes c.args.checker.now c.operands.new.checker c.in_ok-pair.pair c.in_ok-pair.ensures.answer c.number_with.result c.number_with.ensures _ c.has.new.checker c.has.result c.in-Some.is
    (c.has.ensures c.operands.new.scopes c.in_ok-pair.ensures.ready.sound (λ later. p.Binary c.args.operator (typed_in c.in_ok-pair.pair.left later) (typed_in c.in_ok-pair.pair.right later))
    (λ later. seen_Binary (noted later) c.args.operator c.in_ok-pair.pair.left c.in_ok-pair.pair.right))

pub returns-in-None : goal.returns-in-None
returns-in-None g c = no_number c.args.layer.now.site (family_in c.args.family) c.args.operator (plain c.args.a.now) (plain c.args.b.now) c.args.scopes.now c.operands.new.scopes c.args.checker.now c.operands.new.checker c.in_ok-pair.pair c.in_ok-pair.ensures.answer c.number_with.result c.number_with.ensures c.in-None.is
