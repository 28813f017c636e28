use Rattle.typing_rules.specs.AbstractSyntax as p
use Rattle.abstract_tree.specs.TreeView.{plain}
use Rattle.value_scopes.specs.Values.{noted}
use Rattle.judging.specs.Views.{typed_in}
use Rattle.judging.proofs.Forms.{seen_Binary}
use Rattle.judging.proofs.Steps.{reached_on}
use Rattle.judging.proofs.TypedParts.{both_given, first_refused, second_refused}
use Rattle.operator_rules.proofs.Numbers.{made_as, wanted_operand}
use Rattle.operator_rules.proofs.summing.as_wanted.Goals as goal

pub gives-requires : goal.gives-requires
gives-requires g c =
    reached_on c.as_wanted.new.checker.types c.as_wanted-2.new.checker.types c.args.wanted c.in_ok-right.ensures.answer.outcome.goes
    (reached_on c.args.checker.now.types c.as_wanted.new.checker.types c.args.wanted c.in_ok-left.ensures.answer.outcome.goes c.requires.wanted)

pub returns-in_err-left : goal.returns-in_err-left
returns-in_err-left g c = first_refused (wanted_operand c.args.layer.now.site (plain c.args.a.now)) (wanted_operand c.args.layer.now.site (plain c.args.b.now)) (made_as c.args.layer.now.site c.args.wanted c.args.operator) c.args.scopes.now c.as_wanted.new.scopes c.args.checker.now c.as_wanted.new.checker c.in_err-left.field-0.0 c.from_residual.result c.from_residual.ensures c.in_err-left.ensures.answer

pub returns-in_err-right : goal.returns-in_err-right
returns-in_err-right g c =
    second_refused (wanted_operand c.args.layer.now.site (plain c.args.a.now)) (wanted_operand c.args.layer.now.site (plain c.args.b.now)) (made_as c.args.layer.now.site c.args.wanted c.args.operator) c.args.scopes.now c.as_wanted.new.scopes c.args.checker.now c.as_wanted.new.checker c.in_ok-left.left c.in_ok-left.ensures.answer
    c.as_wanted-2.new.scopes c.as_wanted-2.new.checker c.in_err-right.field-0.0 c.from_residual-in_err-right.result c.from_residual-in_err-right.ensures c.in_err-right.ensures.answer

pub returns : goal.returns
returns g c =
    both_given (wanted_operand c.args.layer.now.site (plain c.args.a.now)) (wanted_operand c.args.layer.now.site (plain c.args.b.now)) (made_as c.args.layer.now.site c.args.wanted c.args.operator) c.args.scopes.now c.as_wanted.new.scopes c.args.checker.now c.as_wanted.new.checker c.in_ok-left.left c.in_ok-left.ensures.answer
    c.as_wanted-2.new.scopes c.as_wanted-2.new.checker c.as_wanted-2.new.checker c.in_ok-right.right c.gives.result c.in_ok-right.ensures.answer
    (c.gives.ensures c.as_wanted-2.new.scopes c.in_ok-right.ensures.ready.sound (λ later. p.Binary c.args.operator (typed_in c.in_ok-left.left later) (typed_in c.in_ok-right.right later))
    (λ later. seen_Binary (noted later) c.args.operator c.in_ok-left.left c.in_ok-right.right))
