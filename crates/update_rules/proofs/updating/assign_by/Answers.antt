use Rattle.typing_rules.specs.AbstractSyntax as p
use Rattle.abstract_tree.specs.TreeView.{plain}
use Rattle.value_scopes.specs.Values.{noted}
use Rattle.judging.specs.Views.{typed_in}
use Rattle.judging.proofs.Forms.{seen_AssignBy}
use Rattle.update_rules.proofs.ByOperator.{is_assigned, no_place, no_side}
use Rattle.update_rules.proofs.updating.assign_by.Goals as goal

pub operand-requires-clause-kind : goal.operand-requires-clause-kind
operand-requires-clause-kind g c = c.in_ok-to.ensures.answer.outcome.holds

pub returns-in_err-to : goal.returns-in_err-to
returns-in_err-to g c =
    no_place c.args.layer.now.site c.args.operator (plain c.args.of.now) (plain c.args.a.now) c.args.scopes.now c.judge_place.new.scopes c.args.checker.now c.judge_place.new.checker c.in_err-to.field-0.0 c.from_residual.result
    c.from_residual.ensures c.in_err-to.ensures.answer

pub returns-in_err-by : goal.returns-in_err-by
returns-in_err-by g c =
    no_side c.args.layer.now.site c.args.operator (plain c.args.of.now) (plain c.args.a.now) c.args.scopes.now c.judge_place.new.scopes c.args.checker.now c.judge_place.new.checker c.in_ok-to.to c.in_ok-to.ensures.answer
    c.operand.new.scopes c.operand.new.checker c.in_err-by.field-0.0 c.from_residual-in_err-by.result c.from_residual-in_err-by.ensures c.in_err-by.ensures.answer

pub returns : goal.returns
returns g c =
    is_assigned c.args.layer.now.site c.args.operator (plain c.args.of.now) (plain c.args.a.now) c.args.scopes.now c.judge_place.new.scopes c.args.checker.now c.judge_place.new.checker c.in_ok-to.to c.in_ok-to.ensures.answer
    c.operand.new.scopes c.operand.new.scopes c.operand.new.checker c.has_unit.new.checker c.in_ok-by.by c.has_unit.result c.in_ok-by.ensures.answer
    (c.has_unit.ensures c.operand.new.scopes c.in_ok-by.ensures.ready.sound (λ later. p.AssignBy c.args.operator (typed_in c.in_ok-to.to later) (typed_in c.in_ok-by.by later))
    (λ later. seen_AssignBy (noted later) c.args.operator c.in_ok-to.to c.in_ok-by.by))
