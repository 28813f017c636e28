use Rattle.abstract_tree.specs.TreeView.{plain}
use Rattle.operator_rules.proofs.Comparisons.{has_order, no_order, none_ordered}
use Rattle.operator_rules.proofs.comparing.ordering.Goals as goal

pub returns-in_err-pair : goal.returns-in_err-pair
returns-in_err-pair g c = none_ordered c.args.layer.now.site c.args.operator (plain c.args.a.now) (plain c.args.b.now) c.args.scopes.now c.operands.new.scopes c.args.checker.now c.operands.new.checker c.in_err-pair.field-0.0 c.from_residual.result c.from_residual.ensures c.in_err-pair.ensures.answer

pub is_ordered-requires-clause-reached : goal.is_ordered-requires-clause-reached
is_ordered-requires-clause-reached g c = c.in_ok-pair.ensures.answer.outcome.holds

pub returns-then-is_ordered : goal.returns-then-is_ordered
returns-then-is_ordered g c =
    has_order c.args.layer.now.site c.args.operator (plain c.args.a.now) (plain c.args.b.now) c.args.scopes.now c.operands.new.scopes c.args.checker.now c.operands.new.checker c.in_ok-pair.pair c.in_ok-pair.ensures.answer c.is_ordered.result c.is_ordered.ensures c.compared.new.checker c.compared.result c.if-is_ordered.true
    (c.compared.ensures c.operands.new.scopes c.in_ok-pair.ensures.ready.sound)

pub returns-else-is_ordered : goal.returns-else-is_ordered
returns-else-is_ordered g c = no_order c.args.layer.now.site c.args.operator (plain c.args.a.now) (plain c.args.b.now) c.args.scopes.now c.operands.new.scopes c.args.checker.now c.operands.new.checker c.in_ok-pair.pair c.in_ok-pair.ensures.answer c.is_ordered.result c.is_ordered.ensures c.if-is_ordered.false
