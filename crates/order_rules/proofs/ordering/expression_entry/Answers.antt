use Rattle.abstract_tree.specs.TreeView.{plain}
use Rattle.order_rules.proofs.Expressions.{evaluated_given, no_value}
use Rattle.order_rules.proofs.ordering.expression_entry.Goals as goal

pub returns-in_err-value-clause-enters : goal.returns-in_err-value-clause-enters
returns-in_err-value-clause-enters g c =
    no_value c.args.layer.now.site (plain c.args.a.now) c.args.at c.args.last c.args.scopes.now c.expression.new.scopes c.expression.new.scopes c.args.checker.now c.expression.new.checker c.in_err-value.field-0.0
    c.from_residual.result c.from_residual.ensures c.in_err-value.ensures.answer

pub returns-clause-enters : goal.returns-clause-enters
returns-clause-enters g c =
    evaluated_given c.args.layer.now.site (plain c.args.a.now) c.args.at c.args.last c.args.scopes.now c.expression.new.scopes c.args.checker.now c.expression.new.checker c.in_ok-value.value c.in_ok-value.ensures.answer
