use Rattle.abstract_tree.specs.TreeView.{plain}
use Rattle.order_rules.proofs.Declared.{has_own, no_own}
use Rattle.order_rules.proofs.values.own_value.Goals as goal

pub returns-in_err-value-clause-answer : goal.returns-in_err-value-clause-answer
returns-in_err-value-clause-answer g c =
    no_own c.args.layer.now.site c.args.place (plain c.args.a.now) c.args.scopes.now c.part_at.new.scopes c.args.checker.now c.part_at.new.checker c.in_err-value.field-0.0 c.from_residual.result c.from_residual.ensures
    c.in_err-value.ensures.answer

pub returns-clause-answer : goal.returns-clause-answer
returns-clause-answer g c =
    has_own c.args.layer.now.site c.args.place (plain c.args.a.now) c.args.scopes.now c.part_at.new.scopes c.args.checker.now c.part_at.new.checker c.in_ok-value.value c.in_ok-value.ensures.answer
