use Rattle.std.proofs.Common.{false, true}
use Rattle.abstract_tree.specs.TreeView.{plain}
use Rattle.order_rules.proofs.Expressions.{as_last}
use Rattle.order_rules.proofs.ordering.expression.Goals as goal

pub returns-then-last-clause-answer : goal.returns-then-last-clause-answer
returns-then-last-clause-answer g c =
    as_last c.args.layer.now.site (plain c.args.a.now) c.args.last true c.args.scopes.now c.as_wanted.new.scopes c.args.checker.now c.as_wanted.new.checker c.as_wanted.result c.if-last.true c.as_wanted.ensures.answer

pub returns-else-last-clause-answer : goal.returns-else-last-clause-answer
returns-else-last-clause-answer g c =
    as_last c.args.layer.now.site (plain c.args.a.now) c.args.last false c.args.scopes.now c.fits_unit.new.scopes c.args.checker.now c.fits_unit.new.checker c.fits_unit.result c.if-last.false c.fits_unit.ensures.answer
