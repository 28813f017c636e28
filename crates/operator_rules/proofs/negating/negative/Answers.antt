use Rattle.abstract_tree.specs.TreeView.{plain}
use Rattle.operator_rules.proofs.Opposites.{expression_negated, number_negated}
use Rattle.operator_rules.proofs.negating.negative.Goals as goal

pub returns-in-Some : goal.returns-in-Some
returns-in-Some g c =
    number_negated c.args.layer.now.site c.in-Some.number c.args.scopes.now c.args.checker.now c.args.a.now c.plain_number.result c.args.scopes.now c.negative_number.new.checker c.negative_number.result c.plain_number.ensures c.in-Some.is (c.negative_number.ensures c.args.scopes.now c.requires.ready.sound)

pub returns-in-None : goal.returns-in-None
returns-in-None g c = expression_negated c.args.layer.now.site (plain c.args.a.now) c.plain_number.result c.args.scopes.now c.negated.new.scopes c.args.checker.now c.negated.new.checker c.negated.result c.plain_number.ensures c.in-None.is c.negated.ensures
