use Rattle.abstract_tree.specs.TreeView.{plain}
use Rattle.operator_rules.proofs.Opposites.{none_wanted, signed_wanted}
use Rattle.operator_rules.proofs.negating.negated.Goals as goal

pub returns-in-Some : goal.returns-in-Some
returns-in-Some g c = signed_wanted c.args.layer.now.site (plain c.args.a.now) c.args.scopes.now c.as_wanted.new.scopes c.args.checker.now c.as_wanted.new.checker c.as_wanted.result c.wanted_signed.result c.wanted_signed.ensures.is c.in-Some.wanted _ c.in-Some.is c.as_wanted.ensures

pub returns-in-None : goal.returns-in-None
returns-in-None g c = none_wanted c.args.layer.now.site (plain c.args.a.now) c.args.scopes.now c.by_operand.new.scopes c.args.checker.now c.by_operand.new.checker c.by_operand.result c.wanted_signed.result c.wanted_signed.ensures.is c.in-None.is c.by_operand.ensures
