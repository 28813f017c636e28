use Rattle.abstract_tree.specs.TreeView.{plain}
use Rattle.operand_rules.specs.Families.{family_in}
use Rattle.operator_rules.proofs.Numbers.{none_wanted, number_wanted}
use Rattle.operator_rules.proofs.summing.arithmetic.Goals as goal

pub returns-in-Some : goal.returns-in-Some
returns-in-Some g c =
    number_wanted c.args.layer.now.site (family_in c.args.family) c.args.operator (plain c.args.a.now) (plain c.args.b.now) c.args.scopes.now c.as_wanted.new.scopes c.args.checker.now c.as_wanted.new.checker c.as_wanted.result c.wanted_with.result c.wanted_with.ensures.is c.in-Some.wanted _ c.in-Some.is c.as_wanted.ensures

pub returns-in-None : goal.returns-in-None
returns-in-None g c =
    none_wanted c.args.layer.now.site (family_in c.args.family) c.args.operator (plain c.args.a.now) (plain c.args.b.now) c.args.scopes.now c.by_operands.new.scopes c.args.checker.now c.by_operands.new.checker c.by_operands.result c.wanted_with.result c.wanted_with.ensures.is c.in-None.is c.by_operands.ensures
