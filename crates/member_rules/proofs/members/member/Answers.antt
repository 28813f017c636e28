use Rattle.abstract_tree.specs.TreeView.{plain}
use Rattle.member_rules.proofs.ValueMembers.{of_module, of_no_module}
use Rattle.member_rules.proofs.members.member.Goals as goal

pub returns-in-Some : goal.returns-in-Some
returns-in-Some g c =
    of_module c.args.layer.now.site (plain c.args.a.now) c.args.name.now c.args.scopes.now c.args.checker.now c.in-Some.found c.in-Some.ensures c.args.scopes.now c.module_member.new.checker c.module_member.result c.module_member.ensures

pub returns-in-None : goal.returns-in-None
returns-in-None g c =
    of_no_module c.args.layer.now.site (plain c.args.a.now) c.args.name.now c.args.scopes.now c.args.checker.now c.in-None.ensures c.value_member.new.scopes c.value_member.new.checker c.value_member.result c.value_member.ensures
