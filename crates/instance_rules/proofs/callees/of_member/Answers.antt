use Rattle.std.proofs.Common.{◌∙◌, sym}
use Rattle.abstract_tree.specs.TreeView.{plain}
use Rattle.instance_rules.proofs.CalleeParts.{member_found}
use Rattle.instance_rules.proofs.callees.of_member.Goals as goal

pub returns-else-is_empty : goal.returns-else-is_empty
returns-else-is_empty c =
    member_found c.args.types.now c.args.scopes.now (plain c.args.of.now) c.args.name.now c.in-Some.member c.in-Some.ensures c.member_bound.new.types c.in_ok-bound-in-Some.bound c.in_ok-bound-in-Some.ensures.bound
    (sym c.is_empty.ensures ∙ c.if-is_empty.false)
