use Rattle.std.proofs.Common.{drop}
use Rattle.typing_rules.specs.AbstractExpressions.{in_expression}
use Rattle.abstract_tree.specs.TreeView.{plain}
use Rattle.abstract_type_walk.proofs.Listing.{Along}
use Rattle.abstract_parts.proofs.tree_walk.TreeWalk.each.Given as goal

abbrev pub invariant-loop-one : goal.invariant-loop-one
invariant-loop-one g l = Along in_expression plain l.fn.items l.initial.next (drop l.one-index l.fn.items) l.made l.next l.mark
