use Rattle.std.proofs.Common.{drop}
use Rattle.typing_rules.specs.AbstractExpressions.{in_case}
use Rattle.abstract_tree.specs.TreeView.{plain_case}
use Rattle.abstract_type_walk.proofs.Listing.{Along}
use Rattle.abstract_parts.proofs.tree_walk.TreeWalk.cases.Given as goal

abbrev pub invariant-loop-one : goal.invariant-loop-one
invariant-loop-one g l = Along in_case plain_case l.fn.cases l.initial.next (drop l.one-index l.fn.cases) l.made l.next l.mark
