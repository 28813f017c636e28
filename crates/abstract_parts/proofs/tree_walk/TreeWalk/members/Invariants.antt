use Rattle.std.proofs.Common.{drop}
use Rattle.typing_rules.specs.AbstractExpressions.{in_member}
use Rattle.abstract_tree.specs.TreeView.{plain_declaration}
use Rattle.abstract_parts.specs.TreeWalks.{in_object}
use Rattle.abstract_type_walk.proofs.Listing.{Along}
use Rattle.abstract_parts.proofs.tree_walk.TreeWalk.members.Given as goal

abbrev pub invariant-loop-one : goal.invariant-loop-one
invariant-loop-one g l = Along (λ d. in_object (in_member d)) plain_declaration l.fn.fields l.initial.next (drop l.one-index l.fn.fields) l.made l.next l.mark
