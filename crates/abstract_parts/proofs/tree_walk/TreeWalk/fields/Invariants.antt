use Rattle.std.proofs.Common.{drop}
use Rattle.typing_rules.specs.AbstractExpressions.{in_object_field}
use Rattle.abstract_tree.specs.TreeView.{plain_field}
use Rattle.abstract_type_walk.proofs.Listing.{Along}
use Rattle.abstract_parts.proofs.tree_walk.TreeWalk.fields.Given as goal

abbrev pub invariant-loop-one : goal.invariant-loop-one
invariant-loop-one g l = Along in_object_field plain_field l.fn.fields l.initial.next (drop l.one-index l.fn.fields) l.made l.next l.mark
