use Rattle.std.proofs.Common.{drop}
use Rattle.typing_rules.specs.AbstractTypes.{in_type}
use Rattle.abstract_types.specs.TypeView.{type_node}
use Rattle.abstract_type_walk.proofs.Listing.{Along}
use Rattle.abstract_type_walk.proofs.type_walk.TypeWalk.each.Given as goal

abbrev pub invariant-loop-one : goal.invariant-loop-one
invariant-loop-one g l = Along in_type type_node l.fn.types l.initial.next (drop l.one-index l.fn.types) l.made l.next l.mark
