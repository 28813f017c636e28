use Rattle.std.proofs.Common.{drop}
use Rattle.typing_rules.specs.AbstractTypes.{in_type_tag}
use Rattle.abstract_types.specs.TypeView.{type_field}
use Rattle.abstract_type_walk.proofs.Listing.{Along}
use Rattle.abstract_type_walk.proofs.type_walk.TypeWalk.tags.Given as goal

abbrev pub invariant-loop-one : goal.invariant-loop-one
invariant-loop-one g l = Along in_type_tag type_field l.fn.tags l.initial.next (drop l.one-index l.fn.tags) l.made l.next l.mark
