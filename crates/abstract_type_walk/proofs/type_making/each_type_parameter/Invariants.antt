use Rattle.std.proofs.Common.{drop}
use Rattle.typing_rules.specs.AbstractTypes.{written_parameter}
use Rattle.abstract_types.specs.TypeView.{parameter}
use Rattle.abstract_type_walk.proofs.Listing.{Along}
use Rattle.abstract_type_walk.proofs.type_making.each_type_parameter.Given as goal

abbrev pub invariant-loop-one : goal.invariant-loop-one
invariant-loop-one l = Along written_parameter parameter l.fn.parameters l.initial.next (drop l.one-index l.fn.parameters) l.made l.next l.mark
