use Rattle.std.proofs.Common.{drop}
use Rattle.typing_rules.specs.Spans.{name_at, one}
use Rattle.abstract_types.specs.TypeView.{named}
use Rattle.abstract_type_walk.proofs.Listing.{Along}
use Rattle.abstract_parts.proofs.names.each_name.Given as goal

abbrev pub invariant-loop-one : goal.invariant-loop-one
invariant-loop-one l = Along (λ y. one (name_at y)) named l.fn.names l.initial.next (drop l.one-index l.fn.names) l.made l.next l.mark
