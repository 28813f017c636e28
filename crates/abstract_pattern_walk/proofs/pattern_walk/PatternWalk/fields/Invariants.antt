use Rattle.std.proofs.Common.{drop}
use Rattle.typing_rules.specs.AbstractPatterns.{in_pattern_field}
use Rattle.abstract_types.specs.PatternView.{plain_field}
use Rattle.abstract_type_walk.proofs.Listing.{Along}
use Rattle.abstract_pattern_walk.proofs.pattern_walk.PatternWalk.fields.Given as goal

abbrev pub invariant-loop-one : goal.invariant-loop-one
invariant-loop-one g l = Along in_pattern_field plain_field l.fn.fields l.initial.next (drop l.one-index l.fn.fields) l.made l.next l.mark
