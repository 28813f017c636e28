use Rattle.std.proofs.Common.{◌≡◌, ◌<◌, ◌+◌, ◌*◌, ℕ, Some}
use Rattle.std.specs.Prelude.{slice_get}
use Rattle.mo_types.specs.declared.node.Field.{Field}
use Rattle.mo_types.specs.declared.node.TypeId.{TypeId}
use Rattle.pattern_coverage.specs.Cover as cover
use Rattle.pattern_coverage.specs.Followed.{value_head}
use Rattle.tag_coverage.specs.Within.{IsToldOf}
use Rattle.tag_coverage.specs.Payloads.{listed}
use Rattle.tag_coverage.proofs.covering.+parts.Given as goal

abbrev pub decreases-covers_within : goal.decreases-covers_within
decreases-covers_within l = 4 * l.levels + 1

abbrev pub decreases-told_by_tag : goal.decreases-told_by_tag
decreases-told_by_tag l = 4 * l.levels + 2

abbrev pub decreases-by_tags : goal.decreases-by_tags
decreases-by_tags l = 4 * l.levels + 3

abbrev pub decreases-by_option : goal.decreases-by_option
decreases-by_option l = 4 * l.levels + 2

abbrev pub decreases-by_parts : goal.decreases-by_parts
decreases-by_parts l = 4 * l.levels

abbrev pub invariant-told_by_tag-loop-place : goal.invariant-told_by_tag-loop-place
invariant-told_by_tag-loop-place l = (n : ℕ) (f : Field TypeId) → n < l.place → slice_get l.tags n ≡ Some f → IsToldOf (value_head l.types) f (listed l.lists n) cover.Whole
