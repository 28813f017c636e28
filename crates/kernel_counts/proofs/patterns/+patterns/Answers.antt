use Rattle.std.proofs.Common.{List, ap, ◌∙◌, map, refl}
use Rattle.typing_rules.specs.Nodes.{in_pattern_fields, in_patterns}
use Rattle.abstract_types.specs.declared.patterns.Pattern.{Pattern}
use Rattle.abstract_types.specs.declared.patterns.PatternField.{PatternField}
use Rattle.abstract_types.specs.PatternView.{fields, listed, pattern, pattern_field, pattern_form}
use Rattle.value_scopes.specs.declared.note.Note.{Note}
use Rattle.judged_parts.specs.Parts.{See}
use Rattle.judged_parts.proofs.PatternViews as Q
use Rattle.kernel_counts.proofs.Adding.{all_left, counts_then, field_counted, field_less, node_alone, node_one, node_two, none_left, one_less}
use Rattle.kernel_counts.proofs.Parted.{of_pattern, of_pattern_field}
use Rattle.kernel_counts.proofs.patterns.+patterns.Goals as goal

pub count_pattern_within-returns-in_ok-first-in-Annotated : goal.count_pattern_within-returns-in_ok-first-in-Annotated
count_pattern_within-returns-in_ok-first-in-Annotated t c = λ (see : See). node_two _ _ _ _ _ _ c.count_type.result c.in_ok-here.ensures (c.in_ok-first-in-Annotated.ensures see) c.count_type.ensures (of_pattern see c.args.q.now _ _ c.get.ensures (ap (pattern_form see) c.in-Annotated.is ∙ Q.seen_Annotated see _ _))

pub count_pattern_within-returns-in_ok-first-in-Alternative : goal.count_pattern_within-returns-in_ok-first-in-Alternative
count_pattern_within-returns-in_ok-first-in-Alternative t c = λ (see : See). node_two _ _ _ _ _ _ c.count_pattern_within-in-Alternative-2.result c.in_ok-here.ensures (c.in_ok-first-in-Alternative.ensures see) (c.count_pattern_within-in-Alternative-2.ensures see) (of_pattern see c.args.q.now _ _ c.get.ensures (ap (pattern_form see) c.in-Alternative.is ∙ Q.seen_Alternative see _ _))

pub count_pattern_within-returns-in-Optional : goal.count_pattern_within-returns-in-Optional
count_pattern_within-returns-in-Optional t c = λ (see : See). node_one _ _ _ _ c.count_pattern_within-in-Optional.result c.in_ok-here.ensures (c.count_pattern_within-in-Optional.ensures see) (of_pattern see c.args.q.now _ _ c.get.ensures (ap (pattern_form see) c.in-Optional.is ∙ Q.seen_Optional see _))

pub count_pattern_within-returns-in-Tag : goal.count_pattern_within-returns-in-Tag
count_pattern_within-returns-in-Tag t c = λ (see : See). node_alone _ _ _ c.in_ok-here.ensures (of_pattern see c.args.q.now _ _ c.get.ensures (ap (pattern_form see) c.in-Tag.is ∙ Q.seen_Tag see _))

pub count_pattern_within-returns-in-Tagged : goal.count_pattern_within-returns-in-Tagged
count_pattern_within-returns-in-Tagged t c = λ (see : See). node_one _ _ _ _ c.count_pattern_within-in-Tagged.result c.in_ok-here.ensures (c.count_pattern_within-in-Tagged.ensures see) (of_pattern see c.args.q.now _ _ c.get.ensures (ap (pattern_form see) c.in-Tagged.is ∙ Q.seen_Tagged see _ _))

pub count_pattern_within-returns-in-Variable : goal.count_pattern_within-returns-in-Variable
count_pattern_within-returns-in-Variable t c = λ (see : See). node_alone _ _ _ c.in_ok-here.ensures (of_pattern see c.args.q.now _ _ c.get.ensures (ap (pattern_form see) c.in-Variable.is ∙ Q.seen_Variable see _))

pub count_pattern_within-returns-in-Wildcard : goal.count_pattern_within-returns-in-Wildcard
count_pattern_within-returns-in-Wildcard t c = λ (see : See). node_alone _ _ _ c.in_ok-here.ensures (of_pattern see c.args.q.now _ _ c.get.ensures (ap (pattern_form see) c.in-Wildcard.is ∙ Q.seen_Wildcard see))

pub count_pattern_within-returns-in-Constant : goal.count_pattern_within-returns-in-Constant
count_pattern_within-returns-in-Constant t c = λ (see : See). node_alone _ _ _ c.in_ok-here.ensures (of_pattern see c.args.q.now _ _ c.get.ensures (ap (pattern_form see) c.in-Constant.is ∙ Q.seen_Constant see _ _))

pub count_pattern_within-returns-in-Tuple : goal.count_pattern_within-returns-in-Tuple
count_pattern_within-returns-in-Tuple t c = λ (see : See). node_one _ _ _ _ c.count_patterns_within.result c.in_ok-here.ensures (rw c.as_slice.ensures at (c.count_patterns_within.ensures see)) (of_pattern see c.args.q.now _ _ c.get.ensures (ap (pattern_form see) c.in-Tuple.is ∙ Q.seen_Tuple see _))

pub count_pattern_within-returns-in-Object : goal.count_pattern_within-returns-in-Object
count_pattern_within-returns-in-Object t c = λ (see : See). node_one _ _ _ _ c.count_fields_within.result c.in_ok-here.ensures (rw c.as_slice-in-Object.ensures at (c.count_fields_within.ensures see)) (of_pattern see c.args.q.now _ _ c.get.ensures (ap (pattern_form see) c.in-Object.is ∙ Q.seen_Object see _))

pub count_patterns_within-loop-q-init : goal.count_patterns_within-loop-q-init
count_patterns_within-loop-q-init t c = λ (see : See). all_left (λ (qs : List (Pattern Note)). in_patterns (listed (map (pattern see) qs))) c.args.patterns.now c.args.counted

pub count_patterns_within-loop-q-preserved : goal.count_patterns_within-loop-q-preserved
count_patterns_within-loop-q-preserved t c = λ (see : See). one_less (λ (qs : List (Pattern Note)). in_patterns (listed (map (pattern see) qs))) c.args.patterns.now c.args.counted _ _ _ _ _ c.loop-q-test.true c.q-item.is (c.in_ok-sum.ensures see) refl (c.loop-q.invariant see)

pub count_patterns_within-returns : goal.count_patterns_within-returns
count_patterns_within-returns t c = λ (see : See). none_left (λ (qs : List (Pattern Note)). in_patterns (listed (map (pattern see) qs))) c.args.patterns.now c.args.counted _ _ c.loop-q-test.false refl (c.loop-q.invariant see)

pub count_fields_within-loop-field-init : goal.count_fields_within-loop-field-init
count_fields_within-loop-field-init t c = λ (see : See). all_left (λ (fs : List (PatternField Note)). in_pattern_fields (fields (map (pattern_field see) fs))) c.args.list.now c.args.counted

pub count_fields_within-loop-field-preserved : goal.count_fields_within-loop-field-preserved
count_fields_within-loop-field-preserved t c = λ (see : See). field_less (λ (fs : List (PatternField Note)). in_pattern_fields (fields (map (pattern_field see) fs))) in_pattern_fields (λ fs. fields (map (pattern_field see) fs)) (pattern_field see) (λ fs. refl) (λ f fs. refl) c.args.list.now c.args.counted _ _ _ _ c.loop-field-test.true c.field-item.is
    (field_counted in_pattern_fields _ _ _ _ (counts_then 1 _ _ _ _ c.in_ok-here.ensures (c.in_ok-sum.ensures see)) (of_pattern_field see _)) (c.loop-field.invariant see)

pub count_fields_within-returns : goal.count_fields_within-returns
count_fields_within-returns t c = λ (see : See). none_left (λ (fs : List (PatternField Note)). in_pattern_fields (fields (map (pattern_field see) fs))) c.args.list.now c.args.counted _ _ c.loop-field-test.false refl (c.loop-field.invariant see)
