use Rattle.std.proofs.Common.{List, ap, ◌∙◌, map, refl}
use Rattle.abstract_types.specs.declared.patterns.Pattern.{Pattern}
use Rattle.abstract_types.specs.declared.patterns.PatternField.{PatternField}
use Rattle.abstract_types.specs.PatternView.{fields, listed, pattern, pattern_field, pattern_form}
use Rattle.value_scopes.specs.declared.note.Note.{Note}
use Rattle.desugaring.specs.FreeNames.{names_in_each, names_in_fields}
use Rattle.judged_parts.specs.Parts.{See}
use Rattle.judged_parts.proofs.PatternViews as Q
use Rattle.kernel_names.proofs.Collecting.{all_left, none_left, none_more, one_less, same_more}
use Rattle.kernel_names.proofs.Forms.{of_pattern, of_pattern_field}
use Rattle.kernel_names.proofs.patterns.+patterns.Goals as goal

pub pattern_within-returns-in-Annotated : goal.pattern_within-returns-in-Annotated
pattern_within-returns-in-Annotated t c = λ (see : See). same_more c.pattern_within.result _ _ _ _ (c.pattern_within.ensures see) (of_pattern see c.args.q.now _ _ c.get.ensures (ap (pattern_form see) c.in-Annotated.is ∙ Q.seen_Annotated see _ _))

pub pattern_within-returns-in-Optional : goal.pattern_within-returns-in-Optional
pattern_within-returns-in-Optional t c = λ (see : See). same_more c.pattern_within-in-Optional.result _ _ _ _ (c.pattern_within-in-Optional.ensures see) (of_pattern see c.args.q.now _ _ c.get.ensures (ap (pattern_form see) c.in-Optional.is ∙ Q.seen_Optional see _))

pub pattern_within-returns-in-Tagged : goal.pattern_within-returns-in-Tagged
pattern_within-returns-in-Tagged t c = λ (see : See). same_more c.pattern_within-in-Tagged.result _ _ _ _ (c.pattern_within-in-Tagged.ensures see) (of_pattern see c.args.q.now _ _ c.get.ensures (ap (pattern_form see) c.in-Tagged.is ∙ Q.seen_Tagged see _ _))

pub pattern_within-returns-in-Alternative : goal.pattern_within-returns-in-Alternative
pattern_within-returns-in-Alternative t c = λ (see : See). none_more _ _ (of_pattern see c.args.q.now _ _ c.get.ensures (ap (pattern_form see) c.in-Alternative.is ∙ Q.seen_Alternative see _ _))

pub pattern_within-returns-in-Tag : goal.pattern_within-returns-in-Tag
pattern_within-returns-in-Tag t c = λ (see : See). none_more _ _ (of_pattern see c.args.q.now _ _ c.get.ensures (ap (pattern_form see) c.in-Tag.is ∙ Q.seen_Tag see _))

pub pattern_within-returns-in-Wildcard : goal.pattern_within-returns-in-Wildcard
pattern_within-returns-in-Wildcard t c = λ (see : See). none_more _ _ (of_pattern see c.args.q.now _ _ c.get.ensures (ap (pattern_form see) c.in-Wildcard.is ∙ Q.seen_Wildcard see))

pub pattern_within-returns-in-Constant : goal.pattern_within-returns-in-Constant
pattern_within-returns-in-Constant t c = λ (see : See). none_more _ _ (of_pattern see c.args.q.now _ _ c.get.ensures (ap (pattern_form see) c.in-Constant.is ∙ Q.seen_Constant see _ _))

pub pattern_within-returns-in-Variable : goal.pattern_within-returns-in-Variable
pattern_within-returns-in-Variable t c = λ (see : See). same_more c.push_copy.result _ _ _ _ (rw c.as_slice.ensures at c.push_copy.ensures) (of_pattern see c.args.q.now _ _ c.get.ensures (ap (pattern_form see) c.in-Variable.is ∙ Q.seen_Variable see _))

pub pattern_within-returns-in-Tuple : goal.pattern_within-returns-in-Tuple
pattern_within-returns-in-Tuple t c = λ (see : See). same_more c.each_within.result _ _ _ _ (rw c.as_slice-in-Tuple.ensures at (c.each_within.ensures see)) (of_pattern see c.args.q.now _ _ c.get.ensures (ap (pattern_form see) c.in-Tuple.is ∙ Q.seen_Tuple see _))

pub pattern_within-returns-in-Object : goal.pattern_within-returns-in-Object
pattern_within-returns-in-Object t c = λ (see : See). same_more c.fields_within.result _ _ _ _ (rw c.as_slice-in-Object.ensures at (c.fields_within.ensures see)) (of_pattern see c.args.q.now _ _ c.get.ensures (ap (pattern_form see) c.in-Object.is ∙ Q.seen_Object see _))

pub each_within-loop-item-init : goal.each_within-loop-item-init
each_within-loop-item-init t c = λ (see : See). all_left (λ (qs : List (Pattern Note)). names_in_each (listed (map (pattern see) qs))) c.args.items.now c.args.names.now

pub each_within-loop-item-preserved : goal.each_within-loop-item-preserved
each_within-loop-item-preserved t c = λ (see : See). one_less (λ (qs : List (Pattern Note)). names_in_each (listed (map (pattern see) qs))) c.args.items.now c.args.names.now _ _ _ _ _ c.loop-item-test.true c.item-item.is (c.in_ok-pattern_within.ensures see) refl (c.loop-item.invariant see)

pub each_within-returns : goal.each_within-returns
each_within-returns t c = λ (see : See). none_left (λ (qs : List (Pattern Note)). names_in_each (listed (map (pattern see) qs))) c.args.items.now c.args.names.now _ _ c.loop-item-test.false refl (c.loop-item.invariant see)

pub fields_within-loop-field-init : goal.fields_within-loop-field-init
fields_within-loop-field-init t c = λ (see : See). all_left (λ (fs : List (PatternField Note)). names_in_fields (fields (map (pattern_field see) fs))) c.args.list.now c.args.names.now

pub fields_within-loop-field-preserved : goal.fields_within-loop-field-preserved
fields_within-loop-field-preserved t c = λ (see : See). one_less (λ (fs : List (PatternField Note)). names_in_fields (fields (map (pattern_field see) fs))) c.args.list.now c.args.names.now _ _ _ _ _ c.loop-field-test.true c.field-item.is (c.in_ok-pattern_within.ensures see) (of_pattern_field see _ _) (c.loop-field.invariant see)

pub fields_within-returns : goal.fields_within-returns
fields_within-returns t c = λ (see : See). none_left (λ (fs : List (PatternField Note)). names_in_fields (fields (map (pattern_field see) fs))) c.args.list.now c.args.names.now _ _ c.loop-field-test.false refl (c.loop-field.invariant see)
