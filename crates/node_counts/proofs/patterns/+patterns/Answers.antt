use Rattle.std.proofs.Common.{ℕ, List, ap, ◌∙◌, map, refl}
use Rattle.typing_rules.specs.Nodes.{in_pattern_fields, in_patterns}
use Rattle.abstract_types.specs.declared.patterns.Pattern.{Pattern}
use Rattle.abstract_types.specs.declared.patterns.PatternField.{PatternField}
use Rattle.abstract_types.specs.PatternView.{fields, listed, plain, plain_field, plain_form}
use Rattle.abstract_types.proofs.PatternViews as V
use Rattle.node_counts.proofs.Adding.{all_left, counts_then, field_counted, field_less, node_alone, node_one, node_two, none_left, one_less}
use Rattle.node_counts.proofs.Parted.{of_pattern, of_pattern_field}
use Rattle.node_counts.proofs.patterns.+patterns.Goals as goal

pub count_pattern_within-returns-in_ok-first-in-Annotated : goal.count_pattern_within-returns-in_ok-first-in-Annotated
count_pattern_within-returns-in_ok-first-in-Annotated t c = node_two _ _ _ _ _ _ c.count_type.result c.one_more-here.ensures c.in_ok-first-in-Annotated.ensures c.count_type.ensures (of_pattern c.args.q.now _ _ c.get.ensures (ap plain_form c.in-Annotated.is ∙ V.seen_Annotated _ _))

pub count_pattern_within-returns-in_ok-first-in-Alternative : goal.count_pattern_within-returns-in_ok-first-in-Alternative
count_pattern_within-returns-in_ok-first-in-Alternative t c = node_two _ _ _ _ _ _ c.count_pattern_within-in-Alternative-2.result c.one_more-here.ensures c.in_ok-first-in-Alternative.ensures c.count_pattern_within-in-Alternative-2.ensures (of_pattern c.args.q.now _ _ c.get.ensures (ap plain_form c.in-Alternative.is ∙ V.seen_Alternative _ _))

pub count_pattern_within-returns-in-Optional : goal.count_pattern_within-returns-in-Optional
count_pattern_within-returns-in-Optional t c = node_one _ _ _ _ c.count_pattern_within-in-Optional.result c.one_more-here.ensures c.count_pattern_within-in-Optional.ensures (of_pattern c.args.q.now _ _ c.get.ensures (ap plain_form c.in-Optional.is ∙ V.seen_Optional _))

pub count_pattern_within-returns-in-Tag : goal.count_pattern_within-returns-in-Tag
count_pattern_within-returns-in-Tag t c = node_alone _ _ _ c.one_more-here.ensures (of_pattern c.args.q.now _ _ c.get.ensures (ap plain_form c.in-Tag.is ∙ V.seen_Tag _))

pub count_pattern_within-returns-in-Tagged : goal.count_pattern_within-returns-in-Tagged
count_pattern_within-returns-in-Tagged t c = node_one _ _ _ _ c.count_pattern_within-in-Tagged.result c.one_more-here.ensures c.count_pattern_within-in-Tagged.ensures (of_pattern c.args.q.now _ _ c.get.ensures (ap plain_form c.in-Tagged.is ∙ V.seen_Tagged _ _))

pub count_pattern_within-returns-in-Variable : goal.count_pattern_within-returns-in-Variable
count_pattern_within-returns-in-Variable t c = node_alone _ _ _ c.one_more-here.ensures (of_pattern c.args.q.now _ _ c.get.ensures (ap plain_form c.in-Variable.is ∙ V.seen_Variable _))

pub count_pattern_within-returns-in-Wildcard : goal.count_pattern_within-returns-in-Wildcard
count_pattern_within-returns-in-Wildcard t c = node_alone _ _ _ c.one_more-here.ensures (of_pattern c.args.q.now _ _ c.get.ensures (ap plain_form c.in-Wildcard.is ∙ V.seen_Wildcard))

pub count_pattern_within-returns-in-Constant : goal.count_pattern_within-returns-in-Constant
count_pattern_within-returns-in-Constant t c = node_alone _ _ _ c.one_more-here.ensures (of_pattern c.args.q.now _ _ c.get.ensures (ap plain_form c.in-Constant.is ∙ V.seen_Constant _ _))

pub count_pattern_within-returns-in-Tuple : goal.count_pattern_within-returns-in-Tuple
count_pattern_within-returns-in-Tuple t c = node_one _ _ _ _ c.count_patterns_within.result c.one_more-here.ensures (rw (c.as_slice.ensures, V.listed_is) at c.count_patterns_within.ensures) (of_pattern c.args.q.now _ _ c.get.ensures (ap plain_form c.in-Tuple.is ∙ V.seen_Tuple _))

pub count_pattern_within-returns-in-Object : goal.count_pattern_within-returns-in-Object
count_pattern_within-returns-in-Object t c = node_one _ _ _ _ c.count_fields_within.result c.one_more-here.ensures (rw (c.as_slice-in-Object.ensures, V.fields_are) at c.count_fields_within.ensures) (of_pattern c.args.q.now _ _ c.get.ensures (ap plain_form c.in-Object.is ∙ V.seen_Object _))

pub count_patterns_within-loop-q-init : goal.count_patterns_within-loop-q-init
count_patterns_within-loop-q-init t c = all_left (λ (qs : List (Pattern ℕ)). in_patterns (listed (map plain qs))) c.args.patterns.now c.args.counted

pub count_patterns_within-loop-q-preserved : goal.count_patterns_within-loop-q-preserved
count_patterns_within-loop-q-preserved t c = one_less (λ (qs : List (Pattern ℕ)). in_patterns (listed (map plain qs))) c.args.patterns.now c.args.counted _ _ _ _ _ c.loop-q-test.true c.q-item.is c.in_ok-sum.ensures refl c.loop-q.invariant

pub count_patterns_within-returns : goal.count_patterns_within-returns
count_patterns_within-returns t c = none_left (λ (qs : List (Pattern ℕ)). in_patterns (listed (map plain qs))) c.args.patterns.now c.args.counted _ _ c.loop-q-test.false refl c.loop-q.invariant

pub count_fields_within-loop-field-init : goal.count_fields_within-loop-field-init
count_fields_within-loop-field-init t c = all_left (λ (fs : List (PatternField ℕ)). in_pattern_fields (fields (map plain_field fs))) c.args.list.now c.args.counted

pub count_fields_within-loop-field-preserved : goal.count_fields_within-loop-field-preserved
count_fields_within-loop-field-preserved t c = field_less (λ (fs : List (PatternField ℕ)). in_pattern_fields (fields (map plain_field fs))) in_pattern_fields (λ fs. fields (map plain_field fs)) plain_field (λ fs. refl) (λ f fs. refl) c.args.list.now c.args.counted _ _ _ _ c.loop-field-test.true c.field-item.is
    (field_counted in_pattern_fields _ _ _ _ (counts_then 1 _ _ _ _ c.one_more.ensures c.in_ok-sum.ensures) (of_pattern_field _)) c.loop-field.invariant

pub count_fields_within-returns : goal.count_fields_within-returns
count_fields_within-returns t c = none_left (λ (fs : List (PatternField ℕ)). in_pattern_fields (fields (map plain_field fs))) c.args.list.now c.args.counted _ _ c.loop-field-test.false refl c.loop-field.invariant
