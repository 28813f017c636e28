use Rattle.std.proofs.lemmas.List.{drop_all}
use Rattle.std.proofs.Common.{◌+◌, ◌∙◌, Ok, Err, ap, drop, refl, sym}
use Rattle.typing_rules.specs.declared.condition.Condition.TheVariants as condition
use Rattle.typing_rules.specs.AbstractSyntax as p
use Rattle.typing_rules.specs.Judgements.{Fine}
use Rattle.typing_rules.specs.PublicFields.{EachAnnotated}
use Rattle.abstract_types.specs.PatternView.{plain}
use Rattle.abstract_types.specs.TypeView.{type_node}
use Rattle.type_judgements.specs.declared.refusal.Refusal.TheVariants as refusal
use Rattle.typed_patterns.proofs.Views.{seen_Annotated, seen_Alternative, seen_Optional, seen_Tag, seen_Tagged, seen_Variable, seen_Wildcard, seen_Constant, seen_Tuple, seen_Object}
use Rattle.annotated_names.proofs.Annotated.{all_of, arm, drop_more, field_stops, fields_of, name_there, next_field_fine, next_fine, no_name_there, object_arm, stops_there, tuple_arm, verdict_as}
use Rattle.annotated_names.proofs.walk.+within.Goals as goal

pub annotated_within-returns-in-Annotated : goal.annotated_within-returns-in-Annotated
annotated_within-returns-in-Annotated t c = arm c.args.pattern.now _ _ c.part_within.result (sym c.get.ensures ∙ c.in-Annotated.is) (seen_Annotated (λ n. n) c.in-Annotated.part c.in-Annotated.written) c.part_within.ensures

pub annotated_within-returns-in-Optional : goal.annotated_within-returns-in-Optional
annotated_within-returns-in-Optional t c = arm c.args.pattern.now _ _ c.annotated_within.result (sym c.get.ensures ∙ c.in-Optional.is) (seen_Optional (λ n. n) c.in-Optional.part) c.annotated_within.ensures

pub annotated_within-returns-in-Tagged : goal.annotated_within-returns-in-Tagged
annotated_within-returns-in-Tagged t c = arm c.args.pattern.now _ _ c.annotated_within-in-Tagged.result (sym c.get.ensures ∙ c.in-Tagged.is) (seen_Tagged (λ n. n) c.in-Tagged.field-0 c.in-Tagged.part) c.annotated_within-in-Tagged.ensures

pub annotated_within-returns-in-Alternative : goal.annotated_within-returns-in-Alternative
annotated_within-returns-in-Alternative t c = arm c.args.pattern.now _ _ (Ok tt) (sym c.get.ensures ∙ c.in-Alternative.is) (seen_Alternative (λ n. n) c.in-Alternative.field-0 c.in-Alternative.field-1) refl

pub annotated_within-returns-in-Tag : goal.annotated_within-returns-in-Tag
annotated_within-returns-in-Tag t c = arm c.args.pattern.now _ _ (Ok tt) (sym c.get.ensures ∙ c.in-Tag.is) (seen_Tag (λ n. n) c.in-Tag.field-0) refl

pub annotated_within-returns-in-Wildcard : goal.annotated_within-returns-in-Wildcard
annotated_within-returns-in-Wildcard t c = arm c.args.pattern.now _ _ (Ok tt) (sym c.get.ensures ∙ c.in-Wildcard.is) (seen_Wildcard (λ n. n)) refl

pub annotated_within-returns-in-Constant : goal.annotated_within-returns-in-Constant
annotated_within-returns-in-Constant t c = arm c.args.pattern.now _ _ (Ok tt) (sym c.get.ensures ∙ c.in-Constant.is) (seen_Constant (λ n. n) c.in-Constant.field-0 c.in-Constant.field-1) refl

pub annotated_within-returns-in-Variable : goal.annotated_within-returns-in-Variable
annotated_within-returns-in-Variable t c =
    arm c.args.pattern.now _ _ (Err (refusal.False c.args.pattern.now.note condition.NeedsType)) (sym c.get.ensures ∙ c.in-Variable.is) (seen_Variable (λ n. n) c.in-Variable.field-0) refl

pub annotated_within-returns-in-Tuple : goal.annotated_within-returns-in-Tuple
annotated_within-returns-in-Tuple t c =
    tuple_arm c.args.pattern.now c.in-Tuple.items c.as_slice.result.now c.each_within.result (sym c.get.ensures ∙ c.in-Tuple.is) c.as_slice.ensures c.each_within.ensures

pub annotated_within-returns-in-Object : goal.annotated_within-returns-in-Object
annotated_within-returns-in-Object t c =
    object_arm c.args.pattern.now c.in-Object.fields c.as_slice-in-Object.result.now c.fields_within.result (sym c.get.ensures ∙ c.in-Object.is) c.as_slice-in-Object.ensures c.fields_within.ensures

-- ---- `p : A`

pub part_within-returns-then-is_variable : goal.part_within-returns-then-is_variable
part_within-returns-then-is_variable t c =
    verdict_as Fine (EachAnnotated (p.pattern c.args.at (p.Annotated (plain c.args.part.now) (type_node c.args.written.now)))) (Ok tt) (name_there c.args.at (plain c.args.part.now) (type_node c.args.written.now) (sym c.is_variable.ensures ∙ c.if-is_variable.true)) refl

pub part_within-returns-else-is_variable : goal.part_within-returns-else-is_variable
part_within-returns-else-is_variable t c =
    verdict_as (EachAnnotated (plain c.args.part.now)) (EachAnnotated (p.pattern c.args.at (p.Annotated (plain c.args.part.now) (type_node c.args.written.now)))) c.annotated_within.result
    (no_name_there c.args.at (plain c.args.part.now) (type_node c.args.written.now) (sym c.is_variable.ensures ∙ c.if-is_variable.false)) c.annotated_within.ensures

-- ---- lists

pub each_within-loop-pattern-preserved : goal.each_within-loop-pattern-preserved
each_within-loop-pattern-preserved t c =
    next_fine c.args.patterns.now (drop c.loop-pattern.pattern-index c.args.patterns.now) (drop (c.loop-pattern.pattern-index + 1) c.args.patterns.now) c.pattern-item.result
    (drop_more c.args.patterns.now c.loop-pattern.pattern-index c.pattern-item.result c.loop-pattern-test.true c.pattern-item.is) c.loop-pattern.invariant c.in_ok-annotated_within.ensures

pub each_within-returns-in_err-annotated_within : goal.each_within-returns-in_err-annotated_within
each_within-returns-in_err-annotated_within t c =
    stops_there c.args.patterns.now (drop c.loop-pattern.pattern-index c.args.patterns.now) (drop (c.loop-pattern.pattern-index + 1) c.args.patterns.now) c.pattern-item.result
    (drop_more c.args.patterns.now c.loop-pattern.pattern-index c.pattern-item.result c.loop-pattern-test.true c.pattern-item.is) c.loop-pattern.invariant c.in_err-annotated_within.field-0.0 c.from_residual.result c.from_residual.ensures
    c.in_err-annotated_within.ensures

pub each_within-returns : goal.each_within-returns
each_within-returns t c = c.loop-pattern.invariant ∙ ap all_of (drop_all c.loop-pattern.pattern-index c.args.patterns.now c.loop-pattern-test.false)

pub fields_within-loop-field-preserved : goal.fields_within-loop-field-preserved
fields_within-loop-field-preserved t c =
    next_field_fine c.args.fields.now (drop c.loop-field.field-index c.args.fields.now) (drop (c.loop-field.field-index + 1) c.args.fields.now) c.field-item.result
    (drop_more c.args.fields.now c.loop-field.field-index c.field-item.result c.loop-field-test.true c.field-item.is) c.loop-field.invariant c.in_ok-annotated_within.ensures

pub fields_within-returns-in_err-annotated_within : goal.fields_within-returns-in_err-annotated_within
fields_within-returns-in_err-annotated_within t c =
    field_stops c.args.fields.now (drop c.loop-field.field-index c.args.fields.now) (drop (c.loop-field.field-index + 1) c.args.fields.now) c.field-item.result
    (drop_more c.args.fields.now c.loop-field.field-index c.field-item.result c.loop-field-test.true c.field-item.is) c.loop-field.invariant c.in_err-annotated_within.field-0.0 c.from_residual.result c.from_residual.ensures
    c.in_err-annotated_within.ensures

pub fields_within-returns : goal.fields_within-returns
fields_within-returns t c = c.loop-field.invariant ∙ ap fields_of (drop_all c.loop-field.field-index c.args.fields.now c.loop-field-test.false)
