use Rattle.std.proofs.lemmas.List.{take_more}
use Rattle.std.proofs.Common.{◌∷◌, ◌++◌, [], false, ℕ, Ok, ap, map, refl, sym, take, ◌∙◌}
use Rattle.abstract_types.specs.declared.patterns.Pattern.{Pattern}
use Rattle.abstract_types.specs.declared.patterns.PatternField.{PatternField}
use Rattle.abstract_types.specs.PatternView.{fields, listed, plain, plain_field}
use Rattle.abstract_types.specs.TypeView.{type_node}
use Rattle.abstract_types.proofs.PatternViews.{seen_Annotated, seen_Alternative, seen_Optional, seen_Tag, seen_Tagged, seen_Variable, seen_Wildcard, seen_Constant}
use Rattle.typing_rules.specs.DeclaredTypes.{fields_fields, pattern_fields, patterns_fields}
use Rattle.typing_rules.specs.Terms as terms
use Rattle.typing_rules.specs.TypeScopes.{term}
use Rattle.type_scopes.specs.Scopes.{seen}
use Rattle.object_types.proofs.Adding.{adds_none, all_added, first_added, next_added}
use Rattle.object_types.proofs.Viewed.{field_adds, named_there, no_name_there, object_seen, of_fields, pattern_adds, patterns_are, tuple_seen}
use Rattle.object_types.proofs.names.+names.Goals as goal

pub push_each-loop-q-init : goal.push_each-loop-q-init
push_each-loop-q-init t c = first_added (λ q. pattern_fields (seen c.args.scope.now) (plain q)) c.args.types.now c.args.patterns.now c.args.made.now.items c.requires

pub push_each-loop-q-preserved : goal.push_each-loop-q-preserved
push_each-loop-q-preserved t c = next_added (λ q. pattern_fields (seen c.args.scope.now) (plain q)) c.args.types.now c.loop-q.types c.push_within.new.types c.args.patterns.now c.loop-q.q-index c.q-item.result c.args.made.now.items c.loop-q.made.items c.push_within.new.made.items
    (take_more c.args.patterns.now c.loop-q.q-index c.q-item.result c.loop-q-test.true ∙ ap (λ (n : Pattern ℕ). take c.loop-q.q-index c.args.patterns.now ++ n ∷ []) (sym c.q-item.is))
    c.loop-q.invariant c.in_ok-push_within.ensures

pub push_each-returns : goal.push_each-returns
push_each-returns t c = all_added (λ q. pattern_fields (seen c.args.scope.now) (plain q)) c.args.types.now c.loop-q.types _ c.args.patterns.now c.loop-q.q-index c.args.made.now.items c.loop-q.made.items c.loop-q-test.false
    (patterns_are (seen c.args.scope.now) c.args.patterns.now) c.loop-q.invariant

pub push_fields-loop-field-init : goal.push_fields-loop-field-init
push_fields-loop-field-init t c = first_added (λ x. pattern_fields (seen c.args.scope.now) (plain x.pattern)) c.args.types.now c.args.list.now c.args.made.now.items c.requires

pub push_fields-loop-field-preserved : goal.push_fields-loop-field-preserved
push_fields-loop-field-preserved t c = next_added (λ x. pattern_fields (seen c.args.scope.now) (plain x.pattern)) c.args.types.now c.loop-field.types c.push_within.new.types c.args.list.now c.loop-field.field-index c.field-item.result c.args.made.now.items c.loop-field.made.items c.push_within.new.made.items
    (take_more c.args.list.now c.loop-field.field-index c.field-item.result c.loop-field-test.true ∙ ap (λ (n : PatternField ℕ). take c.loop-field.field-index c.args.list.now ++ n ∷ []) (sym c.field-item.is))
    c.loop-field.invariant c.in_ok-push_within.ensures

pub push_fields-returns : goal.push_fields-returns
push_fields-returns t c = all_added (λ x. pattern_fields (seen c.args.scope.now) (plain x.pattern)) c.args.types.now c.loop-field.types _ c.args.list.now c.loop-field.field-index c.args.made.now.items c.loop-field.made.items c.loop-field-test.false
    (of_fields (seen c.args.scope.now) c.args.list.now) c.loop-field.invariant

pub push_within-returns-in_ok-part-in-Some : goal.push_within-returns-in_ok-part-in-Some
push_within-returns-in_ok-part-in-Some t c = pattern_adds (seen c.args.scope.now) c.args.q.now _ _ c.args.types.now c.written.new.types c.args.made.now.items c.push_field.new.made.items (sym c.get.ensures ∙ c.in-Annotated.is) (seen_Annotated _ _) c.push_field.result
    (λ rest. terms.constant c.in-Some.name.now (term (seen c.args.scope.now) (type_node c.in-Annotated.annotation)) rest)
    (λ rest. named_there (seen c.args.scope.now) c.args.q.now.note (plain c.in-Annotated.inner) (type_node c.in-Annotated.annotation) c.in-Some.name.now rest c.in-Some.ensures)
    (field_adds c.args.types.now c.written.new.types c.push_field.result c.in-Some.name.now false (term (seen c.args.scope.now) (type_node c.in-Annotated.annotation)) c.in_ok-part-in-Some.part c.args.made.now.items c.push_field.new.made.items c.in_ok-part-in-Some.ensures (rw c.as_slice.ensures at c.push_field.ensures))

pub push_within-returns-in-None : goal.push_within-returns-in-None
push_within-returns-in-None t c = pattern_adds (seen c.args.scope.now) c.args.q.now _ _ c.args.types.now c.push_within.new.types c.args.made.now.items c.push_within.new.made.items (sym c.get.ensures ∙ c.in-Annotated.is) (seen_Annotated _ _) c.push_within.result
    (pattern_fields (seen c.args.scope.now) (plain c.in-Annotated.inner))
    (λ rest. no_name_there (seen c.args.scope.now) c.args.q.now.note (plain c.in-Annotated.inner) (type_node c.in-Annotated.annotation) rest c.in-None.ensures) c.push_within.ensures

pub push_within-returns-in-Optional : goal.push_within-returns-in-Optional
push_within-returns-in-Optional t c = pattern_adds (seen c.args.scope.now) c.args.q.now _ _ c.args.types.now c.push_within-in-Optional.new.types c.args.made.now.items c.push_within-in-Optional.new.made.items (sym c.get.ensures ∙ c.in-Optional.is) (seen_Optional _) c.push_within-in-Optional.result
    (pattern_fields (seen c.args.scope.now) (plain c.in-Optional.inner)) (λ rest. refl) c.push_within-in-Optional.ensures

pub push_within-returns-in-Tagged : goal.push_within-returns-in-Tagged
push_within-returns-in-Tagged t c = pattern_adds (seen c.args.scope.now) c.args.q.now _ _ c.args.types.now c.push_within-in-Tagged.new.types c.args.made.now.items c.push_within-in-Tagged.new.made.items (sym c.get.ensures ∙ c.in-Tagged.is) (seen_Tagged _ _) c.push_within-in-Tagged.result
    (pattern_fields (seen c.args.scope.now) (plain c.in-Tagged.inner)) (λ rest. refl) c.push_within-in-Tagged.ensures

pub push_within-returns-in_ok-part-in-Variable : goal.push_within-returns-in_ok-part-in-Variable
push_within-returns-in_ok-part-in-Variable t c = pattern_adds (seen c.args.scope.now) c.args.q.now _ _ c.args.types.now c.bottom.new.types c.args.made.now.items c.push_field-in-Variable.new.made.items (sym c.get.ensures ∙ c.in-Variable.is) (seen_Variable _) c.push_field-in-Variable.result
    (λ rest. terms.constant c.in-Variable.name terms.Bottom rest) (λ rest. refl)
    (field_adds c.args.types.now c.bottom.new.types c.push_field-in-Variable.result c.in-Variable.name false terms.Bottom c.in_ok-part-in-Variable.part c.args.made.now.items c.push_field-in-Variable.new.made.items c.in_ok-part-in-Variable.ensures (rw c.as_slice-in-Variable.ensures at c.push_field-in-Variable.ensures))

pub push_within-returns-in-Tuple : goal.push_within-returns-in-Tuple
push_within-returns-in-Tuple t c = pattern_adds (seen c.args.scope.now) c.args.q.now _ _ c.args.types.now c.push_each.new.types c.args.made.now.items c.push_each.new.made.items (sym c.get.ensures ∙ c.in-Tuple.is) (tuple_seen _) c.push_each.result
    (patterns_fields (seen c.args.scope.now) (listed (map plain c.in-Tuple.items))) (λ rest. refl) (rw c.as_slice-in-Tuple.ensures at c.push_each.ensures)

pub push_within-returns-in-Object : goal.push_within-returns-in-Object
push_within-returns-in-Object t c = pattern_adds (seen c.args.scope.now) c.args.q.now _ _ c.args.types.now c.push_fields.new.types c.args.made.now.items c.push_fields.new.made.items (sym c.get.ensures ∙ c.in-Object.is) (object_seen _) c.push_fields.result
    (fields_fields (seen c.args.scope.now) (fields (map plain_field c.in-Object.list))) (λ rest. refl) (rw c.as_slice-in-Object.ensures at c.push_fields.ensures)

pub push_within-returns-in-Alternative : goal.push_within-returns-in-Alternative
push_within-returns-in-Alternative t c = pattern_adds (seen c.args.scope.now) c.args.q.now _ _ c.args.types.now c.args.types.now c.args.made.now.items c.args.made.now.items (sym c.get.ensures ∙ c.in-Alternative.is) (seen_Alternative _ _) (Ok tt)
    (λ rest. rest) (λ rest. refl) (adds_none c.args.types.now c.args.made.now.items c.requires)

pub push_within-returns-in-Tag : goal.push_within-returns-in-Tag
push_within-returns-in-Tag t c = pattern_adds (seen c.args.scope.now) c.args.q.now _ _ c.args.types.now c.args.types.now c.args.made.now.items c.args.made.now.items (sym c.get.ensures ∙ c.in-Tag.is) (seen_Tag _) (Ok tt)
    (λ rest. rest) (λ rest. refl) (adds_none c.args.types.now c.args.made.now.items c.requires)

pub push_within-returns-in-Wildcard : goal.push_within-returns-in-Wildcard
push_within-returns-in-Wildcard t c = pattern_adds (seen c.args.scope.now) c.args.q.now _ _ c.args.types.now c.args.types.now c.args.made.now.items c.args.made.now.items (sym c.get.ensures ∙ c.in-Wildcard.is) seen_Wildcard (Ok tt)
    (λ rest. rest) (λ rest. refl) (adds_none c.args.types.now c.args.made.now.items c.requires)

pub push_within-returns-in-Constant : goal.push_within-returns-in-Constant
push_within-returns-in-Constant t c = pattern_adds (seen c.args.scope.now) c.args.q.now _ _ c.args.types.now c.args.types.now c.args.made.now.items c.args.made.now.items (sym c.get.ensures ∙ c.in-Constant.is) (seen_Constant _ _) (Ok tt)
    (λ rest. rest) (λ rest. refl) (adds_none c.args.types.now c.args.made.now.items c.requires)
