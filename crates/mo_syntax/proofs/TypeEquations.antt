-- The equations of the writing and of the grammar, at each kind of tree.
use Rattle.std.proofs.Common.{◌≡◌, ℕ, Bool, List, Option, Some, None, refl, ap, ◌∙◌, sym, map, option_map}
use Rattle.mo_syntax.specs.declared.name.Name.{Name}
use Rattle.mo_syntax.specs.declared.types.Sharing.{Sharing}
use Rattle.mo_syntax.specs.declared.types.TypeExpression.{TypeExpression, TypeExpression-F, roll-TypeExpression, fold-roll-TypeExpression, rec-roll-TypeExpression, map-TypeExpression}
use Rattle.mo_syntax.specs.declared.types.TypeExpression.TheVariants as e
use Rattle.mo_syntax.specs.declared.types.TypeField.{TypeField, roll-TypeField, fold-roll-TypeField, rec-roll-TypeField, map-TypeField}
use Rattle.mo_syntax.specs.declared.types.TypeItem.{TypeItem, roll-TypeItem, fold-roll-TypeItem, rec-roll-TypeItem, map-TypeItem}
use Rattle.mo_syntax.specs.declared.types.TypeMethod.{TypeMethod, roll-TypeMethod, fold-roll-TypeMethod, rec-roll-TypeMethod, map-TypeMethod}
use Rattle.mo_syntax.specs.declared.types.TypeTag.{TypeTag, roll-TypeTag, fold-roll-TypeTag, rec-roll-TypeTag, map-TypeTag}
use Rattle.mo_syntax.specs.declared.types.TypeExpression.TheOpen as F
use Rattle.mo_syntax.specs.Writing.{Writing}
use Rattle.mo_syntax.specs.TypeGrammar.{type_tokens, type_field_tokens, type_item_tokens, type_method_tokens, type_tag_tokens, type_step, type_field_step, type_item_step, type_method_step, type_tag_step, type_rule, type_field_rule, type_item_rule, type_method_rule, type_tag_rule, IsType, IsTypeField, IsTypeItem, IsTypeMethod, IsTypeTag}
use Rattle.mo_syntax.proofs.Mapped.{Each-map, NotEmpty-map, MayEnd-map}

-- ---- the writing

pub tokens_Function : (x0 : Sharing) (x1 : TypeExpression) (x2 : TypeExpression) → type_tokens (e.Function x0 x1 x2) ≡ type_step (F.Function x0 (type_tokens x1) (type_tokens x2))
unfolding type_tokens type_field_tokens type_item_tokens type_method_tokens type_tag_tokens
tokens_Function x0 x1 x2 = ap type_tokens (sym (e.rolls-Function x0 x1 x2)) ∙ fold-roll-TypeExpression Writing Writing Writing Writing Writing type_step type_field_step type_item_step type_method_step type_tag_step (F.Function x0 x1 x2)

pub tokens_Optional : (x0 : TypeExpression) → type_tokens (e.Optional x0) ≡ type_step (F.Optional (type_tokens x0))
unfolding type_tokens type_field_tokens type_item_tokens type_method_tokens type_tag_tokens
tokens_Optional x0 = ap type_tokens (sym (e.rolls-Optional x0)) ∙ fold-roll-TypeExpression Writing Writing Writing Writing Writing type_step type_field_step type_item_step type_method_step type_tag_step (F.Optional x0)

pub tokens_Async : (x0 : TypeExpression) → type_tokens (e.Async x0) ≡ type_step (F.Async (type_tokens x0))
unfolding type_tokens type_field_tokens type_item_tokens type_method_tokens type_tag_tokens
tokens_Async x0 = ap type_tokens (sym (e.rolls-Async x0)) ∙ fold-roll-TypeExpression Writing Writing Writing Writing Writing type_step type_field_step type_item_step type_method_step type_tag_step (F.Async x0)

pub tokens_Named : (x0 : Name) (x1 : Option (List TypeExpression)) → type_tokens (e.Named x0 x1) ≡ type_step (F.Named x0 (option_map (map type_tokens) x1))
unfolding type_tokens type_field_tokens type_item_tokens type_method_tokens type_tag_tokens
tokens_Named x0 None = ap type_tokens (sym (e.rolls-Named x0 None)) ∙ fold-roll-TypeExpression Writing Writing Writing Writing Writing type_step type_field_step type_item_step type_method_step type_tag_step (F.Named x0 None)
tokens_Named x0 (Some x1) = ap type_tokens (sym (e.rolls-Named x0 (Some x1))) ∙ fold-roll-TypeExpression Writing Writing Writing Writing Writing type_step type_field_step type_item_step type_method_step type_tag_step (F.Named x0 (Some x1))

pub tokens_Parenthesized : (x0 : List TypeItem) → type_tokens (e.Parenthesized x0) ≡ type_step (F.Parenthesized (map type_item_tokens x0))
unfolding type_tokens type_field_tokens type_item_tokens type_method_tokens type_tag_tokens
tokens_Parenthesized x0 = ap type_tokens (sym (e.rolls-Parenthesized x0)) ∙ fold-roll-TypeExpression Writing Writing Writing Writing Writing type_step type_field_step type_item_step type_method_step type_tag_step (F.Parenthesized x0)

pub tokens_Array : (x0 : Bool) (x1 : TypeExpression) → type_tokens (e.Array x0 x1) ≡ type_step (F.Array x0 (type_tokens x1))
unfolding type_tokens type_field_tokens type_item_tokens type_method_tokens type_tag_tokens
tokens_Array x0 x1 = ap type_tokens (sym (e.rolls-Array x0 x1)) ∙ fold-roll-TypeExpression Writing Writing Writing Writing Writing type_step type_field_step type_item_step type_method_step type_tag_step (F.Array x0 x1)

pub tokens_Object : (x0 : Bool) (x1 : List TypeField) (x2 : Bool) → type_tokens (e.Object x0 x1 x2) ≡ type_step (F.Object x0 (map type_field_tokens x1) x2)
unfolding type_tokens type_field_tokens type_item_tokens type_method_tokens type_tag_tokens
tokens_Object x0 x1 x2 = ap type_tokens (sym (e.rolls-Object x0 x1 x2)) ∙ fold-roll-TypeExpression Writing Writing Writing Writing Writing type_step type_field_step type_item_step type_method_step type_tag_step (F.Object x0 x1 x2)

pub tokens_EmptyVariant : type_tokens e.EmptyVariant ≡ type_step F.EmptyVariant
unfolding type_tokens type_field_tokens type_item_tokens type_method_tokens type_tag_tokens
tokens_EmptyVariant = ap type_tokens (sym (e.rolls-EmptyVariant)) ∙ fold-roll-TypeExpression Writing Writing Writing Writing Writing type_step type_field_step type_item_step type_method_step type_tag_step F.EmptyVariant

pub tokens_Variant : (x0 : List TypeTag) (x1 : Bool) → type_tokens (e.Variant x0 x1) ≡ type_step (F.Variant (map type_tag_tokens x0) x1)
unfolding type_tokens type_field_tokens type_item_tokens type_method_tokens type_tag_tokens
tokens_Variant x0 x1 = ap type_tokens (sym (e.rolls-Variant x0 x1)) ∙ fold-roll-TypeExpression Writing Writing Writing Writing Writing type_step type_field_step type_item_step type_method_step type_tag_step (F.Variant x0 x1)

pub tokens_Actor : (x0 : List TypeMethod) (x1 : Bool) → type_tokens (e.Actor x0 x1) ≡ type_step (F.Actor (map type_method_tokens x0) x1)
unfolding type_tokens type_field_tokens type_item_tokens type_method_tokens type_tag_tokens
tokens_Actor x0 x1 = ap type_tokens (sym (e.rolls-Actor x0 x1)) ∙ fold-roll-TypeExpression Writing Writing Writing Writing Writing type_step type_field_step type_item_step type_method_step type_tag_step (F.Actor x0 x1)

pub tokens_TypeField : (mutable : Bool) (name : Name) (annotation : TypeExpression) → type_field_tokens (roll-TypeField (record { mutable = mutable; name = name; annotation = annotation })) ≡ type_field_step (record { mutable = mutable; name = name; annotation = (type_tokens annotation) })
unfolding type_tokens type_field_tokens type_item_tokens type_method_tokens type_tag_tokens
tokens_TypeField mutable name annotation = fold-roll-TypeField Writing Writing Writing Writing Writing type_step type_field_step type_item_step type_method_step type_tag_step (record { mutable = mutable; name = name; annotation = annotation })

pub tokens_TypeItem : (name : Option Name) (annotation : TypeExpression) → type_item_tokens (roll-TypeItem (record { name = name; annotation = annotation })) ≡ type_item_step (record { name = name; annotation = (type_tokens annotation) })
unfolding type_tokens type_field_tokens type_item_tokens type_method_tokens type_tag_tokens
tokens_TypeItem name annotation = fold-roll-TypeItem Writing Writing Writing Writing Writing type_step type_field_step type_item_step type_method_step type_tag_step (record { name = name; annotation = annotation })

pub tokens_TypeMethod : (name : Name) (annotation : TypeExpression) → type_method_tokens (roll-TypeMethod (record { name = name; annotation = annotation })) ≡ type_method_step (record { name = name; annotation = (type_tokens annotation) })
unfolding type_tokens type_field_tokens type_item_tokens type_method_tokens type_tag_tokens
tokens_TypeMethod name annotation = fold-roll-TypeMethod Writing Writing Writing Writing Writing type_step type_field_step type_item_step type_method_step type_tag_step (record { name = name; annotation = annotation })

pub tokens_TypeTag : (name : Name) (payload : Option TypeExpression) → type_tag_tokens (roll-TypeTag (record { name = name; payload = payload })) ≡ type_tag_step (record { name = name; payload = (option_map type_tokens payload) })
unfolding type_tokens type_field_tokens type_item_tokens type_method_tokens type_tag_tokens
tokens_TypeTag name None = fold-roll-TypeTag Writing Writing Writing Writing Writing type_step type_field_step type_item_step type_method_step type_tag_step (record { name = name; payload = None })
tokens_TypeTag name (Some payload) = fold-roll-TypeTag Writing Writing Writing Writing Writing type_step type_field_step type_item_step type_method_step type_tag_step (record { name = name; payload = (Some payload) })

-- ---- the grammar

abbrev TypeExpressionSteps : (A B C D E : Type 0) (v0 : A → TypeExpression) (v1 : B → TypeField) (v2 : C → TypeItem) (v3 : D → TypeMethod) (v4 : E → TypeTag) (q0 : TypeExpression → ℕ → Type 0) (q1 : TypeField → Type 0) (q2 : TypeItem → Type 0) (q3 : TypeMethod → Type 0) (q4 : TypeTag → Type 0) → TypeExpression-F A B C D E → Type 1
TypeExpressionSteps A B C D E v0 v1 v2 v3 v4 q0 q1 q2 q3 q4 x =
    type_rule A B C D E (λ p. q0 (v0 p)) (λ p. q1 (v1 p)) (λ p. q2 (v2 p)) (λ p. q3 (v3 p)) (λ p. q4 (v4 p)) x ≡ type_rule TypeExpression TypeField TypeItem TypeMethod TypeTag q0 q1 q2 q3 q4 (map-TypeExpression A B C D E TypeExpression TypeField TypeItem TypeMethod TypeTag v0 v1 v2 v3 v4 x)

TypeExpression_steps : (A B C D E : Type 0) (v0 : A → TypeExpression) (v1 : B → TypeField) (v2 : C → TypeItem) (v3 : D → TypeMethod) (v4 : E → TypeTag) (q0 : TypeExpression → ℕ → Type 0) (q1 : TypeField → Type 0) (q2 : TypeItem → Type 0) (q3 : TypeMethod → Type 0) (q4 : TypeTag → Type 0) (x : TypeExpression-F A B C D E) → TypeExpressionSteps A B C D E v0 v1 v2 v3 v4 q0 q1 q2 q3 q4 x
TypeExpression_steps A B C D E v0 v1 v2 v3 v4 q0 q1 q2 q3 q4 (F.Function x0 x1 x2) = refl
TypeExpression_steps A B C D E v0 v1 v2 v3 v4 q0 q1 q2 q3 q4 (F.Optional x0) = refl
TypeExpression_steps A B C D E v0 v1 v2 v3 v4 q0 q1 q2 q3 q4 (F.Async x0) = refl
TypeExpression_steps A B C D E v0 v1 v2 v3 v4 q0 q1 q2 q3 q4 (F.Named x0 None) = refl
TypeExpression_steps A B C D E v0 v1 v2 v3 v4 q0 q1 q2 q3 q4 (F.Named x0 (Some x1)) = λ i l. Each-map (λ a. q0 a 0) v0 x1 i
TypeExpression_steps A B C D E v0 v1 v2 v3 v4 q0 q1 q2 q3 q4 (F.Parenthesized x0) = λ i l. Each-map q2 v2 x0 i
TypeExpression_steps A B C D E v0 v1 v2 v3 v4 q0 q1 q2 q3 q4 (F.Array x0 x1) = refl
TypeExpression_steps A B C D E v0 v1 v2 v3 v4 q0 q1 q2 q3 q4 (F.Object x0 x1 x2) = λ i l. Each-map q1 v1 x1 i × MayEnd-map v1 x1 x2 i
TypeExpression_steps A B C D E v0 v1 v2 v3 v4 q0 q1 q2 q3 q4 F.EmptyVariant = refl
TypeExpression_steps A B C D E v0 v1 v2 v3 v4 q0 q1 q2 q3 q4 (F.Variant x0 x1) = λ i l. Each-map q4 v4 x0 i × NotEmpty-map v4 x0 i
TypeExpression_steps A B C D E v0 v1 v2 v3 v4 q0 q1 q2 q3 q4 (F.Actor x0 x1) = λ i l. Each-map q3 v3 x0 i × MayEnd-map v3 x0 x1 i

abbrev TypeFieldSteps : (A B C D E : Type 0) (v0 : A → TypeExpression) (v1 : B → TypeField) (v2 : C → TypeItem) (v3 : D → TypeMethod) (v4 : E → TypeTag) (q0 : TypeExpression → ℕ → Type 0) (q1 : TypeField → Type 0) (q2 : TypeItem → Type 0) (q3 : TypeMethod → Type 0) (q4 : TypeTag → Type 0) → F.TypeField-F A B C D E → Type 1
TypeFieldSteps A B C D E v0 v1 v2 v3 v4 q0 q1 q2 q3 q4 x =
    type_field_rule A B C D E (λ p. q0 (v0 p)) (λ p. q1 (v1 p)) (λ p. q2 (v2 p)) (λ p. q3 (v3 p)) (λ p. q4 (v4 p)) x ≡ type_field_rule TypeExpression TypeField TypeItem TypeMethod TypeTag q0 q1 q2 q3 q4 (map-TypeField A B C D E TypeExpression TypeField TypeItem TypeMethod TypeTag v0 v1 v2 v3 v4 x)

TypeField_steps : (A B C D E : Type 0) (v0 : A → TypeExpression) (v1 : B → TypeField) (v2 : C → TypeItem) (v3 : D → TypeMethod) (v4 : E → TypeTag) (q0 : TypeExpression → ℕ → Type 0) (q1 : TypeField → Type 0) (q2 : TypeItem → Type 0) (q3 : TypeMethod → Type 0) (q4 : TypeTag → Type 0) (x : F.TypeField-F A B C D E) → TypeFieldSteps A B C D E v0 v1 v2 v3 v4 q0 q1 q2 q3 q4 x
TypeField_steps A B C D E v0 v1 v2 v3 v4 q0 q1 q2 q3 q4 x = refl

abbrev TypeItemSteps : (A B C D E : Type 0) (v0 : A → TypeExpression) (v1 : B → TypeField) (v2 : C → TypeItem) (v3 : D → TypeMethod) (v4 : E → TypeTag) (q0 : TypeExpression → ℕ → Type 0) (q1 : TypeField → Type 0) (q2 : TypeItem → Type 0) (q3 : TypeMethod → Type 0) (q4 : TypeTag → Type 0) → F.TypeItem-F A B C D E → Type 1
TypeItemSteps A B C D E v0 v1 v2 v3 v4 q0 q1 q2 q3 q4 x =
    type_item_rule A B C D E (λ p. q0 (v0 p)) (λ p. q1 (v1 p)) (λ p. q2 (v2 p)) (λ p. q3 (v3 p)) (λ p. q4 (v4 p)) x ≡ type_item_rule TypeExpression TypeField TypeItem TypeMethod TypeTag q0 q1 q2 q3 q4 (map-TypeItem A B C D E TypeExpression TypeField TypeItem TypeMethod TypeTag v0 v1 v2 v3 v4 x)

TypeItem_steps : (A B C D E : Type 0) (v0 : A → TypeExpression) (v1 : B → TypeField) (v2 : C → TypeItem) (v3 : D → TypeMethod) (v4 : E → TypeTag) (q0 : TypeExpression → ℕ → Type 0) (q1 : TypeField → Type 0) (q2 : TypeItem → Type 0) (q3 : TypeMethod → Type 0) (q4 : TypeTag → Type 0) (x : F.TypeItem-F A B C D E) → TypeItemSteps A B C D E v0 v1 v2 v3 v4 q0 q1 q2 q3 q4 x
TypeItem_steps A B C D E v0 v1 v2 v3 v4 q0 q1 q2 q3 q4 x = refl

abbrev TypeMethodSteps : (A B C D E : Type 0) (v0 : A → TypeExpression) (v1 : B → TypeField) (v2 : C → TypeItem) (v3 : D → TypeMethod) (v4 : E → TypeTag) (q0 : TypeExpression → ℕ → Type 0) (q1 : TypeField → Type 0) (q2 : TypeItem → Type 0) (q3 : TypeMethod → Type 0) (q4 : TypeTag → Type 0) → F.TypeMethod-F A B C D E → Type 1
TypeMethodSteps A B C D E v0 v1 v2 v3 v4 q0 q1 q2 q3 q4 x =
    type_method_rule A B C D E (λ p. q0 (v0 p)) (λ p. q1 (v1 p)) (λ p. q2 (v2 p)) (λ p. q3 (v3 p)) (λ p. q4 (v4 p)) x ≡ type_method_rule TypeExpression TypeField TypeItem TypeMethod TypeTag q0 q1 q2 q3 q4 (map-TypeMethod A B C D E TypeExpression TypeField TypeItem TypeMethod TypeTag v0 v1 v2 v3 v4 x)

TypeMethod_steps : (A B C D E : Type 0) (v0 : A → TypeExpression) (v1 : B → TypeField) (v2 : C → TypeItem) (v3 : D → TypeMethod) (v4 : E → TypeTag) (q0 : TypeExpression → ℕ → Type 0) (q1 : TypeField → Type 0) (q2 : TypeItem → Type 0) (q3 : TypeMethod → Type 0) (q4 : TypeTag → Type 0) (x : F.TypeMethod-F A B C D E) → TypeMethodSteps A B C D E v0 v1 v2 v3 v4 q0 q1 q2 q3 q4 x
TypeMethod_steps A B C D E v0 v1 v2 v3 v4 q0 q1 q2 q3 q4 x = refl

abbrev TypeTagSteps : (A B C D E : Type 0) (v0 : A → TypeExpression) (v1 : B → TypeField) (v2 : C → TypeItem) (v3 : D → TypeMethod) (v4 : E → TypeTag) (q0 : TypeExpression → ℕ → Type 0) (q1 : TypeField → Type 0) (q2 : TypeItem → Type 0) (q3 : TypeMethod → Type 0) (q4 : TypeTag → Type 0) → F.TypeTag-F A B C D E → Type 1
TypeTagSteps A B C D E v0 v1 v2 v3 v4 q0 q1 q2 q3 q4 x =
    type_tag_rule A B C D E (λ p. q0 (v0 p)) (λ p. q1 (v1 p)) (λ p. q2 (v2 p)) (λ p. q3 (v3 p)) (λ p. q4 (v4 p)) x ≡ type_tag_rule TypeExpression TypeField TypeItem TypeMethod TypeTag q0 q1 q2 q3 q4 (map-TypeTag A B C D E TypeExpression TypeField TypeItem TypeMethod TypeTag v0 v1 v2 v3 v4 x)

TypeTag_cases : (A B C D E : Type 0) (v0 : A → TypeExpression) (v1 : B → TypeField) (v2 : C → TypeItem) (v3 : D → TypeMethod) (v4 : E → TypeTag) (q0 : TypeExpression → ℕ → Type 0) (q1 : TypeField → Type 0) (q2 : TypeItem → Type 0) (q3 : TypeMethod → Type 0) (q4 : TypeTag → Type 0) (name_ : Name) (payload_ : Option A) → TypeTagSteps A B C D E v0 v1 v2 v3 v4 q0 q1 q2 q3 q4 (record { name = name_; payload = payload_ })
TypeTag_cases A B C D E v0 v1 v2 v3 v4 q0 q1 q2 q3 q4 name_ None = refl
TypeTag_cases A B C D E v0 v1 v2 v3 v4 q0 q1 q2 q3 q4 name_ (Some y) = refl

TypeTag_steps : (A B C D E : Type 0) (v0 : A → TypeExpression) (v1 : B → TypeField) (v2 : C → TypeItem) (v3 : D → TypeMethod) (v4 : E → TypeTag) (q0 : TypeExpression → ℕ → Type 0) (q1 : TypeField → Type 0) (q2 : TypeItem → Type 0) (q3 : TypeMethod → Type 0) (q4 : TypeTag → Type 0) (x : F.TypeTag-F A B C D E) → TypeTagSteps A B C D E v0 v1 v2 v3 v4 q0 q1 q2 q3 q4 x
TypeTag_steps A B C D E v0 v1 v2 v3 v4 q0 q1 q2 q3 q4 x = TypeTag_cases A B C D E v0 v1 v2 v3 v4 q0 q1 q2 q3 q4 x.name x.payload

rule_TypeExpression : (x : TypeExpression-F TypeExpression TypeField TypeItem TypeMethod TypeTag) → IsType (roll-TypeExpression x) ≡ type_rule TypeExpression TypeField TypeItem TypeMethod TypeTag IsType IsTypeField IsTypeItem IsTypeMethod IsTypeTag x
unfolding IsType IsTypeField IsTypeItem IsTypeMethod IsTypeTag
rule_TypeExpression = rec-roll-TypeExpression (ℕ → Type 0) (Type 0) (Type 0) (Type 0) (Type 0)
    (λ A B C D E _ _ _ _ _. type_rule A B C D E) (λ A B C D E _ _ _ _ _. type_field_rule A B C D E) (λ A B C D E _ _ _ _ _. type_item_rule A B C D E) (λ A B C D E _ _ _ _ _. type_method_rule A B C D E) (λ A B C D E _ _ _ _ _. type_tag_rule A B C D E) TypeExpression_steps

pub rule_Function : (x0 : Sharing) (x1 : TypeExpression) (x2 : TypeExpression) → IsType (e.Function x0 x1 x2) ≡ type_rule TypeExpression TypeField TypeItem TypeMethod TypeTag IsType IsTypeField IsTypeItem IsTypeMethod IsTypeTag (F.Function x0 x1 x2)
rule_Function x0 x1 x2 = ap IsType (sym (e.rolls-Function x0 x1 x2)) ∙ rule_TypeExpression (F.Function x0 x1 x2)

pub rule_Optional : (x0 : TypeExpression) → IsType (e.Optional x0) ≡ type_rule TypeExpression TypeField TypeItem TypeMethod TypeTag IsType IsTypeField IsTypeItem IsTypeMethod IsTypeTag (F.Optional x0)
rule_Optional x0 = ap IsType (sym (e.rolls-Optional x0)) ∙ rule_TypeExpression (F.Optional x0)

pub rule_Async : (x0 : TypeExpression) → IsType (e.Async x0) ≡ type_rule TypeExpression TypeField TypeItem TypeMethod TypeTag IsType IsTypeField IsTypeItem IsTypeMethod IsTypeTag (F.Async x0)
rule_Async x0 = ap IsType (sym (e.rolls-Async x0)) ∙ rule_TypeExpression (F.Async x0)

pub rule_Named : (x0 : Name) (x1 : Option (List TypeExpression)) → IsType (e.Named x0 x1) ≡ type_rule TypeExpression TypeField TypeItem TypeMethod TypeTag IsType IsTypeField IsTypeItem IsTypeMethod IsTypeTag (F.Named x0 x1)
rule_Named x0 x1 = ap IsType (sym (e.rolls-Named x0 x1)) ∙ rule_TypeExpression (F.Named x0 x1)

pub rule_Parenthesized : (x0 : List TypeItem) → IsType (e.Parenthesized x0) ≡ type_rule TypeExpression TypeField TypeItem TypeMethod TypeTag IsType IsTypeField IsTypeItem IsTypeMethod IsTypeTag (F.Parenthesized x0)
rule_Parenthesized x0 = ap IsType (sym (e.rolls-Parenthesized x0)) ∙ rule_TypeExpression (F.Parenthesized x0)

pub rule_Array : (x0 : Bool) (x1 : TypeExpression) → IsType (e.Array x0 x1) ≡ type_rule TypeExpression TypeField TypeItem TypeMethod TypeTag IsType IsTypeField IsTypeItem IsTypeMethod IsTypeTag (F.Array x0 x1)
rule_Array x0 x1 = ap IsType (sym (e.rolls-Array x0 x1)) ∙ rule_TypeExpression (F.Array x0 x1)

pub rule_Object : (x0 : Bool) (x1 : List TypeField) (x2 : Bool) → IsType (e.Object x0 x1 x2) ≡ type_rule TypeExpression TypeField TypeItem TypeMethod TypeTag IsType IsTypeField IsTypeItem IsTypeMethod IsTypeTag (F.Object x0 x1 x2)
rule_Object x0 x1 x2 = ap IsType (sym (e.rolls-Object x0 x1 x2)) ∙ rule_TypeExpression (F.Object x0 x1 x2)

pub rule_EmptyVariant : IsType e.EmptyVariant ≡ type_rule TypeExpression TypeField TypeItem TypeMethod TypeTag IsType IsTypeField IsTypeItem IsTypeMethod IsTypeTag F.EmptyVariant
rule_EmptyVariant = ap IsType (sym (e.rolls-EmptyVariant)) ∙ rule_TypeExpression F.EmptyVariant

pub rule_Variant : (x0 : List TypeTag) (x1 : Bool) → IsType (e.Variant x0 x1) ≡ type_rule TypeExpression TypeField TypeItem TypeMethod TypeTag IsType IsTypeField IsTypeItem IsTypeMethod IsTypeTag (F.Variant x0 x1)
rule_Variant x0 x1 = ap IsType (sym (e.rolls-Variant x0 x1)) ∙ rule_TypeExpression (F.Variant x0 x1)

pub rule_Actor : (x0 : List TypeMethod) (x1 : Bool) → IsType (e.Actor x0 x1) ≡ type_rule TypeExpression TypeField TypeItem TypeMethod TypeTag IsType IsTypeField IsTypeItem IsTypeMethod IsTypeTag (F.Actor x0 x1)
rule_Actor x0 x1 = ap IsType (sym (e.rolls-Actor x0 x1)) ∙ rule_TypeExpression (F.Actor x0 x1)

pub rule_TypeField : (x : F.TypeField-F TypeExpression TypeField TypeItem TypeMethod TypeTag) → IsTypeField (roll-TypeField x) ≡ type_field_rule TypeExpression TypeField TypeItem TypeMethod TypeTag IsType IsTypeField IsTypeItem IsTypeMethod IsTypeTag x
unfolding IsType IsTypeField IsTypeItem IsTypeMethod IsTypeTag
rule_TypeField = rec-roll-TypeField (ℕ → Type 0) (Type 0) (Type 0) (Type 0) (Type 0)
    (λ A B C D E _ _ _ _ _. type_rule A B C D E) (λ A B C D E _ _ _ _ _. type_field_rule A B C D E) (λ A B C D E _ _ _ _ _. type_item_rule A B C D E) (λ A B C D E _ _ _ _ _. type_method_rule A B C D E) (λ A B C D E _ _ _ _ _. type_tag_rule A B C D E) TypeField_steps

pub rule_TypeItem : (x : F.TypeItem-F TypeExpression TypeField TypeItem TypeMethod TypeTag) → IsTypeItem (roll-TypeItem x) ≡ type_item_rule TypeExpression TypeField TypeItem TypeMethod TypeTag IsType IsTypeField IsTypeItem IsTypeMethod IsTypeTag x
unfolding IsType IsTypeField IsTypeItem IsTypeMethod IsTypeTag
rule_TypeItem = rec-roll-TypeItem (ℕ → Type 0) (Type 0) (Type 0) (Type 0) (Type 0)
    (λ A B C D E _ _ _ _ _. type_rule A B C D E) (λ A B C D E _ _ _ _ _. type_field_rule A B C D E) (λ A B C D E _ _ _ _ _. type_item_rule A B C D E) (λ A B C D E _ _ _ _ _. type_method_rule A B C D E) (λ A B C D E _ _ _ _ _. type_tag_rule A B C D E) TypeItem_steps

pub rule_TypeMethod : (x : F.TypeMethod-F TypeExpression TypeField TypeItem TypeMethod TypeTag) → IsTypeMethod (roll-TypeMethod x) ≡ type_method_rule TypeExpression TypeField TypeItem TypeMethod TypeTag IsType IsTypeField IsTypeItem IsTypeMethod IsTypeTag x
unfolding IsType IsTypeField IsTypeItem IsTypeMethod IsTypeTag
rule_TypeMethod = rec-roll-TypeMethod (ℕ → Type 0) (Type 0) (Type 0) (Type 0) (Type 0)
    (λ A B C D E _ _ _ _ _. type_rule A B C D E) (λ A B C D E _ _ _ _ _. type_field_rule A B C D E) (λ A B C D E _ _ _ _ _. type_item_rule A B C D E) (λ A B C D E _ _ _ _ _. type_method_rule A B C D E) (λ A B C D E _ _ _ _ _. type_tag_rule A B C D E) TypeMethod_steps

pub rule_TypeTag : (x : F.TypeTag-F TypeExpression TypeField TypeItem TypeMethod TypeTag) → IsTypeTag (roll-TypeTag x) ≡ type_tag_rule TypeExpression TypeField TypeItem TypeMethod TypeTag IsType IsTypeField IsTypeItem IsTypeMethod IsTypeTag x
unfolding IsType IsTypeField IsTypeItem IsTypeMethod IsTypeTag
rule_TypeTag = rec-roll-TypeTag (ℕ → Type 0) (Type 0) (Type 0) (Type 0) (Type 0)
    (λ A B C D E _ _ _ _ _. type_rule A B C D E) (λ A B C D E _ _ _ _ _. type_field_rule A B C D E) (λ A B C D E _ _ _ _ _. type_item_rule A B C D E) (λ A B C D E _ _ _ _ _. type_method_rule A B C D E) (λ A B C D E _ _ _ _ _. type_tag_rule A B C D E) TypeTag_steps
