-- The equations of the writing and of the grammar, at each kind of tree.
use Rattle.std.proofs.Common.{◌≡◌, ℕ, Bool, List, Option, Some, None, refl, ap, ◌∙◌, sym, map, option_map}
use Rattle.mo_syntax.specs.declared.name.Name.{Name}
use Rattle.mo_syntax.specs.declared.types.TypeExpression.{TypeExpression}
use Rattle.mo_syntax.specs.declared.literal.Literal.{Literal}
use Rattle.mo_syntax.specs.declared.patterns.Pattern.{Pattern, Pattern-F, roll-Pattern, fold-roll-Pattern, rec-roll-Pattern, map-Pattern}
use Rattle.mo_syntax.specs.declared.patterns.Pattern.TheVariants as e
use Rattle.mo_syntax.specs.declared.patterns.PatternField.{PatternField, roll-PatternField, fold-roll-PatternField, rec-roll-PatternField, map-PatternField}
use Rattle.mo_syntax.specs.declared.patterns.Pattern.TheOpen as F
use Rattle.mo_syntax.specs.Writing.{Writing}
use Rattle.mo_syntax.specs.PatternGrammar.{pattern_tokens, pattern_field_tokens, pattern_step, pattern_field_step, pattern_rule, pattern_field_rule, IsPattern, IsPatternField}
use Rattle.mo_syntax.proofs.Mapped.{Each-map, MayEnd-map}

-- ---- the writing

pub tokens_Annotated : (x0 : Pattern) (x1 : TypeExpression) → pattern_tokens (e.Annotated x0 x1) ≡ pattern_step (F.Annotated (pattern_tokens x0) x1)
unfolding pattern_tokens pattern_field_tokens
tokens_Annotated x0 x1 = ap pattern_tokens (sym (e.rolls-Annotated x0 x1)) ∙ fold-roll-Pattern Writing Writing pattern_step pattern_field_step (F.Annotated x0 x1)

pub tokens_Alternative : (x0 : Pattern) (x1 : Pattern) → pattern_tokens (e.Alternative x0 x1) ≡ pattern_step (F.Alternative (pattern_tokens x0) (pattern_tokens x1))
unfolding pattern_tokens pattern_field_tokens
tokens_Alternative x0 x1 = ap pattern_tokens (sym (e.rolls-Alternative x0 x1)) ∙ fold-roll-Pattern Writing Writing pattern_step pattern_field_step (F.Alternative x0 x1)

pub tokens_Optional : (x0 : Pattern) → pattern_tokens (e.Optional x0) ≡ pattern_step (F.Optional (pattern_tokens x0))
unfolding pattern_tokens pattern_field_tokens
tokens_Optional x0 = ap pattern_tokens (sym (e.rolls-Optional x0)) ∙ fold-roll-Pattern Writing Writing pattern_step pattern_field_step (F.Optional x0)

pub tokens_Tagged : (x0 : Name) (x1 : Option Pattern) → pattern_tokens (e.Tagged x0 x1) ≡ pattern_step (F.Tagged x0 (option_map pattern_tokens x1))
unfolding pattern_tokens pattern_field_tokens
tokens_Tagged x0 None = ap pattern_tokens (sym (e.rolls-Tagged x0 None)) ∙ fold-roll-Pattern Writing Writing pattern_step pattern_field_step (F.Tagged x0 None)
tokens_Tagged x0 (Some x1) = ap pattern_tokens (sym (e.rolls-Tagged x0 (Some x1))) ∙ fold-roll-Pattern Writing Writing pattern_step pattern_field_step (F.Tagged x0 (Some x1))

pub tokens_Variable : (x0 : Name) → pattern_tokens (e.Variable x0) ≡ pattern_step (F.Variable x0)
unfolding pattern_tokens pattern_field_tokens
tokens_Variable x0 = ap pattern_tokens (sym (e.rolls-Variable x0)) ∙ fold-roll-Pattern Writing Writing pattern_step pattern_field_step (F.Variable x0)

pub tokens_Wildcard : pattern_tokens e.Wildcard ≡ pattern_step F.Wildcard
unfolding pattern_tokens pattern_field_tokens
tokens_Wildcard = ap pattern_tokens (sym (e.rolls-Wildcard)) ∙ fold-roll-Pattern Writing Writing pattern_step pattern_field_step F.Wildcard

pub tokens_Constant : (x0 : Bool) (x1 : Literal) → pattern_tokens (e.Constant x0 x1) ≡ pattern_step (F.Constant x0 x1)
unfolding pattern_tokens pattern_field_tokens
tokens_Constant x0 x1 = ap pattern_tokens (sym (e.rolls-Constant x0 x1)) ∙ fold-roll-Pattern Writing Writing pattern_step pattern_field_step (F.Constant x0 x1)

pub tokens_Parenthesized : (x0 : List Pattern) → pattern_tokens (e.Parenthesized x0) ≡ pattern_step (F.Parenthesized (map pattern_tokens x0))
unfolding pattern_tokens pattern_field_tokens
tokens_Parenthesized x0 = ap pattern_tokens (sym (e.rolls-Parenthesized x0)) ∙ fold-roll-Pattern Writing Writing pattern_step pattern_field_step (F.Parenthesized x0)

pub tokens_Object : (x0 : List PatternField) (x1 : Bool) → pattern_tokens (e.Object x0 x1) ≡ pattern_step (F.Object (map pattern_field_tokens x0) x1)
unfolding pattern_tokens pattern_field_tokens
tokens_Object x0 x1 = ap pattern_tokens (sym (e.rolls-Object x0 x1)) ∙ fold-roll-Pattern Writing Writing pattern_step pattern_field_step (F.Object x0 x1)

pub tokens_PatternField : (name : Name) (pattern : Option Pattern) → pattern_field_tokens (roll-PatternField (record { name = name; pattern = pattern })) ≡ pattern_field_step (record { name = name; pattern = (option_map pattern_tokens pattern) })
unfolding pattern_tokens pattern_field_tokens
tokens_PatternField name None = fold-roll-PatternField Writing Writing pattern_step pattern_field_step (record { name = name; pattern = None })
tokens_PatternField name (Some pattern) = fold-roll-PatternField Writing Writing pattern_step pattern_field_step (record { name = name; pattern = (Some pattern) })

-- ---- the grammar

abbrev PatternSteps : (A B : Type 0) (v0 : A → Pattern) (v1 : B → PatternField) (q0 : Pattern → ℕ → Type 0) (q1 : PatternField → Type 0) → Pattern-F A B → Type 1
PatternSteps A B v0 v1 q0 q1 x =
    pattern_rule A B (λ p. q0 (v0 p)) (λ p. q1 (v1 p)) x ≡ pattern_rule Pattern PatternField q0 q1 (map-Pattern A B Pattern PatternField v0 v1 x)

Pattern_steps : (A B : Type 0) (v0 : A → Pattern) (v1 : B → PatternField) (q0 : Pattern → ℕ → Type 0) (q1 : PatternField → Type 0) (x : Pattern-F A B) → PatternSteps A B v0 v1 q0 q1 x
Pattern_steps A B v0 v1 q0 q1 (F.Annotated x0 x1) = refl
Pattern_steps A B v0 v1 q0 q1 (F.Alternative x0 x1) = refl
Pattern_steps A B v0 v1 q0 q1 (F.Optional x0) = refl
Pattern_steps A B v0 v1 q0 q1 (F.Tagged x0 None) = refl
Pattern_steps A B v0 v1 q0 q1 (F.Tagged x0 (Some x1)) = refl
Pattern_steps A B v0 v1 q0 q1 (F.Variable x0) = refl
Pattern_steps A B v0 v1 q0 q1 F.Wildcard = refl
Pattern_steps A B v0 v1 q0 q1 (F.Constant x0 x1) = refl
Pattern_steps A B v0 v1 q0 q1 (F.Parenthesized x0) = λ i l. Each-map (λ p. q0 p 0) v0 x0 i
Pattern_steps A B v0 v1 q0 q1 (F.Object x0 x1) = λ i l. Each-map q1 v1 x0 i × MayEnd-map v1 x0 x1 i

abbrev PatternFieldSteps : (A B : Type 0) (v0 : A → Pattern) (v1 : B → PatternField) (q0 : Pattern → ℕ → Type 0) (q1 : PatternField → Type 0) → F.PatternField-F A B → Type 1
PatternFieldSteps A B v0 v1 q0 q1 x =
    pattern_field_rule A B (λ p. q0 (v0 p)) (λ p. q1 (v1 p)) x ≡ pattern_field_rule Pattern PatternField q0 q1 (map-PatternField A B Pattern PatternField v0 v1 x)

PatternField_cases : (A B : Type 0) (v0 : A → Pattern) (v1 : B → PatternField) (q0 : Pattern → ℕ → Type 0) (q1 : PatternField → Type 0) (name_ : Name) (pattern_ : Option A) → PatternFieldSteps A B v0 v1 q0 q1 (record { name = name_; pattern = pattern_ })
PatternField_cases A B v0 v1 q0 q1 name_ None = refl
PatternField_cases A B v0 v1 q0 q1 name_ (Some y) = refl

PatternField_steps : (A B : Type 0) (v0 : A → Pattern) (v1 : B → PatternField) (q0 : Pattern → ℕ → Type 0) (q1 : PatternField → Type 0) (x : F.PatternField-F A B) → PatternFieldSteps A B v0 v1 q0 q1 x
PatternField_steps A B v0 v1 q0 q1 x = PatternField_cases A B v0 v1 q0 q1 x.name x.pattern

rule_Pattern : (x : Pattern-F Pattern PatternField) → IsPattern (roll-Pattern x) ≡ pattern_rule Pattern PatternField IsPattern IsPatternField x
unfolding IsPattern IsPatternField
rule_Pattern = rec-roll-Pattern (ℕ → Type 0) (Type 0)
    (λ A B _ _. pattern_rule A B) (λ A B _ _. pattern_field_rule A B) Pattern_steps

pub rule_Annotated : (x0 : Pattern) (x1 : TypeExpression) → IsPattern (e.Annotated x0 x1) ≡ pattern_rule Pattern PatternField IsPattern IsPatternField (F.Annotated x0 x1)
rule_Annotated x0 x1 = ap IsPattern (sym (e.rolls-Annotated x0 x1)) ∙ rule_Pattern (F.Annotated x0 x1)

pub rule_Alternative : (x0 : Pattern) (x1 : Pattern) → IsPattern (e.Alternative x0 x1) ≡ pattern_rule Pattern PatternField IsPattern IsPatternField (F.Alternative x0 x1)
rule_Alternative x0 x1 = ap IsPattern (sym (e.rolls-Alternative x0 x1)) ∙ rule_Pattern (F.Alternative x0 x1)

pub rule_Optional : (x0 : Pattern) → IsPattern (e.Optional x0) ≡ pattern_rule Pattern PatternField IsPattern IsPatternField (F.Optional x0)
rule_Optional x0 = ap IsPattern (sym (e.rolls-Optional x0)) ∙ rule_Pattern (F.Optional x0)

pub rule_Tagged : (x0 : Name) (x1 : Option Pattern) → IsPattern (e.Tagged x0 x1) ≡ pattern_rule Pattern PatternField IsPattern IsPatternField (F.Tagged x0 x1)
rule_Tagged x0 x1 = ap IsPattern (sym (e.rolls-Tagged x0 x1)) ∙ rule_Pattern (F.Tagged x0 x1)

pub rule_Variable : (x0 : Name) → IsPattern (e.Variable x0) ≡ pattern_rule Pattern PatternField IsPattern IsPatternField (F.Variable x0)
rule_Variable x0 = ap IsPattern (sym (e.rolls-Variable x0)) ∙ rule_Pattern (F.Variable x0)

pub rule_Wildcard : IsPattern e.Wildcard ≡ pattern_rule Pattern PatternField IsPattern IsPatternField F.Wildcard
rule_Wildcard = ap IsPattern (sym (e.rolls-Wildcard)) ∙ rule_Pattern F.Wildcard

pub rule_Constant : (x0 : Bool) (x1 : Literal) → IsPattern (e.Constant x0 x1) ≡ pattern_rule Pattern PatternField IsPattern IsPatternField (F.Constant x0 x1)
rule_Constant x0 x1 = ap IsPattern (sym (e.rolls-Constant x0 x1)) ∙ rule_Pattern (F.Constant x0 x1)

pub rule_Parenthesized : (x0 : List Pattern) → IsPattern (e.Parenthesized x0) ≡ pattern_rule Pattern PatternField IsPattern IsPatternField (F.Parenthesized x0)
rule_Parenthesized x0 = ap IsPattern (sym (e.rolls-Parenthesized x0)) ∙ rule_Pattern (F.Parenthesized x0)

pub rule_Object : (x0 : List PatternField) (x1 : Bool) → IsPattern (e.Object x0 x1) ≡ pattern_rule Pattern PatternField IsPattern IsPatternField (F.Object x0 x1)
rule_Object x0 x1 = ap IsPattern (sym (e.rolls-Object x0 x1)) ∙ rule_Pattern (F.Object x0 x1)

pub rule_PatternField : (x : F.PatternField-F Pattern PatternField) → IsPatternField (roll-PatternField x) ≡ pattern_field_rule Pattern PatternField IsPattern IsPatternField x
unfolding IsPattern IsPatternField
rule_PatternField = rec-roll-PatternField (ℕ → Type 0) (Type 0)
    (λ A B _ _. pattern_rule A B) (λ A B _ _. pattern_field_rule A B) PatternField_steps
