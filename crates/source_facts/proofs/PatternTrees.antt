-- Induction over patterns and all that is read off them, layer by layer.
use Rattle.std.proofs.Common.{sym, subst}
use Rattle.mo_syntax.specs.declared.patterns.Pattern.{Pattern, Pattern-F, ind-Pattern, roll-Pattern, map-Pattern}
use Rattle.mo_syntax.specs.declared.patterns.PatternField.{PatternField, ind-PatternField, roll-PatternField, map-PatternField}
use Rattle.mo_syntax.specs.declared.patterns.Pattern.TheOpen as F
use Rattle.mo_syntax.specs.Writing.{Writing}
use Rattle.mo_syntax.specs.PatternGrammar as grammar
use Rattle.mo_syntax.proofs.Known.{Known}
use Rattle.mo_pattern_names.specs.PatternNames.{Binder}
use Rattle.mo_pattern_names.specs.PatternNames as names
use Rattle.typing_rules.specs.AbstractPatterns.{PatternSpan, PatternFieldSpan}
use Rattle.typing_rules.specs.AbstractPatterns as rules
use Rattle.source_facts.proofs.PatternSpanRolls as spans
use Rattle.source_facts.proofs.PatternNameRolls as named
use Rattle.source_facts.proofs.PatternTokenRolls as written

module _ (P : PatternSpan → Binder → Writing → Type 0) (Q : PatternFieldSpan → Binder → Writing → Type 0) where
  abbrev pub OfPattern : Pattern → Type 0
  OfPattern x = P (rules.in_pattern x) (names.in_pattern x) (grammar.pattern_tokens x)

  abbrev pub OfPatternField : PatternField → Type 0
  OfPatternField x = Q (rules.in_pattern_field x) (names.in_pattern_field x) (grammar.pattern_field_tokens x)

  abbrev pub PatternLayer : Pattern-F (Known OfPattern) (Known OfPatternField) → Type 0
  PatternLayer y =
      P (rules.pattern_step (map-Pattern Pattern PatternField PatternSpan PatternFieldSpan rules.in_pattern rules.in_pattern_field (map-Pattern (Known OfPattern) (Known OfPatternField) Pattern PatternField (λ z. z.0) (λ z. z.0) y)))
      (names.pattern_step (map-Pattern Pattern PatternField Binder Binder names.in_pattern names.in_pattern_field (map-Pattern (Known OfPattern) (Known OfPatternField) Pattern PatternField (λ z. z.0) (λ z. z.0) y)))
      (grammar.pattern_step (map-Pattern Pattern PatternField Writing Writing grammar.pattern_tokens grammar.pattern_field_tokens (map-Pattern (Known OfPattern) (Known OfPatternField) Pattern PatternField (λ z. z.0) (λ z. z.0) y)))

  abbrev pub PatternFieldLayer : F.PatternField-F (Known OfPattern) (Known OfPatternField) → Type 0
  PatternFieldLayer y =
      Q (rules.pattern_field_step (map-PatternField Pattern PatternField PatternSpan PatternFieldSpan rules.in_pattern rules.in_pattern_field (map-PatternField (Known OfPattern) (Known OfPatternField) Pattern PatternField (λ z. z.0) (λ z. z.0) y)))
      (names.pattern_field_step (map-PatternField Pattern PatternField Binder Binder names.in_pattern names.in_pattern_field (map-PatternField (Known OfPattern) (Known OfPatternField) Pattern PatternField (λ z. z.0) (λ z. z.0) y)))
      (grammar.pattern_field_step (map-PatternField Pattern PatternField Writing Writing grammar.pattern_tokens grammar.pattern_field_tokens (map-PatternField (Known OfPattern) (Known OfPatternField) Pattern PatternField (λ z. z.0) (λ z. z.0) y)))

  -- what holds of a layer where it holds of its parts
  pub record Layers : Type 0 where
    pub pattern : (y : Pattern-F (Known OfPattern) (Known OfPatternField)) → PatternLayer y
    pub field : (y : F.PatternField-F (Known OfPattern) (Known OfPatternField)) → PatternFieldLayer y

  module _ (layers : Layers) where
    on_pattern : (y : Pattern-F (Known OfPattern) (Known OfPatternField)) → OfPattern (roll-Pattern (map-Pattern (Known OfPattern) (Known OfPatternField) Pattern PatternField (λ z. z.0) (λ z. z.0) y))
    on_pattern y =
        subst (λ v. P (rules.in_pattern (roll-Pattern (map-Pattern (Known OfPattern) (Known OfPatternField) Pattern PatternField (λ z. z.0) (λ z. z.0) y))) (names.in_pattern (roll-Pattern (map-Pattern (Known OfPattern) (Known OfPatternField) Pattern PatternField (λ z. z.0) (λ z. z.0) y))) v) (sym (written.rolled_pattern (map-Pattern (Known OfPattern) (Known OfPatternField) Pattern PatternField (λ z. z.0) (λ z. z.0) y))) (subst (λ v. P (rules.in_pattern (roll-Pattern (map-Pattern (Known OfPattern) (Known OfPatternField) Pattern PatternField (λ z. z.0) (λ z. z.0) y))) v (grammar.pattern_step (map-Pattern Pattern PatternField Writing Writing grammar.pattern_tokens grammar.pattern_field_tokens (map-Pattern (Known OfPattern) (Known OfPatternField) Pattern PatternField (λ z. z.0) (λ z. z.0) y)))) (sym (named.rolled_pattern (map-Pattern (Known OfPattern) (Known OfPatternField) Pattern PatternField (λ z. z.0) (λ z. z.0) y))) (subst (λ v. P v (names.pattern_step (map-Pattern Pattern PatternField Binder Binder names.in_pattern names.in_pattern_field (map-Pattern (Known OfPattern) (Known OfPatternField) Pattern PatternField (λ z. z.0) (λ z. z.0) y))) (grammar.pattern_step (map-Pattern Pattern PatternField Writing Writing grammar.pattern_tokens grammar.pattern_field_tokens (map-Pattern (Known OfPattern) (Known OfPatternField) Pattern PatternField (λ z. z.0) (λ z. z.0) y)))) (sym (spans.rolled_pattern (map-Pattern (Known OfPattern) (Known OfPatternField) Pattern PatternField (λ z. z.0) (λ z. z.0) y))) (layers.pattern y)))

    on_field : (y : F.PatternField-F (Known OfPattern) (Known OfPatternField)) → OfPatternField (roll-PatternField (map-PatternField (Known OfPattern) (Known OfPatternField) Pattern PatternField (λ z. z.0) (λ z. z.0) y))
    on_field y =
        subst (λ v. Q (rules.in_pattern_field (roll-PatternField (map-PatternField (Known OfPattern) (Known OfPatternField) Pattern PatternField (λ z. z.0) (λ z. z.0) y))) (names.in_pattern_field (roll-PatternField (map-PatternField (Known OfPattern) (Known OfPatternField) Pattern PatternField (λ z. z.0) (λ z. z.0) y))) v) (sym (written.rolled_field (map-PatternField (Known OfPattern) (Known OfPatternField) Pattern PatternField (λ z. z.0) (λ z. z.0) y))) (subst (λ v. Q (rules.in_pattern_field (roll-PatternField (map-PatternField (Known OfPattern) (Known OfPatternField) Pattern PatternField (λ z. z.0) (λ z. z.0) y))) v (grammar.pattern_field_step (map-PatternField Pattern PatternField Writing Writing grammar.pattern_tokens grammar.pattern_field_tokens (map-PatternField (Known OfPattern) (Known OfPatternField) Pattern PatternField (λ z. z.0) (λ z. z.0) y)))) (sym (named.rolled_field (map-PatternField (Known OfPattern) (Known OfPatternField) Pattern PatternField (λ z. z.0) (λ z. z.0) y))) (subst (λ v. Q v (names.pattern_field_step (map-PatternField Pattern PatternField Binder Binder names.in_pattern names.in_pattern_field (map-PatternField (Known OfPattern) (Known OfPatternField) Pattern PatternField (λ z. z.0) (λ z. z.0) y))) (grammar.pattern_field_step (map-PatternField Pattern PatternField Writing Writing grammar.pattern_tokens grammar.pattern_field_tokens (map-PatternField (Known OfPattern) (Known OfPatternField) Pattern PatternField (λ z. z.0) (λ z. z.0) y)))) (sym (spans.rolled_field (map-PatternField (Known OfPattern) (Known OfPatternField) Pattern PatternField (λ z. z.0) (λ z. z.0) y))) (layers.field y)))

    pub holds_pattern : (x : Pattern) → OfPattern x
    holds_pattern = ind-Pattern OfPattern OfPatternField
        (λ x y is. subst (λ z. OfPattern (roll-Pattern z)) is (on_pattern y))
        (λ x y is. subst (λ z. OfPatternField (roll-PatternField z)) is (on_field y))

    pub holds_field : (x : PatternField) → OfPatternField x
    holds_field = ind-PatternField OfPattern OfPatternField
        (λ x y is. subst (λ z. OfPattern (roll-Pattern z)) is (on_pattern y))
        (λ x y is. subst (λ z. OfPatternField (roll-PatternField z)) is (on_field y))
