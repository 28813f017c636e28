-- A written pattern or signature whose tokens are below a bound has only numbers below it.
use Rattle.std.proofs.Common.{◌≡◌, ◌≤◌, ◌+◌, ℕ, Bool, List, [], ◌∷◌, map, Option, Some, None, arith}
use Rattle.mo_syntax.specs.declared.name.Name.{Name}
use Rattle.mo_syntax.specs.declared.literal.Literal.{Literal}
use Rattle.mo_syntax.specs.declared.types.TypeExpression.{TypeExpression}
use Rattle.mo_syntax.specs.declared.types.TypeParameter.{TypeParameter}
use Rattle.mo_syntax.specs.declared.patterns.Pattern.{Pattern}
use Rattle.mo_syntax.specs.declared.patterns.Pattern.TheVariants as e
use Rattle.mo_syntax.specs.declared.patterns.PatternField.{PatternField, roll-PatternField}
use Rattle.mo_syntax.specs.declared.patterns.Parameters.{Parameters}
use Rattle.mo_syntax.specs.declared.patterns.Parameters.TheVariants as parameters
use Rattle.mo_syntax.specs.Parts.{Each, Within}
use Rattle.mo_syntax.proofs.PatternInduction.{Claims, Cases, holds_Pattern, holds_PatternField}
use Rattle.typing_rules.specs.AbstractSyntax as p
use Rattle.typing_rules.specs.AbstractSyntax.{PatternFields}
use Rattle.typing_rules.specs.Spans.{flag, led, listed_from, listed_size}
use Rattle.typing_rules.specs.AbstractTypes.{in_type, annotation, generics_size}
use Rattle.typing_rules.specs.AbstractPatterns.{PatternSpan, patterns, pattern_fields, pattern_items, in_pattern, in_pattern_field, in_parameters}
use Rattle.typing_rules.specs.AbstractExpressions.{signature_span}
use Rattle.typing_rules.proofs.PatternSpans as S
use Rattle.fault_places.specs.Numbers.{PatternBelow, PatternsBelow, PatternFieldsBelow, SignatureBelow}
use Rattle.fault_places.proofs.WrittenTypes.{Fits, each_fits, listed_fits, seen_part, type_fits, annotation_fits, generics_fit}

module _ (n : ℕ) where
  abbrev pub FieldFits : (PatternFields ℕ → PatternFields ℕ) → Type 0
  FieldFits f = (rest : PatternFields ℕ) → PatternFieldsBelow n rest → PatternFieldsBelow n (f rest)

  abbrev claims : Claims
  claims = record {
    of_Pattern = λ x. Fits n (PatternBelow n) (in_pattern x);
    of_PatternField = λ x. Fits n FieldFits (in_pattern_field x);
  }

  patterns_below : (qs : List (p.Pattern ℕ)) → Each (PatternBelow n) qs → PatternsBelow n (patterns qs)
  patterns_below [] h = tt
  patterns_below (q ∷ qs) h = (h.0, patterns_below qs h.1)

  listed_patterns : (xs : List Pattern) → Each claims.of_Pattern xs → (k : ℕ) → k + listed_size (map in_pattern xs) ≤ n → PatternsBelow n (patterns (listed_from (map in_pattern xs) k))
  listed_patterns xs h k l = patterns_below (listed_from (map in_pattern xs) k) (listed_fits n (PatternBelow n) in_pattern xs h k l)

  pattern_fields_below : (fs : List (PatternFields ℕ → PatternFields ℕ)) → Each FieldFits fs → PatternFieldsBelow n (pattern_fields fs)
  pattern_fields_below [] h = tt
  pattern_fields_below (f ∷ fs) h = h.0 (pattern_fields fs) (pattern_fields_below fs h.1)

  pub listed_fields : (xs : List PatternField) → Each claims.of_PatternField xs → (k : ℕ) → k + listed_size (map in_pattern_field xs) ≤ n → PatternFieldsBelow n (pattern_fields (listed_from (map in_pattern_field xs) k))
  listed_fields xs h k l = pattern_fields_below (listed_from (map in_pattern_field xs) k) (listed_fits n FieldFits in_pattern_field xs h k l)

  seen : (s t : PatternSpan) → s ≡ t → Fits n (PatternBelow n) t → Fits n (PatternBelow n) s
  seen s t q h = seen_part n (PatternBelow n) s t q h

  of_Annotated : (q : Pattern) (a : TypeExpression) → claims.of_Pattern q → claims.of_Pattern (e.Annotated q a)
  of_Annotated q a h = seen _ _ (S.seen_Annotated q a) (λ k l.
      let i : k + ((in_pattern q).size + 1 + (in_type a).size) ≤ n = l in
      (omega arith, (omega arith, ((h k (omega arith)).1, (type_fits n a (k + (in_pattern q).size + 1) (omega arith)).1))))

  of_Alternative : (q r : Pattern) → claims.of_Pattern q → claims.of_Pattern r → claims.of_Pattern (e.Alternative q r)
  of_Alternative q r h g = seen _ _ (S.seen_Alternative q r) (λ k l.
      let i : k + ((in_pattern q).size + 1 + (in_pattern r).size) ≤ n = l in
      (omega arith, (omega arith, ((h k (omega arith)).1, (g (k + (in_pattern q).size + 1) (omega arith)).1))))

  of_Optional : (q : Pattern) → claims.of_Pattern q → claims.of_Pattern (e.Optional q)
  of_Optional q h = seen _ _ (S.seen_Optional q) (λ k l.
      let i : k + (1 + (in_pattern q).size) ≤ n = l in (omega arith, (omega arith, (h (k + 1) (omega arith)).1)))

  of_Tagged : (x : Name) (q : Option Pattern) → Within claims.of_Pattern q → claims.of_Pattern (e.Tagged x q)
  of_Tagged x None h = seen _ _ (S.seen_Tagged x None) (λ k l. let i : k + 2 ≤ n = l in (omega arith, (omega arith, tt)))
  of_Tagged x (Some q) h = seen _ _ (S.seen_Tagged x (Some q)) (λ k l.
      let i : k + (2 + (in_pattern q).size) ≤ n = l in (omega arith, (omega arith, (h (k + 2) (omega arith)).1)))

  of_Variable : (x : Name) → claims.of_Pattern (e.Variable x)
  of_Variable x = seen _ _ (S.seen_Variable x) (λ k l. let i : k + 1 ≤ n = l in (omega arith, (omega arith, tt)))

  of_Wildcard : claims.of_Pattern e.Wildcard
  of_Wildcard = seen _ _ S.seen_Wildcard (λ k l. let i : k + 1 ≤ n = l in (omega arith, (omega arith, tt)))

  of_Constant : (b : Bool) (c : Literal) → claims.of_Pattern (e.Constant b c)
  of_Constant b c = seen _ _ (S.seen_Constant b c) (λ k l. let i : k + (flag b + 1) ≤ n = l in (omega arith, (omega arith, tt)))

  items : (xs : List Pattern) → Each claims.of_Pattern xs → (k : ℕ) → k + (2 + listed_size (map in_pattern xs)) ≤ n → PatternBelow n (pattern_items (map in_pattern xs) k)
  items [] h k l = (omega arith, tt)
  items (x ∷ []) h k l = let i : k + (2 + (in_pattern x).size) ≤ n = l in (h.0 (k + 1) (omega arith)).1
  items (x ∷ y ∷ rest) h k l =
      let i : k + (2 + listed_size (map in_pattern (x ∷ y ∷ rest))) ≤ n = l in
      (omega arith, listed_patterns (x ∷ y ∷ rest) h (k + 1) (omega arith))

  of_Parenthesized : (xs : List Pattern) → Each claims.of_Pattern xs → claims.of_Pattern (e.Parenthesized xs)
  of_Parenthesized xs h = seen _ _ (S.seen_Parenthesized xs) (λ k l.
      let i : k + (2 + listed_size (map in_pattern xs)) ≤ n = l in (omega arith, items xs h k l))

  of_Object : (xs : List PatternField) (last : Bool) → Each claims.of_PatternField xs → claims.of_Pattern (e.Object xs last)
  of_Object xs last h = seen _ _ (S.seen_Object xs last) (λ k l.
      let i : k + (2 + listed_size (map in_pattern_field xs) + flag last) ≤ n = l in
      (omega arith, (omega arith, listed_fields xs h (k + 1) (omega arith))))

  of_PatternField : (x : Name) (q : Option Pattern) → Within claims.of_Pattern q → claims.of_PatternField (roll-PatternField (record { name = x; pattern = q }))
  of_PatternField x None h = seen_part n FieldFits _ _ (S.seen_PatternField x None) (λ k l.
      let i : k + 1 ≤ n = l in (omega arith, λ rest r. (omega arith, (omega arith, tt), r)))
  of_PatternField x (Some q) h = seen_part n FieldFits _ _ (S.seen_PatternField x (Some q)) (λ k l.
      let i : k + (2 + (in_pattern q).size) ≤ n = l in
      let j = (h (k + 2) (omega arith)).1 in
      (omega arith, λ rest r. (omega arith, j, r)))

  cases : Cases claims
  cases = record {
    Annotated = of_Annotated;
    Alternative = of_Alternative;
    Optional = of_Optional;
    Tagged = of_Tagged;
    Variable = of_Variable;
    Wildcard = of_Wildcard;
    Constant = of_Constant;
    Parenthesized = of_Parenthesized;
    Object = of_Object;
    PatternField_ = of_PatternField;
  }

  pub pattern_fits : (q : Pattern) → Fits n (PatternBelow n) (in_pattern q)
  pattern_fits q = holds_Pattern claims cases q

  pub pattern_field_fits : (x : PatternField) → Fits n FieldFits (in_pattern_field x)
  pattern_field_fits x = holds_PatternField claims cases x

  -- ---- signatures

  parameters_fit : (qs : Parameters) → Fits n (PatternsBelow n) (in_parameters qs)
  parameters_fit (parameters.List qs) = λ k l.
      let i : k + (2 + listed_size (map in_pattern qs)) ≤ n = l in
      (omega arith, listed_patterns qs (each_fits n claims.of_Pattern pattern_fits qs) (k + 1) (omega arith))
  parameters_fit (parameters.Single x) = λ k l. let i : k + 1 ≤ n = l in (omega arith, ((omega arith, tt), tt))

  pub signature_fits : (gs : Option (List TypeParameter)) (qs : Parameters) (a : Option TypeExpression) (b : Bool) (k : ℕ)
      → k + (signature_span gs qs a b).size ≤ n → SignatureBelow n ((signature_span gs qs a b).from k)
  signature_fits gs qs a b k l =
      let i : k + (generics_size gs + (in_parameters qs).size + led 1 (annotation a) + flag b) ≤ n = l in
      (generics_fit n gs k (omega arith), (parameters_fit qs (k + generics_size gs) (omega arith)).1, annotation_fits n a (k + generics_size gs + (in_parameters qs).size + 1) (omega arith))
