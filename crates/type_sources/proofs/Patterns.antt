-- Patterns, part by part.
use Rattle.std.proofs.Common.{ℕ, ◌+◌, Bool, List, [], ◌∷◌, ◌++◌, map, Option, Some, None, sym, subst}
use Rattle.mo_scopes.specs.declared.scope.Scope.{Scope}
use Rattle.mo_scopes.specs.Findings.{label}
use Rattle.mo_pattern_names.specs.PatternNames as N
use Rattle.mo_pattern_names.specs.TypeNames as types
use Rattle.mo_syntax.specs.declared.literal.Literal.{Literal}
use Rattle.mo_syntax.specs.declared.name.Name.{Name}
use Rattle.mo_syntax.specs.declared.patterns.Pattern.{Pattern}
use Rattle.mo_syntax.specs.declared.patterns.Pattern.TheVariants as e
use Rattle.mo_syntax.specs.declared.patterns.PatternField.{PatternField, roll-PatternField}
use Rattle.mo_syntax.specs.declared.token.TokenKind.TheVariants as token
use Rattle.mo_syntax.specs.declared.mark.Mark.TheVariants as m
use Rattle.mo_syntax.specs.declared.word.Word.TheVariants as w
use Rattle.mo_syntax.specs.declared.types.TypeExpression.{TypeExpression}
use Rattle.mo_syntax.specs.Parts.{Each, Within}
use Rattle.mo_syntax.specs.PatternGrammar.{pattern_tokens, pattern_field_tokens}
use Rattle.mo_syntax.specs.TypeGrammar.{type_tokens}
use Rattle.mo_syntax.specs.Writing.{marked, separated, semicolons, commas, parens, braces}
use Rattle.mo_syntax.proofs.PatternEquations as W
use Rattle.mo_syntax.proofs.PatternInduction.{Claims, Cases, holds_Pattern}
use Rattle.typing_rules.specs.AbstractPatterns.{PatternSpan, patterns, pattern_fields, pattern_items, in_pattern, in_pattern_field}
use Rattle.typing_rules.specs.AbstractSyntax as p
use Rattle.typing_rules.specs.AbstractTypes.{in_type}
use Rattle.typing_rules.specs.Spans.{listed_from}
use Rattle.typing_rules.proofs.PatternSpans as S
use Rattle.proper_laws.specs.Source.{IsPatternSource, ArePatternsSource, ArePatternFieldsSource}
use Rattle.type_sources.specs.Laws.{PatternsAreSources}
use Rattle.type_sources.specs.Shown.{IsNoBreach, NothingBroken, IsNameToken, AreNameTokens}
use Rattle.type_sources.proofs.PatternNames as F
use Rattle.type_sources.proofs.Splitting.{each_first, each_last, each_separated}
use Rattle.type_sources.proofs.Types.{types_sources}

abbrev pub IsFrom : PatternSpan → Type 0
IsFrom q = (k : ℕ) → IsPatternSource (q.from k)

pub listed_patterns : (qs : List PatternSpan) → Each IsFrom qs → (k : ℕ) → ArePatternsSource (patterns (listed_from qs k))
listed_patterns [] h k = tt
listed_patterns (q ∷ rest) h k = (h.0 k, listed_patterns rest h.1 (k + q.size + 1))

items_source : (qs : List PatternSpan) → Each IsFrom qs → (k : ℕ) → IsPatternSource (pattern_items qs k)
items_source [] h k = tt
items_source (q ∷ []) h k = h.0 (k + 1)
items_source (q ∷ r ∷ rest) h k = listed_patterns (q ∷ r ∷ rest) h (k + 1)

abbrev claims : Claims
claims = record {
  of_Pattern = λ x. (s : Scope) → NothingBroken ((N.in_pattern x).finds s) → AreNameTokens (pattern_tokens x) → IsFrom (in_pattern x);
  of_PatternField = λ x. (s : Scope) → NothingBroken ((N.in_pattern_field x).finds s) → AreNameTokens (pattern_field_tokens x)
      → (k : ℕ) → (rest : p.PatternFields ℕ) → ArePatternFieldsSource rest → ArePatternFieldsSource ((in_pattern_field x).from k rest);
}

of_Annotated : (q : Pattern) (a : TypeExpression) → claims.of_Pattern q → claims.of_Pattern (e.Annotated q a)
of_Annotated q a i s n t =
    let n' : NothingBroken ((N.in_pattern q).finds s ++ types.in_type a s) = subst (λ z. NothingBroken (z.finds s)) (F.found_Annotated q a) n in
    let t' : AreNameTokens (pattern_tokens q ++ token.Mark m.Colon ∷ type_tokens a) = subst AreNameTokens (W.tokens_Annotated q a) t in
    let x = i s (each_first IsNoBreach ((N.in_pattern q).finds s) (types.in_type a s) n') (each_first IsNameToken (pattern_tokens q) (token.Mark m.Colon ∷ type_tokens a) t') in
    let y = types_sources a s (each_last IsNoBreach ((N.in_pattern q).finds s) (types.in_type a s) n') (each_last IsNameToken (pattern_tokens q) (token.Mark m.Colon ∷ type_tokens a) t').1 in
    subst IsFrom (sym (S.seen_Annotated q a)) (λ k. (x k, y (k + (in_pattern q).size + 1)))

of_Alternative : (q r : Pattern) → claims.of_Pattern q → claims.of_Pattern r → claims.of_Pattern (e.Alternative q r)
of_Alternative q r i j s n t =
    let n' : NothingBroken ((N.in_pattern q).finds s ++ (N.in_pattern r).finds s) = subst (λ z. NothingBroken (z.finds s)) (F.found_Alternative q r) n in
    let t' : AreNameTokens (pattern_tokens q ++ token.Reserved w.Or ∷ pattern_tokens r) = subst AreNameTokens (W.tokens_Alternative q r) t in
    let x = i s (each_first IsNoBreach ((N.in_pattern q).finds s) ((N.in_pattern r).finds s) n') (each_first IsNameToken (pattern_tokens q) (token.Reserved w.Or ∷ pattern_tokens r) t') in
    let y = j s (each_last IsNoBreach ((N.in_pattern q).finds s) ((N.in_pattern r).finds s) n') (each_last IsNameToken (pattern_tokens q) (token.Reserved w.Or ∷ pattern_tokens r) t').1 in
    subst IsFrom (sym (S.seen_Alternative q r)) (λ k. (x k, y (k + (in_pattern q).size + 1)))

of_Optional : (q : Pattern) → claims.of_Pattern q → claims.of_Pattern (e.Optional q)
of_Optional q i s n t =
    let t' : AreNameTokens (token.Mark m.Question ∷ pattern_tokens q) = subst AreNameTokens (W.tokens_Optional q) t in
    let x = i s (subst (λ z. NothingBroken (z.finds s)) (F.found_Optional q) n) t'.1 in
    subst IsFrom (sym (S.seen_Optional q)) (λ k. x (k + 1))

of_Tagged : (x : Name) (q : Option Pattern) → Within claims.of_Pattern q → claims.of_Pattern (e.Tagged x q)
of_Tagged x None i s n t = subst IsFrom (sym (S.seen_Tagged x None)) (λ k. tt)
of_Tagged x (Some q) i s n t =
    let n' : NothingBroken (label x ++ (N.in_pattern q).finds s) = subst (λ z. NothingBroken (z.finds s)) (F.found_Tagged x (Some q)) n in
    let t' : AreNameTokens (token.Mark m.Tag ∷ token.Identifier x ∷ pattern_tokens q) = subst AreNameTokens (W.tokens_Tagged x (Some q)) t in
    let y = i s (each_last IsNoBreach (label x) ((N.in_pattern q).finds s) n') t'.1.1 in
    subst IsFrom (sym (S.seen_Tagged x (Some q))) (λ k. y (k + 2))

each_pattern : (qs : List Pattern) → Each claims.of_Pattern qs → (s : Scope) → NothingBroken (N.each_binder (map N.in_pattern qs) s) → Each (λ x. AreNameTokens (pattern_tokens x)) qs → Each IsFrom (map in_pattern qs)
each_pattern [] i s n t = tt
each_pattern (q ∷ qs) i s n t = (
  i.0 s (each_first IsNoBreach ((N.in_pattern q).finds s) (N.each_binder (map N.in_pattern qs) s) n) t.0,
  each_pattern qs i.1 s (each_last IsNoBreach ((N.in_pattern q).finds s) (N.each_binder (map N.in_pattern qs) s) n) t.1,
)

of_Parenthesized : (qs : List Pattern) → Each claims.of_Pattern qs → claims.of_Pattern (e.Parenthesized qs)
of_Parenthesized qs i s n t =
    let t' : AreNameTokens (parens (commas (map pattern_tokens qs))) = subst AreNameTokens (W.tokens_Parenthesized qs) t in
    let u : AreNameTokens (commas (map pattern_tokens qs)) = each_first IsNameToken (commas (map pattern_tokens qs)) (token.Mark m.ParenClose ∷ []) t'.1 in
    let y = each_pattern qs i s (subst (λ z. NothingBroken (z.finds s)) (F.found_Parenthesized qs) n) (each_separated IsNameToken pattern_tokens (token.Mark m.Comma) qs u) in
    subst IsFrom (sym (S.seen_Parenthesized qs)) (λ k. items_source (map in_pattern qs) y k)

each_field : (qs : List PatternField) → Each claims.of_PatternField qs → (s : Scope) → NothingBroken (N.each_binder (map N.in_pattern_field qs) s) → Each (λ x. AreNameTokens (pattern_field_tokens x)) qs
    → (k : ℕ) → ArePatternFieldsSource (pattern_fields (listed_from (map in_pattern_field qs) k))
each_field [] i s n t k = tt
each_field (q ∷ qs) i s n t k =
    i.0 s (each_first IsNoBreach ((N.in_pattern_field q).finds s) (N.each_binder (map N.in_pattern_field qs) s) n) t.0 k (pattern_fields (listed_from (map in_pattern_field qs) (k + (in_pattern_field q).size + 1)))
    (each_field qs i.1 s (each_last IsNoBreach ((N.in_pattern_field q).finds s) (N.each_binder (map N.in_pattern_field qs) s) n) t.1 (k + (in_pattern_field q).size + 1))

of_Object : (qs : List PatternField) (last : Bool) → Each claims.of_PatternField qs → claims.of_Pattern (e.Object qs last)
of_Object qs last i s n t =
    let fields = semicolons (map pattern_field_tokens qs) last in
    let t' : AreNameTokens (braces fields) = subst AreNameTokens (W.tokens_Object qs last) t in
    let u : AreNameTokens fields = each_first IsNameToken fields (token.Mark m.BraceClose ∷ []) t'.1 in
    let v : AreNameTokens (separated (token.Mark m.Semicolon) (map pattern_field_tokens qs)) = each_first IsNameToken (separated (token.Mark m.Semicolon) (map pattern_field_tokens qs)) (marked last (token.Mark m.Semicolon)) u in
    subst IsFrom (sym (S.seen_Object qs last))
    (λ k. each_field qs i s (subst (λ z. NothingBroken (z.finds s)) (F.found_Object qs last) n) (each_separated IsNameToken pattern_field_tokens (token.Mark m.Semicolon) qs v) (k + 1))

of_Variable : (x : Name) → claims.of_Pattern (e.Variable x)
of_Variable x s n t = subst IsFrom (sym (S.seen_Variable x)) (λ k. tt)

of_Wildcard : claims.of_Pattern e.Wildcard
of_Wildcard s n t = subst IsFrom (sym S.seen_Wildcard) (λ k. tt)

of_Constant : (minus : Bool) (l : Literal) → claims.of_Pattern (e.Constant minus l)
of_Constant minus l s n t = subst IsFrom (sym (S.seen_Constant minus l)) (λ k. tt)

of_PatternField : (x : Name) (q : Option Pattern) → Within claims.of_Pattern q → claims.of_PatternField (roll-PatternField (record { name = x; pattern = q }))
of_PatternField x None i s n t k rest h = subst (λ f. ArePatternFieldsSource (f.from k rest)) (sym (S.seen_PatternField x None)) (tt, h)
of_PatternField x (Some q) i s n t k rest h =
    let n' : NothingBroken (label x ++ (N.in_pattern q).finds s) = subst (λ z. NothingBroken (z.finds s)) (F.found_PatternField x (Some q)) n in
    let t' : AreNameTokens (token.Identifier x ∷ token.Mark m.EqualSign ∷ pattern_tokens q) = subst AreNameTokens (W.tokens_PatternField x (Some q)) t in
    let y = i s (each_last IsNoBreach (label x) ((N.in_pattern q).finds s) n') t'.1.1 in
    subst (λ f. ArePatternFieldsSource (f.from k rest)) (sym (S.seen_PatternField x (Some q))) (y (k + 2), h)

cases : Cases claims
cases = record {
  Annotated = of_Annotated;
  Alternative = of_Alternative;
  Optional = of_Optional;
  Tagged = of_Tagged;
  Variable = of_Variable;
  Wildcard = of_Wildcard;
  Constant = of_Constant;
  Parenthesized = of_Parenthesized;
  Object = of_Object;
  PatternField_ = of_PatternField;
}

pub patterns_sources : PatternsAreSources
patterns_sources q s n t k = holds_Pattern claims cases q s n t k
