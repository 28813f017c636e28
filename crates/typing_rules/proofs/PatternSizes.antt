-- A pattern takes as many tokens as it is written in, and so do parameters, annotations and type parameters.
use Rattle.std.proofs.Common.{◌≡◌, ◌+◌, Bool, true, false, List, [], ◌∷◌, length, map, Option, Some, None, option_map, refl, arith}
use Rattle.std.proofs.lemmas.List.{length-append}
use Rattle.mo_syntax.specs.declared.name.Name.{Name}
use Rattle.mo_syntax.specs.declared.literal.Literal.{Literal}
use Rattle.mo_syntax.specs.declared.token.TokenKind.TheVariants as t
use Rattle.mo_syntax.specs.declared.mark.Mark.TheVariants as m
use Rattle.mo_syntax.specs.declared.types.TypeExpression.{TypeExpression}
use Rattle.mo_syntax.specs.declared.types.TypeParameter.{TypeParameter}
use Rattle.mo_syntax.specs.declared.patterns.Pattern.{Pattern}
use Rattle.mo_syntax.specs.declared.patterns.Pattern.TheVariants as e
use Rattle.mo_syntax.specs.declared.patterns.PatternField.{PatternField, roll-PatternField}
use Rattle.mo_syntax.specs.declared.patterns.Parameters.{Parameters}
use Rattle.mo_syntax.specs.declared.patterns.Parameters.TheVariants as parameters
use Rattle.mo_syntax.specs.Parts.{Each, Within}
use Rattle.mo_syntax.specs.Writing as writing
use Rattle.mo_syntax.specs.Writing.{separated, marked}
use Rattle.mo_syntax.specs.TypeGrammar.{type_tokens, type_parameter_tokens, type_parameters_tokens}
use Rattle.mo_syntax.specs.PatternGrammar.{pattern_tokens, pattern_field_tokens, parameters_tokens}
use Rattle.mo_syntax.proofs.PatternEquations as W
use Rattle.mo_syntax.proofs.PatternInduction.{Claims, Cases, holds_Pattern, holds_PatternField}
use Rattle.typing_rules.specs.Spans.{listed_size, flag, led}
use Rattle.typing_rules.specs.AbstractTypes.{in_type, annotation, written_parameter, generics_size}
use Rattle.typing_rules.specs.AbstractPatterns.{in_pattern, in_pattern_field, in_parameters}
use Rattle.typing_rules.proofs.PatternSpans as S
use Rattle.typing_rules.proofs.TypeSizes.{sizes, flagged, type_size}

pub every : {A : Type 0} (P : A → Type 0) → ((x : A) → P x) → (xs : List A) → Each P xs
every P h [] = tt
every P h (x ∷ xs) = (h x, every P h xs)

abbrev claims : Claims
claims = record {
  of_Pattern = λ x. (in_pattern x).size ≡ length (pattern_tokens x);
  of_PatternField = λ x. (in_pattern_field x).size ≡ length (pattern_field_tokens x);
}

of_Annotated : (q : Pattern) (a : TypeExpression) → claims.of_Pattern q → claims.of_Pattern (e.Annotated q a)
of_Annotated q a h = let i : (in_type a).size ≡ length (type_tokens a) = type_size a in rw (S.seen_Annotated q a, W.tokens_Annotated q a, length-append) (omega arith)

of_Alternative : (q r : Pattern) → claims.of_Pattern q → claims.of_Pattern r → claims.of_Pattern (e.Alternative q r)
of_Alternative q r h g = rw (S.seen_Alternative q r, W.tokens_Alternative q r, length-append) (omega arith)

of_Optional : (q : Pattern) → claims.of_Pattern q → claims.of_Pattern (e.Optional q)
of_Optional q h = rw (S.seen_Optional q, W.tokens_Optional q) (omega arith)

of_Tagged : (x : Name) (q : Option Pattern) → Within claims.of_Pattern q → claims.of_Pattern (e.Tagged x q)
of_Tagged x None h = rw (S.seen_Tagged x None, W.tokens_Tagged x None) refl
of_Tagged x (Some q) h = rw (S.seen_Tagged x (Some q), W.tokens_Tagged x (Some q)) (omega arith)

of_Constant : (b : Bool) (l : Literal) → claims.of_Pattern (e.Constant b l)
of_Constant true l = rw (S.seen_Constant true l, W.tokens_Constant true l) refl
of_Constant false l = rw (S.seen_Constant false l, W.tokens_Constant false l) refl

of_Parenthesized : (xs : List Pattern) → Each claims.of_Pattern xs → claims.of_Pattern (e.Parenthesized xs)
of_Parenthesized xs h =
    let b : listed_size (map in_pattern xs) ≡ length (separated (t.Mark m.Comma) (map pattern_tokens xs)) = sizes in_pattern pattern_tokens (t.Mark m.Comma) xs h in
    rw (S.seen_Parenthesized xs, W.tokens_Parenthesized xs, length-append) (omega arith)

of_Object : (xs : List PatternField) (last : Bool) → Each claims.of_PatternField xs → claims.of_Pattern (e.Object xs last)
of_Object xs last h =
    let c : flag last ≡ length (marked last (t.Mark m.Semicolon)) = flagged last (t.Mark m.Semicolon) in
    let b : listed_size (map in_pattern_field xs) ≡ length (separated (t.Mark m.Semicolon) (map pattern_field_tokens xs)) = sizes in_pattern_field pattern_field_tokens (t.Mark m.Semicolon) xs h in
    rw (S.seen_Object xs last, W.tokens_Object xs last, length-append, length-append) (omega arith)

of_PatternField : (x : Name) (q : Option Pattern) → Within claims.of_Pattern q → claims.of_PatternField (roll-PatternField (record { name = x; pattern = q }))
of_PatternField x None h = rw (S.seen_PatternField x None, W.tokens_PatternField x None) refl
of_PatternField x (Some q) h = rw (S.seen_PatternField x (Some q), W.tokens_PatternField x (Some q)) (omega arith)

cases : Cases claims
cases = record {
  Annotated = of_Annotated;
  Alternative = of_Alternative;
  Optional = of_Optional;
  Tagged = of_Tagged;
  Variable = λ x. rw (S.seen_Variable x, W.tokens_Variable x) refl;
  Wildcard = rw (S.seen_Wildcard, W.tokens_Wildcard) refl;
  Constant = of_Constant;
  Parenthesized = of_Parenthesized;
  Object = of_Object;
  PatternField_ = of_PatternField;
}

pub pattern_size : (q : Pattern) → (in_pattern q).size ≡ length (pattern_tokens q)
pattern_size q = holds_Pattern claims cases q

pub pattern_field_size : (x : PatternField) → (in_pattern_field x).size ≡ length (pattern_field_tokens x)
pattern_field_size x = holds_PatternField claims cases x

pub parameters_size : (qs : Parameters) → (in_parameters qs).size ≡ length (parameters_tokens qs)
parameters_size (parameters.List qs) =
    let b : listed_size (map in_pattern qs) ≡ length (separated (t.Mark m.Comma) (map pattern_tokens qs)) = sizes in_pattern pattern_tokens (t.Mark m.Comma) qs (every _ pattern_size qs) in
    rw (length-append) (omega arith)
parameters_size (parameters.Single x) = refl

pub annotation_size : (a : Option TypeExpression) → led 1 (annotation a) ≡ length (writing.annotation (option_map type_tokens a))
annotation_size None = refl
annotation_size (Some a) = let h : (in_type a).size ≡ length (type_tokens a) = type_size a in omega arith

parameter_size : (x : TypeParameter) → (written_parameter x).size ≡ length (type_parameter_tokens x)
parameter_size x = by x.bound
  where
    by : (b : Option TypeExpression) → 1 + led 1 (annotation b) ≡ length (t.Identifier x.name ∷ writing.led (t.Mark m.Subtype) (option_map type_tokens b))
    by None = refl
    by (Some a) = let h : (in_type a).size ≡ length (type_tokens a) = type_size a in omega arith

pub generics_are : (xs : Option (List TypeParameter)) → generics_size xs ≡ length (type_parameters_tokens xs)
generics_are None = refl
generics_are (Some xs) =
    let b : listed_size (map written_parameter xs) ≡ length (separated (t.Mark m.Comma) (map type_parameter_tokens xs)) = sizes written_parameter type_parameter_tokens (t.Mark m.Comma) xs (every _ parameter_size xs) in
    rw (length-append) (omega arith)
