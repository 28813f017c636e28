-- Lists of parts, and signatures.
use Rattle.std.proofs.Common.{◌≡◌, ℕ, suc, ◌+◌, Bool, true, false, List, [], ◌∷◌, ◌++◌, map, Option, Some, None, option_map, refl, sym, ap, subst, arith, ◌∙◌}
use Rattle.mo_bindings.specs.ExpressionNames.{Declared, Whole, Member}
use Rattle.mo_bindings.specs.ExpressionNames as N
use Rattle.mo_pattern_names.specs.PatternNames as patterns
use Rattle.mo_pattern_names.specs.TypeNames as types
use Rattle.mo_scopes.specs.declared.scope.Scope.{Scope}
use Rattle.mo_scopes.specs.Findings.{InScope, identifier, together, labels, each_label, each, each_within}
use Rattle.mo_syntax.specs.declared.declarations.Declaration.{Declaration}
use Rattle.mo_syntax.specs.declared.declarations.DeclarationField.{DeclarationField}
use Rattle.mo_syntax.specs.declared.expressions.Case.{Case}
use Rattle.mo_syntax.specs.declared.expressions.Expression.{Expression}
use Rattle.mo_syntax.specs.declared.expressions.ExpressionField.{ExpressionField}
use Rattle.mo_syntax.specs.declared.mark.Mark.TheVariants as m
use Rattle.mo_syntax.specs.declared.name.Name.{Name}
use Rattle.mo_syntax.specs.declared.operators.AssignmentOperator.{AssignmentOperator}
use Rattle.mo_syntax.specs.declared.operators.AssignmentOperator.TheVariants as assign
use Rattle.mo_syntax.specs.declared.patterns.Parameters.{Parameters}
use Rattle.mo_syntax.specs.declared.patterns.Parameters.TheVariants as parameters
use Rattle.mo_syntax.specs.declared.patterns.Pattern.{Pattern}
use Rattle.mo_syntax.specs.declared.token.TokenKind.{TokenKind}
use Rattle.mo_syntax.specs.declared.token.TokenKind.TheVariants as token
use Rattle.mo_syntax.specs.declared.types.TypeExpression.{TypeExpression}
use Rattle.mo_syntax.specs.declared.types.TypeParameter.{TypeParameter}
use Rattle.mo_syntax.specs.ExpressionGrammar.{signature, expression_tokens, declaration_tokens, declaration_field_tokens, case_tokens, expression_field_tokens}
use Rattle.mo_syntax.specs.Parts.{Each}
use Rattle.mo_syntax.specs.PatternGrammar.{pattern_tokens, parameters_tokens}
use Rattle.mo_syntax.specs.TypeGrammar.{type_tokens, type_parameter_tokens, type_parameters_tokens}
use Rattle.mo_syntax.specs.Writing.{Writing, marked, led, commas}
use Rattle.mo_syntax.specs.Writing as writing
use Rattle.mo_syntax.proofs.ExpressionInduction.{Claims}
use Rattle.mo_types.specs.Sub.{Each as EachOf}
use Rattle.typing_rules.specs.AbstractSyntax as p
use Rattle.typing_rules.specs.AbstractExpressions.{DeclarationSpan, ExpressionSpan, MemberSpan, CaseSpan, ObjectFieldSpan, cases, object_fields, declarations, members, items_at, parenthesized, assigned, signature_span, in_expression, in_declaration, in_member, in_case, in_object_field}
use Rattle.typing_rules.specs.AbstractPatterns.{in_pattern, in_parameters}
use Rattle.typing_rules.specs.AbstractTypes.{in_type, annotation, generics_spans, generics_size}
use Rattle.typing_rules.specs.Spans.{at_led, led as led_size, listed_from}
use Rattle.typing_rules.specs.TypedTrees.{count}
use Rattle.desugaring.specs.FreeNames.{field_names}
use Rattle.proper_laws.specs.Source.{DifferAsLabels, IsTypeSource, IsAnnotationSource, ArePatternsSource, IsSignatureSource}
use Rattle.meeting_laws.specs.Source.{labels_in, public_labels, method_labels, IsSource, EachIsSource, CasesAreSource, FieldsAreSource, AreSource, DeclarationIsSource}
use Rattle.type_sources.specs.Shown.{IsNoBreach, NothingBroken, IsNameToken, AreNameTokens}
use Rattle.type_sources.proofs.Labels.{texts, labels_differ}
use Rattle.type_sources.proofs.Patterns.{IsFrom as IsPatternFrom, listed_patterns, patterns_sources}
use Rattle.type_sources.proofs.Splitting.{each_first, each_last, each_separated}
use Rattle.type_sources.proofs.Types.{types_sources}
use Rattle.expression_sources.proofs.Covers.{Covers, Done, covers_both, covered_differ}

-- ---- what is claimed of each part, by what is seen, found and written

-- The name of a module stands before a dot without a meaning of its own.
abbrev AtHead : Option Name → ExpressionSpan → Type 0
AtHead None f = Unit {0}
AtHead (Some x) f = (k : ℕ) → IsSource (f.from k)

abbrev pub IsExpressionOf : ExpressionSpan → Whole → Writing → Type 0
IsExpressionOf f g h = ((s : Scope) → NothingBroken (g.finds s) → AreNameTokens h → (k : ℕ) → IsSource (f.from k)) × AtHead g.head f

-- it is no method
abbrev pub IsDeclarationOf : DeclarationSpan → Declared → Writing → Type 0
IsDeclarationOf f g h =
    ((s : Scope) → NothingBroken (g.finds s) → AreNameTokens h → (k : ℕ) → DeclarationIsSource (f.from k)) × ((k : ℕ) → Covers (field_names (f.from k)) g.values)
    × ((k : ℕ) (b : Bool) (n : ℕ) (rest : p.Declarations ℕ) → method_labels (p.Then b n (f.from k) rest) ≡ method_labels rest)

abbrev pub shown : Bool → p.Declaration ℕ → List p.Bytes
shown true d = field_names d
shown false d = []

abbrev pub IsMemberOf : MemberSpan → Member → Writing → Type 0
IsMemberOf f g h = ((s : Scope) → NothingBroken (g.finds s) → AreNameTokens h → (k : ℕ) → DeclarationIsSource (f.from k).1) × ((k : ℕ) → Covers (shown (f.from k).0 (f.from k).1) g.public)

abbrev pub IsCaseOf : CaseSpan → InScope → Writing → Type 0
IsCaseOf f g h = (s : Scope) → NothingBroken (g s) → AreNameTokens h → (k : ℕ) (rest : p.Cases ℕ) → CasesAreSource rest → CasesAreSource (f.from k rest)

abbrev pub IsFieldOf : ObjectFieldSpan → types.Entry → Writing → Type 0
IsFieldOf f g h =
    (s : Scope) → NothingBroken (g.finds s) → AreNameTokens h → (k : ℕ) (rest : p.ObjectFields ℕ) → (FieldsAreSource rest → FieldsAreSource (f.from k rest)) × (labels_in (f.from k rest) ≡ g.name.bytes ∷ labels_in rest)

abbrev pub C : Claims
C = record {
  of_Declaration = λ x. IsDeclarationOf (in_declaration x) (N.in_declaration x) (declaration_tokens x);
  of_Expression = λ x. IsExpressionOf (in_expression x) (N.in_expression x) (expression_tokens x);
  of_DeclarationField = λ x. IsMemberOf (in_member x) (N.in_member x) (declaration_field_tokens x);
  of_Case = λ x. IsCaseOf (in_case x) (N.in_case x) (case_tokens x);
  of_ExpressionField = λ x. IsFieldOf (in_object_field x) (N.in_field x) (expression_field_tokens x);
}

pub as_expression : (f f' : ExpressionSpan) (g g' : Whole) (h h' : Writing) → f ≡ f' → g ≡ g' → h ≡ h' → IsExpressionOf f' g' h' → IsExpressionOf f g h
as_expression f f' g g' h h' i j k r = subst (λ z. IsExpressionOf z g h) (sym i) (subst (λ z. IsExpressionOf f' z h) (sym j) (subst (λ z. IsExpressionOf f' g' z) (sym k) r))

pub as_declaration : (f f' : DeclarationSpan) (g g' : Declared) (h h' : Writing) → f ≡ f' → g ≡ g' → h ≡ h' → IsDeclarationOf f' g' h' → IsDeclarationOf f g h
as_declaration f f' g g' h h' i j k r = subst (λ z. IsDeclarationOf z g h) (sym i) (subst (λ z. IsDeclarationOf f' z h) (sym j) (subst (λ z. IsDeclarationOf f' g' z) (sym k) r))

pub as_member : (f f' : MemberSpan) (g g' : Member) (h h' : Writing) → f ≡ f' → g ≡ g' → h ≡ h' → IsMemberOf f' g' h' → IsMemberOf f g h
as_member f f' g g' h h' i j k r = subst (λ z. IsMemberOf z g h) (sym i) (subst (λ z. IsMemberOf f' z h) (sym j) (subst (λ z. IsMemberOf f' g' z) (sym k) r))

pub as_case : (f f' : CaseSpan) (g g' : InScope) (h h' : Writing) → f ≡ f' → g ≡ g' → h ≡ h' → IsCaseOf f' g' h' → IsCaseOf f g h
as_case f f' g g' h h' i j k r = subst (λ z. IsCaseOf z g h) (sym i) (subst (λ z. IsCaseOf f' z h) (sym j) (subst (λ z. IsCaseOf f' g' z) (sym k) r))

pub as_field : (f f' : ObjectFieldSpan) (g g' : types.Entry) (h h' : Writing) → f ≡ f' → g ≡ g' → h ≡ h' → IsFieldOf f' g' h' → IsFieldOf f g h
as_field f f' g g' h h' i j k r = subst (λ z. IsFieldOf z g h) (sym i) (subst (λ z. IsFieldOf f' z h) (sym j) (subst (λ z. IsFieldOf f' g' z) (sym k) r))

-- ---- types

pub led_source : (mark : TokenKind) (u : Option TypeExpression) (s : Scope) → NothingBroken (N.annotation u s) → AreNameTokens (led mark (option_map type_tokens u)) → (k : ℕ) → IsAnnotationSource (at_led (annotation u) k)
led_source mark None s n t k = tt
led_source mark (Some a) s n t k = types_sources a s n t.1 k

pub annotation_source : (u : Option TypeExpression) (s : Scope) → NothingBroken (N.annotation u s) → AreNameTokens (writing.annotation (option_map type_tokens u)) → (k : ℕ) → IsAnnotationSource (at_led (annotation u) k)
annotation_source u s n t k = led_source (token.Mark m.Colon) u s n t k

pub arguments_sources : (us : List TypeExpression) (s : Scope) → NothingBroken (each_within (Some (map types.in_type us)) s) → Each (λ u. AreNameTokens (type_tokens u)) us → (k : ℕ) → EachOf IsTypeSource (listed_from (map in_type us) k)
arguments_sources [] s n t k = tt
arguments_sources (u ∷ us) s n t k = (
  types_sources u s (each_first IsNoBreach (types.in_type u s) (each_within (Some (map types.in_type us)) s) n) t.0 k,
  arguments_sources us s (each_last IsNoBreach (types.in_type u s) (each_within (Some (map types.in_type us)) s) n) t.1 (k + (in_type u).size + 1),
)

-- ---- signatures

each_generic : (xs : List TypeParameter) (s : Scope) → NothingBroken (N.each_type_parameter xs s) → Each (λ x. AreNameTokens (type_parameter_tokens x)) xs → (k : ℕ) → EachOf (λ x. IsAnnotationSource x.bound) (listed_from (generics_spans (Some xs)) k)
each_generic [] s n t k = tt
each_generic (x ∷ xs) s n t k =
    let one = each_first IsNoBreach (N.type_parameter s x) (N.each_type_parameter xs s) n in (
      led_source (token.Mark m.Subtype) x.bound s (each_last IsNoBreach (identifier x.name) (N.annotation x.bound s) one) t.0.1 (k + 2),
      each_generic xs s (each_last IsNoBreach (N.type_parameter s x) (N.each_type_parameter xs s) n) t.1 (k + (1 + led_size 1 (annotation x.bound)) + 1),
    )

generics_source : (g : Option (List TypeParameter)) (s : Scope) → NothingBroken (N.type_parameters g s) → AreNameTokens (type_parameters_tokens g) → (k : ℕ) → EachOf (λ x. IsAnnotationSource x.bound) (listed_from (generics_spans g) k)
generics_source None s n t k = tt
generics_source (Some xs) s n t k =
    each_generic xs s (each_first IsNoBreach (N.each_type_parameter xs s) (together (N.names_of_parameters xs)) n)
    (each_separated IsNameToken type_parameter_tokens (token.Mark m.Comma) xs (each_first IsNameToken (commas (map type_parameter_tokens xs)) (token.Mark m.AngleClose ∷ []) t.1)) k

each_parameter : (qs : List Pattern) (s : Scope) → NothingBroken (patterns.each_binder (map patterns.in_pattern qs) s) → Each (λ q. AreNameTokens (pattern_tokens q)) qs → Each IsPatternFrom (map in_pattern qs)
each_parameter [] s n t = tt
each_parameter (q ∷ qs) s n t = (
  patterns_sources q s (each_first IsNoBreach ((patterns.in_pattern q).finds s) (patterns.each_binder (map patterns.in_pattern qs) s) n) t.0,
  each_parameter qs s (each_last IsNoBreach ((patterns.in_pattern q).finds s) (patterns.each_binder (map patterns.in_pattern qs) s) n) t.1,
)

parameters_source : (qs : Parameters) (s : Scope) → NothingBroken ((patterns.in_parameters qs).finds s) → AreNameTokens (parameters_tokens qs) → (k : ℕ) → ArePatternsSource ((in_parameters qs).from k)
parameters_source (parameters.List qs) s n t k =
    listed_patterns (map in_pattern qs) (each_parameter qs s n (each_separated IsNameToken pattern_tokens (token.Mark m.Comma) qs (each_first IsNameToken (commas (map pattern_tokens qs)) (token.Mark m.ParenClose ∷ []) t.1))) (k + 1)
parameters_source (parameters.Single x) s n t k = (tt, tt)

pub signature_of : (g : Option (List TypeParameter)) (qs : Parameters) (u : Option TypeExpression) (equal : Bool) (s : Scope) → NothingBroken (N.header g qs u s) → AreNameTokens (type_parameters_tokens g)
    → AreNameTokens (parameters_tokens qs) → AreNameTokens (writing.annotation (option_map type_tokens u)) → (k : ℕ) → IsSignatureSource ((signature_span g qs u equal).from k)
signature_of g qs u equal s n t v w k =
    let rest = patterns.whole (patterns.in_parameters qs) s ++ N.annotation u s in
    let behind = each_last IsNoBreach (N.type_parameters g s) rest n in
    let whole = each_first IsNoBreach (patterns.whole (patterns.in_parameters qs) s) (N.annotation u s) behind in (
      generics_source g s (each_first IsNoBreach (N.type_parameters g s) rest n) t (k + 1),
      parameters_source qs s (each_first IsNoBreach ((patterns.in_parameters qs).finds s) (together (patterns.in_parameters qs).names) whole) v (k + generics_size g),
      annotation_source u s (each_last IsNoBreach (patterns.whole (patterns.in_parameters qs) s) (N.annotation u s) behind) w (k + generics_size g + (in_parameters qs).size + 1),
    )

pub signature_source : (g : Option (List TypeParameter)) (qs : Parameters) (u : Option TypeExpression) (equal : Bool) (s : Scope) → NothingBroken (N.header g qs u s) → AreNameTokens (type_parameters_tokens g)
    → AreNameTokens (signature (parameters_tokens qs) (option_map type_tokens u) equal) → (k : ℕ) → IsSignatureSource ((signature_span g qs u equal).from k)
signature_source g qs u equal s n t v k =
    let rest = writing.annotation (option_map type_tokens u) ++ marked equal (token.Mark m.EqualSign) in
    signature_of g qs u equal s n t (each_first IsNameToken (parameters_tokens qs) rest v)
    (each_first IsNameToken (writing.annotation (option_map type_tokens u)) (marked equal (token.Mark m.EqualSign)) (each_last IsNameToken (parameters_tokens qs) rest v)) k

-- ---- expressions

pub assigned_source : (o : AssignmentOperator) (k : ℕ) (q a : p.Expression ℕ) → IsSource q → IsSource a → IsSource (p.exp k (assigned o q a))
assigned_source assign.Plain k q a h i = (h, i)
assigned_source o k q a h i = (h, i)

pub operand_source : (f : ExpressionSpan) (head : Option Name) (finds : InScope) (x : Name) (s : Scope) → (NothingBroken (finds s) → (k : ℕ) → IsSource (f.from k)) → AtHead head f → NothingBroken (N.operand head finds x s) → (k : ℕ) → IsSource (f.from k)
operand_source f None finds x s i j n k = i n k
operand_source f (Some y) finds x s i j n k = j k

abbrev pub IsFrom : ExpressionSpan → Type 0
IsFrom f = (k : ℕ) → IsSource (f.from k)

pub each_sources : (xs : List Expression) → Each C.of_Expression xs → (s : Scope) → NothingBroken (N.each_whole (map N.in_expression xs) s) → Each (λ x. AreNameTokens (expression_tokens x)) xs → Each IsFrom (map in_expression xs)
each_sources [] i s n t = tt
each_sources (x ∷ xs) i s n t =
    (i.0.0 s (each_first IsNoBreach ((N.in_expression x).finds s) (N.each_whole (map N.in_expression xs) s) n) t.0, each_sources xs i.1 s (each_last IsNoBreach ((N.in_expression x).finds s) (N.each_whole (map N.in_expression xs) s) n) t.1)

pub expressions_sources : (fs : List ExpressionSpan) → Each IsFrom fs → (k : ℕ) → EachIsSource (items_at fs k)
expressions_sources [] h k = tt
expressions_sources (f ∷ fs) h k = (h.0 k, expressions_sources fs h.1 (k + f.size + 1))

two_not_one : (n : ℕ) → suc (suc n) ≡ 1 → ⊥
two_not_one n e = omega arith

pub parenthesized_source : (fs : List ExpressionSpan) → Each IsFrom fs → (k : ℕ) → IsSource (parenthesized fs k)
parenthesized_source [] h k = (tt, λ e. cc)
parenthesized_source (f ∷ []) h k = h.0 (k + 1)
parenthesized_source (f ∷ g ∷ rest) h k = (expressions_sources (f ∷ g ∷ rest) h (k + 1), λ e. two_not_one (count (items_at rest (k + 1 + f.size + 1 + g.size + 1))) e)

pub cases_sources : (xs : List Case) → Each C.of_Case xs → (s : Scope) → NothingBroken (each (map N.in_case xs) s) → Each (λ x. AreNameTokens (case_tokens x)) xs → (k : ℕ) → CasesAreSource (cases (listed_from (map in_case xs) k))
cases_sources [] i s n t k = tt
cases_sources (x ∷ xs) i s n t k =
    i.0 s (each_first IsNoBreach (N.in_case x s) (each (map N.in_case xs) s) n) t.0 k (cases (listed_from (map in_case xs) (k + (in_case x).size + 1)))
    (cases_sources xs i.1 s (each_last IsNoBreach (N.in_case x s) (each (map N.in_case xs) s) n) t.1 (k + (in_case x).size + 1))

each_field_source : (xs : List ExpressionField) → Each C.of_ExpressionField xs → (s : Scope) → NothingBroken (types.each_entry (map N.in_field xs) s) → Each (λ x. AreNameTokens (expression_field_tokens x)) xs → (k : ℕ)
    → FieldsAreSource (object_fields (listed_from (map in_object_field xs) k)) × (labels_in (object_fields (listed_from (map in_object_field xs) k)) ≡ texts (types.names_of (map N.in_field xs)))
each_field_source [] i s n t k = (tt, refl)
each_field_source (x ∷ xs) i s n t k =
    let r = each_field_source xs i.1 s (each_last IsNoBreach ((N.in_field x).finds s) (types.each_entry (map N.in_field xs) s) n) t.1 (k + (in_object_field x).size + 1) in
    let q = i.0 s (each_first IsNoBreach ((N.in_field x).finds s) (types.each_entry (map N.in_field xs) s) n) t.0 k (object_fields (listed_from (map in_object_field xs) (k + (in_object_field x).size + 1))) in
    (q.0 r.0, q.1 ∙ ap (λ ls. (N.in_field x).name.bytes ∷ ls) r.1)

pub fields_sources : (xs : List ExpressionField) → Each C.of_ExpressionField xs → (s : Scope) → NothingBroken (types.each_entry (map N.in_field xs) s) → NothingBroken (labels (types.names_of (map N.in_field xs)))
    → Each (λ x. AreNameTokens (expression_field_tokens x)) xs → (k : ℕ) → FieldsAreSource (object_fields (listed_from (map in_object_field xs) k)) × DifferAsLabels (labels_in (object_fields (listed_from (map in_object_field xs) k)))
fields_sources xs i s n l t k =
    let r = each_field_source xs i s n t k in
    (r.0, subst (λ z. DifferAsLabels z) (sym r.1) (labels_differ (types.names_of (map N.in_field xs)) l))

-- ---- lists of declarations

pub block_source : (xs : List Declaration) → Each C.of_Declaration xs → (s : Scope) → NothingBroken (N.each_declared (map N.in_declaration xs) s) → Each (λ x. AreNameTokens (declaration_tokens x)) xs → (k : ℕ) → AreSource (declarations (map in_declaration xs) k)
block_source [] i s n t k = tt
block_source (x ∷ xs) i s n t k = (
  i.0.0 s (each_first IsNoBreach ((N.in_declaration x).finds s) (N.each_declared (map N.in_declaration xs) s) n) t.0 k,
  block_source xs i.1 s (each_last IsNoBreach ((N.in_declaration x).finds s) (N.each_declared (map N.in_declaration xs) s) n) t.1 (k + (in_declaration x).size + 1),
)

shown_first : (b : Bool) (n : ℕ) (d : p.Declaration ℕ) (rest : p.Declarations ℕ) → shown b d ++ public_labels rest ≡ public_labels (p.Then b n d rest)
shown_first true n d rest = refl
shown_first false n d rest = refl

each_member_source : (xs : List DeclarationField) → Each C.of_DeclarationField xs → (s : Scope) → NothingBroken (N.each_member (map N.in_member xs) s) → Each (λ x. AreNameTokens (declaration_field_tokens x)) xs → (k : ℕ)
    → AreSource (members (map in_member xs) k) × Covers (public_labels (members (map in_member xs) k)) (N.public_names (map N.in_member xs))
each_member_source [] i s n t k = (tt, Done)
each_member_source (x ∷ xs) i s n t k =
    let r = each_member_source xs i.1 s (each_last IsNoBreach ((N.in_member x).finds s) (N.each_member (map N.in_member xs) s) n) t.1 (k + (in_member x).size + 1) in (
      (i.0.0 s (each_first IsNoBreach ((N.in_member x).finds s) (N.each_member (map N.in_member xs) s) n) t.0 k, r.0),
      subst (λ z. Covers z ((N.in_member x).public ++ N.public_names (map N.in_member xs))) (shown_first ((in_member x).from k).0 k ((in_member x).from k).1 (members (map in_member xs) (k + (in_member x).size + 1)))
          (covers_both (i.0.1 k) r.1),
    )

pub object_source : (xs : List DeclarationField) → Each C.of_DeclarationField xs → (s : Scope) → NothingBroken (N.object (map N.in_member xs) s) → Each (λ x. AreNameTokens (declaration_field_tokens x)) xs → (k : ℕ)
    → AreSource (members (map in_member xs) k) × DifferAsLabels (public_labels (members (map in_member xs) k))
object_source xs i s n t k =
    let ms = map N.in_member xs in
    let names = each_first IsNoBreach (N.object_names ms) (N.each_member ms (N.object_scope ms s)) n in
    let more = together (N.member_types ms) ++ (each_label (N.public_names ms) ++ labels (N.public_names ms)) in
    let clear = each_last IsNoBreach (each_label (N.public_names ms)) (labels (N.public_names ms))
    (each_last IsNoBreach (together (N.member_types ms)) (each_label (N.public_names ms) ++ labels (N.public_names ms)) (each_last IsNoBreach (together (N.member_values ms)) more names)) in
    let r = each_member_source xs i (N.object_scope ms s) (each_last IsNoBreach (N.object_names ms) (N.each_member ms (N.object_scope ms s)) n) t k in
    (r.0, covered_differ r.1 (labels_differ (N.public_names ms) clear))
