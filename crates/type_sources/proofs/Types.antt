-- Types, part by part.
use Rattle.std.proofs.Common.{◌≡◌, ℕ, suc, ◌+◌, Bool, List, [], ◌∷◌, ◌++◌, map, Option, Some, None, refl, sym, subst, arith}
use Rattle.mo_scopes.specs.declared.scope.Scope.{Scope}
use Rattle.mo_scopes.specs.Findings.{identifier, label, used, together, labels, each_within}
use Rattle.mo_scopes.specs.Scopes.{type_meaning}
use Rattle.mo_pattern_names.specs.TypeNames.{Entry, names_of, each_entry, members, item_names, each_item}
use Rattle.mo_pattern_names.specs.TypeNames as N
use Rattle.mo_syntax.specs.declared.name.Name.{Name}
use Rattle.mo_syntax.specs.declared.token.TokenKind.TheVariants as token
use Rattle.mo_syntax.specs.declared.mark.Mark.TheVariants as m
use Rattle.mo_syntax.specs.declared.word.Word.TheVariants as w
use Rattle.mo_syntax.specs.declared.types.Sharing.{Sharing}
use Rattle.mo_syntax.specs.declared.types.TypeExpression.{TypeExpression}
use Rattle.mo_syntax.specs.declared.types.TypeExpression.TheVariants as e
use Rattle.mo_syntax.specs.declared.types.TypeField.{TypeField, roll-TypeField}
use Rattle.mo_syntax.specs.declared.types.TypeItem.{TypeItem, roll-TypeItem}
use Rattle.mo_syntax.specs.declared.types.TypeMethod.{TypeMethod, roll-TypeMethod}
use Rattle.mo_syntax.specs.declared.types.TypeTag.{TypeTag, roll-TypeTag}
use Rattle.mo_syntax.specs.Parts.{Each, Within, EachWithin}
use Rattle.mo_syntax.specs.TypeGrammar.{sharing_tokens, item_name, type_tokens, type_field_tokens, type_item_tokens, type_method_tokens, type_tag_tokens}
use Rattle.mo_syntax.specs.Writing.{Writing, marked, separated, semicolons, commas, parens, brackets, braces, angles, annotation}
use Rattle.mo_syntax.proofs.TypeEquations as W
use Rattle.mo_syntax.proofs.TypeInduction.{Claims, Cases, holds_TypeExpression}
use Rattle.typing_rules.specs.AbstractSyntax.{TypeNode, TypeFields}
use Rattle.typing_rules.specs.AbstractSyntax as p
use Rattle.typing_rules.specs.AbstractTypes.{TypeSpan, FieldSpan, type_nodes, type_span_of, parameter_nodes, in_parentheses, sharing_size, type_fields, item_size, type_span, in_type_field, in_type_item, in_type_method, in_type_tag}
use Rattle.typing_rules.specs.Spans.{Span, flag, listed_from}
use Rattle.typing_rules.specs.Types.{count_types}
use Rattle.typing_rules.proofs.TypeSpans as S
use Rattle.proper_laws.specs.Source.{labels_of, AreTags, AreMethods, IsTypeSource, AreTypesSource, AreFieldsSource, DifferAsLabels}
use Rattle.type_sources.specs.Laws.{TypesAreSources}
use Rattle.type_sources.specs.Shown.{IsNoBreach, NothingBroken, IsNameToken, AreNameTokens}
use Rattle.type_sources.proofs.Labels.{texts, labels_differ}
use Rattle.type_sources.proofs.Splitting.{each_first, each_last, each_flat, each_separated}
use Rattle.type_sources.proofs.TypeNames as F

-- ---- types one after the other

abbrev pub IsFrom : Span TypeNode → Type 0
IsFrom a = (k : ℕ) → IsTypeSource (a.from k)

pub listed_sources : (ts : List (Span TypeNode)) → Each IsFrom ts → (k : ℕ) → AreTypesSource (type_nodes (listed_from ts k))
listed_sources [] h k = tt
listed_sources (a ∷ rest) h k = (h.0 k, listed_sources rest h.1 (k + a.size + 1))

abbrev AreItems : Option (List (Span TypeNode)) → Type 0
AreItems None = Unit {0}
AreItems (Some items) = Each IsFrom items

-- a type, and its items where it is in parentheses
abbrev pub IsSpanSource : TypeSpan → Type 0
IsSpanSource a = ((k : ℕ) → IsTypeSource (a.from k)) × AreItems a.items

parameters_of : (size : ℕ) (from : ℕ → TypeNode) (items : Option (List (Span TypeNode))) → ((k : ℕ) → IsTypeSource (from k)) → AreItems items → (k : ℕ) → AreTypesSource (parameter_nodes (record { size = size; from = from; items = items }) k)
parameters_of size from None h i k = (h k, tt)
parameters_of size from (Some items) h i k = listed_sources items i (k + 1)

parameters_sources : (a : TypeSpan) → IsSpanSource a → (k : ℕ) → AreTypesSource (parameter_nodes a k)
parameters_sources a h k = parameters_of a.size a.from a.items h.0 h.1 k

two_not_one : (n : ℕ) → suc (suc n) ≡ 1 → ⊥
two_not_one n e = omega arith

in_parentheses_source : (ts : List (Span TypeNode)) → Each IsFrom ts → (k : ℕ) → IsTypeSource (in_parentheses ts k)
in_parentheses_source [] h k = (tt, λ e. cc)
in_parentheses_source (a ∷ []) h k = h.0 (k + 1)
in_parentheses_source (a ∷ b ∷ rest) h k =
    (listed_sources (a ∷ b ∷ rest) h (k + 1), λ e. two_not_one (count_types (type_nodes (listed_from rest (k + 1 + a.size + 1 + b.size + 1)))) e)

each_from : (xs : List TypeExpression) → Each (λ x. IsSpanSource (type_span x)) xs → Each IsFrom (map type_span_of (map type_span xs))
each_from [] h = tt
each_from (x ∷ xs) h = (h.0.0, each_from xs h.1)

-- ---- fields, tags and methods

module _ {X : Type 0} (f : X → FieldSpan) (g : X → Entry) (h : X → Writing) (Extra : TypeFields → Type 0) (none : Extra p.NoFields) where
  abbrev pub IsEntry : X → Type 0
  IsEntry x =
      (s : Scope) → NothingBroken ((g x).finds s) → AreNameTokens (h x) → (k : ℕ) (rest : TypeFields)
      → (AreFieldsSource rest → AreFieldsSource ((f x).from k rest)) × (labels_of ((f x).from k rest) ≡ (g x).name.bytes ∷ labels_of rest) × (Extra rest → Extra ((f x).from k rest))

  entries : (xs : List X) → Each IsEntry xs → (s : Scope) → Each (λ x. NothingBroken ((g x).finds s)) xs → Each (λ x. AreNameTokens (h x)) xs → (k : ℕ)
      → AreFieldsSource (type_fields (listed_from (map f xs) k)) × (labels_of (type_fields (listed_from (map f xs) k)) ≡ texts (names_of (map g xs))) × Extra (type_fields (listed_from (map f xs) k))
  entries [] i s b t k = (tt, refl, none)
  entries (x ∷ xs) i s b t k =
      let r = entries xs i.1 s b.1 t.1 (k + (f x).size + 1) in
      let q = i.0 s b.0 t.0 k (type_fields (listed_from (map f xs) (k + (f x).size + 1))) in
      (q.0 r.0, subst (λ ls. labels_of ((f x).from k (type_fields (listed_from (map f xs) (k + (f x).size + 1)))) ≡ (g x).name.bytes ∷ ls) r.1 q.1, q.2 r.2)

  each_finds : (xs : List X) (s : Scope) → Each (λ y. NothingBroken (y.finds s)) (map g xs) → Each (λ x. NothingBroken ((g x).finds s)) xs
  each_finds [] s b = tt
  each_finds (x ∷ xs) s b = (b.0, each_finds xs s b.1)

  -- whole types of such
  pub members_source : (xs : List X) → Each IsEntry xs → (s : Scope) → NothingBroken (members (map g xs) s) → AreNameTokens (separated (token.Mark m.Semicolon) (map h xs)) → (k : ℕ)
      → AreFieldsSource (type_fields (listed_from (map f xs) k)) × DifferAsLabels (labels_of (type_fields (listed_from (map f xs) k))) × Extra (type_fields (listed_from (map f xs) k))
  members_source xs i s b t k =
      let es = map g xs in
      let finds = each_first IsNoBreach (each_entry es s) (together (names_of es) ++ labels (names_of es)) b in
      let clear = each_last IsNoBreach (together (names_of es)) (labels (names_of es)) (each_last IsNoBreach (each_entry es s) (together (names_of es) ++ labels (names_of es)) b) in
      let r = entries xs i s (each_finds xs s (each_flat IsNoBreach (λ y. y.finds s) es finds)) (each_separated IsNameToken h (token.Mark m.Semicolon) xs t) k in
      (r.0, subst (λ ls. DifferAsLabels ls) (sym r.1) (labels_differ (names_of es) clear), r.2)

-- ---- by cases

abbrev Nothing : TypeFields → Type 0
Nothing fs = Unit {0}

abbrev claims : Claims
claims = record {
  of_TypeExpression = λ x. (s : Scope) → NothingBroken (N.in_type x s) → AreNameTokens (type_tokens x) → IsSpanSource (type_span x);
  of_TypeField = λ x. IsEntry in_type_field N.in_type_field type_field_tokens Nothing tt x;
  of_TypeItem = λ x. (s : Scope) → NothingBroken ((N.in_type_item x).finds s) → AreNameTokens (type_item_tokens x) → IsFrom (in_type_item x);
  of_TypeMethod = λ x. IsEntry in_type_method N.in_type_method type_method_tokens AreMethods tt x;
  of_TypeTag = λ x. IsEntry in_type_tag N.in_type_tag type_tag_tokens AreTags tt x;
}

of_Function : (o : Sharing) (a b : TypeExpression) → claims.of_TypeExpression a → claims.of_TypeExpression b → claims.of_TypeExpression (e.Function o a b)
of_Function o a b i j s n t =
    let n' : NothingBroken (N.in_type a s ++ N.in_type b s) = subst (λ z. NothingBroken (z s)) (F.found_Function o a b) n in
    let first = sharing_tokens o ++ type_tokens a in
    let last = token.Mark m.Arrow ∷ type_tokens b in
    let t' : AreNameTokens (first ++ last) = subst AreNameTokens (W.tokens_Function o a b) t in
    let x = i s (each_first IsNoBreach (N.in_type a s) (N.in_type b s) n') (each_last IsNameToken (sharing_tokens o) (type_tokens a) (each_first IsNameToken first last t')) in
    let y = j s (each_last IsNoBreach (N.in_type a s) (N.in_type b s) n') (each_last IsNameToken first last t').1 in
    subst IsSpanSource (sym (S.seen_Function o a b))
    (λ k. (parameters_sources (type_span a) x (k + sharing_size o), y.0 (k + sharing_size o + (type_span a).size + 1)), tt)

of_Optional : (a : TypeExpression) → claims.of_TypeExpression a → claims.of_TypeExpression (e.Optional a)
of_Optional a i s n t =
    let t' : AreNameTokens (token.Mark m.Question ∷ type_tokens a) = subst AreNameTokens (W.tokens_Optional a) t in
    let x = i s (subst (λ z. NothingBroken (z s)) (F.found_Optional a) n) t'.1 in
    subst IsSpanSource (sym (S.seen_Optional a)) (λ k. x.0 (k + 1), tt)

of_Async : (a : TypeExpression) → claims.of_TypeExpression a → claims.of_TypeExpression (e.Async a)
of_Async a i s n t =
    let t' : AreNameTokens (token.Reserved w.Async ∷ type_tokens a) = subst AreNameTokens (W.tokens_Async a) t in
    let x = i s (subst (λ z. NothingBroken (z s)) (F.found_Async a) n) t'.1 in
    subst IsSpanSource (sym (S.seen_Async a)) (λ k. x.0 (k + 1), tt)

each_argument : (xs : List TypeExpression) → Each claims.of_TypeExpression xs → (s : Scope) → NothingBroken (each_within (Some (map N.in_type xs)) s) → Each (λ x. AreNameTokens (type_tokens x)) xs → Each (λ x. IsSpanSource (type_span x)) xs
each_argument [] i s n t = tt
each_argument (x ∷ xs) i s n t =
    (i.0 s (each_first IsNoBreach (N.in_type x s) (each_within (Some (map N.in_type xs)) s) n) t.0, each_argument xs i.1 s (each_last IsNoBreach (N.in_type x s) (each_within (Some (map N.in_type xs)) s) n) t.1)

of_Named : (x : Name) (xs : Option (List TypeExpression)) → EachWithin claims.of_TypeExpression xs → claims.of_TypeExpression (e.Named x xs)
of_Named x None i s n t = subst IsSpanSource (sym (S.seen_Named x None)) (λ k. tt, tt)
of_Named x (Some xs) i s n t =
    let meaning = used (type_meaning s x.bytes) x in
    let arguments = each_within (Some (map N.in_type xs)) s in
    let n' : NothingBroken (identifier x ++ (meaning ++ arguments)) = subst (λ z. NothingBroken (z s)) (F.found_Named x (Some xs)) n in
    let t' : AreNameTokens (token.Identifier x ∷ angles (Some (map type_tokens xs))) = subst AreNameTokens (W.tokens_Named x (Some xs)) t in
    let u : AreNameTokens (commas (map type_tokens xs)) = each_first IsNameToken (commas (map type_tokens xs)) (token.Mark m.AngleClose ∷ []) t'.1.1 in
    let y = each_argument xs i s (each_last IsNoBreach meaning arguments (each_last IsNoBreach (identifier x) (meaning ++ arguments) n')) (each_separated IsNameToken type_tokens (token.Mark m.Comma) xs u) in
    subst IsSpanSource (sym (S.seen_Named x (Some xs))) (λ k. listed_sources (map type_span_of (map type_span xs)) (each_from xs y) (k + 1 + 1), tt)

each_item_source : (xs : List TypeItem) → Each claims.of_TypeItem xs → (s : Scope) → NothingBroken (each_item (map N.in_type_item xs) s) → Each (λ x. AreNameTokens (type_item_tokens x)) xs → Each IsFrom (map in_type_item xs)
each_item_source [] i s n t = tt
each_item_source (x ∷ xs) i s n t =
    (i.0 s (each_first IsNoBreach ((N.in_type_item x).finds s) (each_item (map N.in_type_item xs) s) n) t.0, each_item_source xs i.1 s (each_last IsNoBreach ((N.in_type_item x).finds s) (each_item (map N.in_type_item xs) s) n) t.1)

of_Parenthesized : (xs : List TypeItem) → Each claims.of_TypeItem xs → claims.of_TypeExpression (e.Parenthesized xs)
of_Parenthesized xs i s n t =
    let is = map N.in_type_item xs in
    let n' : NothingBroken (each_item is s ++ together (item_names is)) = subst (λ z. NothingBroken (z s)) (F.found_Parenthesized xs) n in
    let t' : AreNameTokens (parens (commas (map type_item_tokens xs))) = subst AreNameTokens (W.tokens_Parenthesized xs) t in
    let u : AreNameTokens (commas (map type_item_tokens xs)) = each_first IsNameToken (commas (map type_item_tokens xs)) (token.Mark m.ParenClose ∷ []) t'.1 in
    let y = each_item_source xs i s (each_first IsNoBreach (each_item is s) (together (item_names is)) n') (each_separated IsNameToken type_item_tokens (token.Mark m.Comma) xs u) in
    subst IsSpanSource (sym (S.seen_Parenthesized xs)) (in_parentheses_source (map in_type_item xs) y, y)

of_Array : (b : Bool) (a : TypeExpression) → claims.of_TypeExpression a → claims.of_TypeExpression (e.Array b a)
of_Array b a i s n t =
    let marks = marked b (token.Reserved w.Var) in
    let t' : AreNameTokens (brackets (marks ++ type_tokens a)) = subst AreNameTokens (W.tokens_Array b a) t in
    let u : AreNameTokens (marks ++ type_tokens a) = each_first IsNameToken (marks ++ type_tokens a) (token.Mark m.BracketClose ∷ []) t'.1 in
    let x = i s (subst (λ z. NothingBroken (z s)) (F.found_Array b a) n) (each_last IsNameToken marks (type_tokens a) u) in
    subst IsSpanSource (sym (S.seen_Array b a)) (λ k. x.0 (k + 1 + flag b), tt)

of_Object : (word : Bool) (xs : List TypeField) (last : Bool) → Each claims.of_TypeField xs → claims.of_TypeExpression (e.Object word xs last)
of_Object word xs last i s n t =
    let marks = marked word (token.Reserved w.Object) in
    let fields = semicolons (map type_field_tokens xs) last in
    let t' : AreNameTokens (marks ++ braces fields) = subst AreNameTokens (W.tokens_Object word xs last) t in
    let u : AreNameTokens fields = each_first IsNameToken fields (token.Mark m.BraceClose ∷ []) (each_last IsNameToken marks (braces fields) t').1 in
    let v : AreNameTokens (separated (token.Mark m.Semicolon) (map type_field_tokens xs)) = each_first IsNameToken (separated (token.Mark m.Semicolon) (map type_field_tokens xs)) (marked last (token.Mark m.Semicolon)) u in
    subst IsSpanSource (sym (S.seen_Object word xs last))
    (λ k. (let r = members_source in_type_field N.in_type_field type_field_tokens Nothing tt xs i s (subst (λ z. NothingBroken (z s)) (F.found_Object word xs last) n) v (k + flag word + 1) in (r.0, r.1)), tt)

of_EmptyVariant : claims.of_TypeExpression e.EmptyVariant
of_EmptyVariant s n t = subst IsSpanSource (sym S.seen_EmptyVariant) (λ k. (tt, tt, tt), tt)

of_Variant : (xs : List TypeTag) (last : Bool) → Each claims.of_TypeTag xs → claims.of_TypeExpression (e.Variant xs last)
of_Variant xs last i s n t =
    let tags = semicolons (map type_tag_tokens xs) last in
    let t' : AreNameTokens (braces tags) = subst AreNameTokens (W.tokens_Variant xs last) t in
    let u : AreNameTokens tags = each_first IsNameToken tags (token.Mark m.BraceClose ∷ []) t'.1 in
    let v : AreNameTokens (separated (token.Mark m.Semicolon) (map type_tag_tokens xs)) = each_first IsNameToken (separated (token.Mark m.Semicolon) (map type_tag_tokens xs)) (marked last (token.Mark m.Semicolon)) u in
    subst IsSpanSource (sym (S.seen_Variant xs last)) (λ k. members_source in_type_tag N.in_type_tag type_tag_tokens AreTags tt xs i s (subst (λ z. NothingBroken (z s)) (F.found_Variant xs last) n) v (k + 1), tt)

of_Actor : (xs : List TypeMethod) (last : Bool) → Each claims.of_TypeMethod xs → claims.of_TypeExpression (e.Actor xs last)
of_Actor xs last i s n t =
    let methods = semicolons (map type_method_tokens xs) last in
    let t' : AreNameTokens (token.Reserved w.Actor ∷ braces methods) = subst AreNameTokens (W.tokens_Actor xs last) t in
    let u : AreNameTokens methods = each_first IsNameToken methods (token.Mark m.BraceClose ∷ []) t'.1.1 in
    let v : AreNameTokens (separated (token.Mark m.Semicolon) (map type_method_tokens xs)) = each_first IsNameToken (separated (token.Mark m.Semicolon) (map type_method_tokens xs)) (marked last (token.Mark m.Semicolon)) u in
    subst IsSpanSource (sym (S.seen_Actor xs last)) (λ k. members_source in_type_method N.in_type_method type_method_tokens AreMethods tt xs i s (subst (λ z. NothingBroken (z s)) (F.found_Actor xs last) n) v (k + 2), tt)

-- ---- parts with labels

-- by what is seen, found and written
abbrev IsEntryOf : (TypeFields → Type 0) → FieldSpan → Entry → Writing → Type 0
IsEntryOf Extra f g h =
    (s : Scope) → NothingBroken (g.finds s) → AreNameTokens h → (k : ℕ) (rest : TypeFields)
    → (AreFieldsSource rest → AreFieldsSource (f.from k rest)) × (labels_of (f.from k rest) ≡ g.name.bytes ∷ labels_of rest) × (Extra rest → Extra (f.from k rest))

as_entry : (Extra : TypeFields → Type 0) (f f' : FieldSpan) (g g' : Entry) (h h' : Writing) → f ≡ f' → g ≡ g' → h ≡ h' → IsEntryOf Extra f' g' h' → IsEntryOf Extra f g h
as_entry Extra f f' g g' h h' i j k r = subst (λ z. IsEntryOf Extra z g h) (sym i) (subst (λ z. IsEntryOf Extra f' z h) (sym j) (subst (λ z. IsEntryOf Extra f' g' z) (sym k) r))

of_TypeField : (b : Bool) (x : Name) (a : TypeExpression) → claims.of_TypeExpression a → claims.of_TypeField (roll-TypeField (record { mutable = b; name = x; annotation = a }))
of_TypeField b x a i =
    as_entry Nothing _ _ _ _ _ _ (S.seen_TypeField b x a) (F.found_TypeField b x a) (W.tokens_TypeField b x a) (λ s n t k rest.
    let u : AreNameTokens (token.Identifier x ∷ token.Mark m.Colon ∷ type_tokens a) = each_last IsNameToken (marked b (token.Reserved w.Var)) (token.Identifier x ∷ token.Mark m.Colon ∷ type_tokens a) t in
    let y = i s (each_last IsNoBreach (label x) (N.in_type a s) n) u.1.1 in
    (λ q. (y.0 (k + flag b + 2), q), refl, λ q. tt))

of_TypeItem : (x : Option Name) (a : TypeExpression) → claims.of_TypeExpression a → claims.of_TypeItem (roll-TypeItem (record { name = x; annotation = a }))
of_TypeItem x a i s n t =
    let n' : NothingBroken (N.item_identifier x ++ N.in_type a s) = subst (λ z. NothingBroken (z.finds s)) (F.found_TypeItem x a) n in
    let t' : AreNameTokens (item_name x ++ type_tokens a) = subst AreNameTokens (W.tokens_TypeItem x a) t in
    let y = i s (each_last IsNoBreach (N.item_identifier x) (N.in_type a s) n') (each_last IsNameToken (item_name x) (type_tokens a) t') in
    subst IsFrom (sym (S.seen_TypeItem x a)) (λ k. y.0 (k + item_size x))

of_TypeMethod : (x : Name) (a : TypeExpression) → claims.of_TypeExpression a → claims.of_TypeMethod (roll-TypeMethod (record { name = x; annotation = a }))
of_TypeMethod x a i =
    as_entry AreMethods _ _ _ _ _ _ (S.seen_TypeMethod x a) (F.found_TypeMethod x a) (W.tokens_TypeMethod x a) (λ s n t k rest.
    let y = i s (each_last IsNoBreach (label x) (N.in_type a s) n) t.1.1 in
    (λ q. (y.0 (k + 2), q), refl, λ q. (refl, t.0, q)))

of_TypeTag : (x : Name) (a : Option TypeExpression) → Within claims.of_TypeExpression a → claims.of_TypeTag (roll-TypeTag (record { name = x; payload = a }))
of_TypeTag x None i = as_entry AreTags _ _ _ _ _ _ (S.seen_TypeTag x None) (F.found_TypeTag x None) (W.tokens_TypeTag x None) (λ s n t k rest. (λ q. q, refl, λ q. q))
of_TypeTag x (Some a) i =
    as_entry AreTags _ _ _ _ _ _ (S.seen_TypeTag x (Some a)) (F.found_TypeTag x (Some a)) (W.tokens_TypeTag x (Some a)) (λ s n t k rest.
    let y = i s (each_last IsNoBreach (label x) (N.in_type a s) n) t.1.1.1 in
    (λ q. (y.0 (k + 3), q), refl, λ q. (refl, q)))

cases : Cases claims
cases = record {
  Function = of_Function;
  Optional = of_Optional;
  Async = of_Async;
  Named = of_Named;
  Parenthesized = of_Parenthesized;
  Array = of_Array;
  Object = of_Object;
  EmptyVariant = of_EmptyVariant;
  Variant = of_Variant;
  Actor = of_Actor;
  TypeField_ = of_TypeField;
  TypeItem_ = of_TypeItem;
  TypeMethod_ = of_TypeMethod;
  TypeTag_ = of_TypeTag;
}

pub types_sources : TypesAreSources
types_sources a s n t k = (holds_TypeExpression claims cases a s n t).0 k
