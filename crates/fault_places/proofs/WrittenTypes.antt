-- A written type whose tokens are below a bound has only numbers below it.
use Rattle.std.proofs.Common.{◌≡◌, ◌<◌, ◌≤◌, ◌+◌, ℕ, Bool, List, [], ◌∷◌, map, Option, Some, None, subst, sym, arith}
use Rattle.mo_syntax.specs.declared.name.Name.{Name}
use Rattle.mo_syntax.specs.declared.types.Sharing.{Sharing}
use Rattle.mo_syntax.specs.declared.types.TypeExpression.{TypeExpression}
use Rattle.mo_syntax.specs.declared.types.TypeExpression.TheVariants as e
use Rattle.mo_syntax.specs.declared.types.TypeExpression.TheOpen as T
use Rattle.mo_syntax.specs.declared.types.TypeField.{TypeField, roll-TypeField}
use Rattle.mo_syntax.specs.declared.types.TypeItem.{TypeItem, roll-TypeItem}
use Rattle.mo_syntax.specs.declared.types.TypeMethod.{TypeMethod, roll-TypeMethod}
use Rattle.mo_syntax.specs.declared.types.TypeTag.{TypeTag, roll-TypeTag}
use Rattle.mo_syntax.specs.declared.types.TypeParameter.{TypeParameter}
use Rattle.mo_syntax.specs.Parts.{Each, Within, EachWithin}
use Rattle.mo_syntax.proofs.TypeInduction.{Claims, Cases, holds_TypeExpression}
use Rattle.typing_rules.specs.AbstractSyntax.{TypeNode, TypeFields}
use Rattle.typing_rules.specs.Spans.{Span, flag, led, at_led, listed_from, listed_size}
use Rattle.typing_rules.specs.AbstractTypes.{TypeSpan, type_nodes, type_span_of, only_type, parameter_nodes, in_parentheses, sharing_size, type_fields, item_size, type_step, type_span, in_type_field, in_type_item, in_type_method, in_type_tag, in_type, annotation, written_parameter, generics_spans, generics_size}
use Rattle.typing_rules.proofs.TypeSpans as S
use Rattle.fault_places.specs.Numbers.{TypeBelow, TypesBelow, TypeFieldsBelow, ParameterBelow}

module _ (n : ℕ) where
  -- Where the tokens of a part are below the bound, its first one is, and what it is has Q.
  abbrev pub Fits : {A : Type 0} → (A → Type 0) → Span A → Type 0
  Fits Q s = (k : ℕ) → k + s.size ≤ n → (k < n) × Q (s.from k)

  pub each_fits : {A : Type 0} (P : A → Type 0) → ((x : A) → P x) → (xs : List A) → Each P xs
  each_fits P h [] = tt
  each_fits P h (x ∷ xs) = (h x, each_fits P h xs)

  module _ {X A : Type 0} (Q : A → Type 0) (f : X → Span A) where
    pub listed_fits : (xs : List X) → Each (λ x. Fits Q (f x)) xs → (k : ℕ) → k + listed_size (map f xs) ≤ n → Each Q (listed_from (map f xs) k)
    listed_fits [] h k l = tt
    listed_fits (x ∷ []) h k l = ((h.0 k l).1, tt)
    listed_fits (x ∷ y ∷ rest) h k l =
        let i : k + ((f x).size + 1 + listed_size (map f (y ∷ rest))) ≤ n = l in
        ((h.0 k (omega arith)).1, listed_fits (y ∷ rest) h.1 (k + (f x).size + 1) (omega arith))

  -- what puts fields before others
  abbrev FieldFits : (TypeFields → TypeFields) → Type 0
  FieldFits f = (rest : TypeFields) → TypeFieldsBelow n rest → TypeFieldsBelow n (f rest)

  -- a type, and the parameters that it is before `->`
  abbrev TypeFits : TypeSpan → Type 0
  TypeFits s = (k : ℕ) → k + s.size ≤ n → (k < n) × TypeBelow n (s.from k) × TypesBelow n (parameter_nodes s k)

  abbrev claims : Claims
  claims = record {
    of_TypeExpression = λ x. TypeFits (type_span x);
    of_TypeField = λ x. Fits FieldFits (in_type_field x);
    of_TypeItem = λ x. Fits (TypeBelow n) (in_type_item x);
    of_TypeMethod = λ x. Fits FieldFits (in_type_method x);
    of_TypeTag = λ x. Fits FieldFits (in_type_tag x);
  }

  nodes_below : (xs : List TypeNode) → Each (TypeBelow n) xs → TypesBelow n (type_nodes xs)
  nodes_below [] h = tt
  nodes_below (x ∷ xs) h = (h.0, nodes_below xs h.1)

  listed_nodes : {X : Type 0} (f : X → Span TypeNode) (xs : List X) → Each (λ x. Fits (TypeBelow n) (f x)) xs → (k : ℕ) → k + listed_size (map f xs) ≤ n → TypesBelow n (type_nodes (listed_from (map f xs) k))
  listed_nodes f xs h k l = nodes_below (listed_from (map f xs) k) (listed_fits (TypeBelow n) f xs h k l)

  fields_below : (fs : List (TypeFields → TypeFields)) → Each FieldFits fs → TypeFieldsBelow n (type_fields fs)
  fields_below [] h = tt
  fields_below (f ∷ fs) h = h.0 (type_fields fs) (fields_below fs h.1)

  listed_fields : {X : Type 0} (f : X → Span (TypeFields → TypeFields)) (xs : List X) → Each (λ x. Fits FieldFits (f x)) xs → (k : ℕ) → k + listed_size (map f xs) ≤ n → TypeFieldsBelow n (type_fields (listed_from (map f xs) k))
  listed_fields f xs h k l = fields_below (listed_from (map f xs) k) (listed_fits FieldFits f xs h k l)

  -- a type that is no list of parameters
  only : (s : TypeSpan) → Fits (TypeBelow n) (type_span_of s) → TypeFits (only_type s.size s.from)
  only s h = λ k l. ((h k l).0, (h k l).1, ((h k l).1, tt))

  -- a node with what stands in it
  seen : (s t : TypeSpan) → s ≡ t → TypeFits t → TypeFits s
  seen s t q h = subst (λ x. TypeFits x) (sym q) h

  of_Function : (s : Sharing) (a b : TypeExpression) → claims.of_TypeExpression a → claims.of_TypeExpression b → claims.of_TypeExpression (e.Function s a b)
  of_Function s a b h g = seen _ _ (S.seen_Function s a b) (only (type_step (T.Function s (type_span a) (type_span b))) (λ k l.
      let i : k + (sharing_size s + (type_span a).size + 1 + (type_span b).size) ≤ n = l in
      (omega arith, (omega arith, ((h (k + sharing_size s) (omega arith)).2, (g (k + sharing_size s + (type_span a).size + 1) (omega arith)).1)))))

  of_Optional : (a : TypeExpression) → claims.of_TypeExpression a → claims.of_TypeExpression (e.Optional a)
  of_Optional a h = seen _ _ (S.seen_Optional a) (only (type_step (T.Optional (type_span a))) (λ k l.
      let i : k + (1 + (type_span a).size) ≤ n = l in (omega arith, (omega arith, (h (k + 1) (omega arith)).1))))

  of_Async : (a : TypeExpression) → claims.of_TypeExpression a → claims.of_TypeExpression (e.Async a)
  of_Async a h = seen _ _ (S.seen_Async a) (only (type_step (T.Async (type_span a))) (λ k l.
      let i : k + (1 + (type_span a).size) ≤ n = l in (omega arith, (omega arith, (h (k + 1) (omega arith)).1))))

  of_Array : (m : Bool) (a : TypeExpression) → claims.of_TypeExpression a → claims.of_TypeExpression (e.Array m a)
  of_Array m a h = seen _ _ (S.seen_Array m a) (only (type_step (T.Array m (type_span a))) (λ k l.
      let i : k + (2 + flag m + (type_span a).size) ≤ n = l in (omega arith, (omega arith, (h (k + 1 + flag m) (omega arith)).1))))

  spans_fit : (xs : List TypeExpression) → Each (λ x. TypeFits (type_span x)) xs → Each (λ s. Fits (TypeBelow n) (type_span_of s)) (map type_span xs)
  spans_fit [] h = tt
  spans_fit (x ∷ xs) h = (λ k l. ((h.0 k l).0, (h.0 k l).1), spans_fit xs h.1)

  of_Named : (x : Name) (xs : Option (List TypeExpression)) → EachWithin claims.of_TypeExpression xs → claims.of_TypeExpression (e.Named x xs)
  of_Named x None h = seen _ _ (S.seen_Named x None) (only (type_step (T.Named x None)) (λ k l. let i : k + (1 + 0) ≤ n = l in (omega arith, (omega arith, tt))))
  of_Named x (Some xs) h = seen _ _ (S.seen_Named x (Some xs)) (only (type_step (T.Named x (Some (map type_span xs)))) (λ k l.
      let i : k + (1 + (2 + listed_size (map type_span_of (map type_span xs)))) ≤ n = l in
      (omega arith, (omega arith, listed_nodes type_span_of (map type_span xs) (spans_fit xs h) (k + 1 + 1) (omega arith)))))

  parenthesized : (xs : List TypeItem) → Each claims.of_TypeItem xs → (k : ℕ) → k + (2 + listed_size (map in_type_item xs)) ≤ n → TypeBelow n (in_parentheses (map in_type_item xs) k)
  parenthesized [] h k l = (omega arith, tt)
  parenthesized (x ∷ []) h k l = let i : k + (2 + (in_type_item x).size) ≤ n = l in (h.0 (k + 1) (omega arith)).1
  parenthesized (x ∷ y ∷ rest) h k l =
      let i : k + (2 + listed_size (map in_type_item (x ∷ y ∷ rest))) ≤ n = l in
      (omega arith, listed_nodes in_type_item (x ∷ y ∷ rest) h (k + 1) (omega arith))

  of_Parenthesized : (xs : List TypeItem) → Each claims.of_TypeItem xs → claims.of_TypeExpression (e.Parenthesized xs)
  of_Parenthesized xs h = seen _ _ (S.seen_Parenthesized xs) (λ k l.
      let i : k + (2 + listed_size (map in_type_item xs)) ≤ n = l in
      (omega arith, parenthesized xs h k l, listed_nodes in_type_item xs h (k + 1) (omega arith)))

  of_Object : (word : Bool) (xs : List TypeField) (last : Bool) → Each claims.of_TypeField xs → claims.of_TypeExpression (e.Object word xs last)
  of_Object word xs last h = seen _ _ (S.seen_Object word xs last) (only (type_step (T.Object word (map in_type_field xs) last)) (λ k l.
      let i : k + (flag word + 2 + listed_size (map in_type_field xs) + flag last) ≤ n = l in
      (omega arith, (omega arith, listed_fields in_type_field xs h (k + flag word + 1) (omega arith)))))

  of_EmptyVariant : claims.of_TypeExpression e.EmptyVariant
  of_EmptyVariant = seen _ _ S.seen_EmptyVariant (only (type_step T.EmptyVariant) (λ k l. let i : k + 3 ≤ n = l in (omega arith, (omega arith, tt))))

  of_Variant : (xs : List TypeTag) (last : Bool) → Each claims.of_TypeTag xs → claims.of_TypeExpression (e.Variant xs last)
  of_Variant xs last h = seen _ _ (S.seen_Variant xs last) (only (type_step (T.Variant (map in_type_tag xs) last)) (λ k l.
      let i : k + (2 + listed_size (map in_type_tag xs) + flag last) ≤ n = l in
      (omega arith, (omega arith, listed_fields in_type_tag xs h (k + 1) (omega arith)))))

  of_Actor : (xs : List TypeMethod) (last : Bool) → Each claims.of_TypeMethod xs → claims.of_TypeExpression (e.Actor xs last)
  of_Actor xs last h = seen _ _ (S.seen_Actor xs last) (only (type_step (T.Actor (map in_type_method xs) last)) (λ k l.
      let i : k + (3 + listed_size (map in_type_method xs) + flag last) ≤ n = l in
      (omega arith, (omega arith, listed_fields in_type_method xs h (k + 2) (omega arith)))))

  -- ---- what stands in types

  pub seen_part : {A : Type 0} (Q : A → Type 0) (s t : Span A) → s ≡ t → Fits Q t → Fits Q s
  seen_part Q s t q h = subst (λ x. Fits Q x) (sym q) h

  of_TypeField : (m : Bool) (x : Name) (a : TypeExpression) → claims.of_TypeExpression a → claims.of_TypeField (roll-TypeField (record { mutable = m; name = x; annotation = a }))
  of_TypeField m x a h = seen_part FieldFits _ _ (S.seen_TypeField m x a) (λ k l.
      let i : k + (flag m + 2 + (type_span a).size) ≤ n = l in
      let j = (h (k + flag m + 2) (omega arith)).1 in
      (omega arith, λ rest r. (omega arith, j, r)))

  of_TypeItem : (x : Option Name) (a : TypeExpression) → claims.of_TypeExpression a → claims.of_TypeItem (roll-TypeItem (record { name = x; annotation = a }))
  of_TypeItem x a h = seen_part (TypeBelow n) _ _ (S.seen_TypeItem x a) (λ k l.
      let i : k + (item_size x + (type_span a).size) ≤ n = l in
      let j = h (k + item_size x) (omega arith) in
      let z : k + item_size x < n = j.0 in
      (omega arith, j.1))

  of_TypeMethod : (x : Name) (a : TypeExpression) → claims.of_TypeExpression a → claims.of_TypeMethod (roll-TypeMethod (record { name = x; annotation = a }))
  of_TypeMethod x a h = seen_part FieldFits _ _ (S.seen_TypeMethod x a) (λ k l.
      let i : k + (2 + (type_span a).size) ≤ n = l in
      let j = (h (k + 2) (omega arith)).1 in
      (omega arith, λ rest r. (omega arith, j, r)))

  of_TypeTag : (x : Name) (a : Option TypeExpression) → Within claims.of_TypeExpression a → claims.of_TypeTag (roll-TypeTag (record { name = x; payload = a }))
  of_TypeTag x None h = seen_part FieldFits _ _ (S.seen_TypeTag x None) (λ k l. let i : k + 2 ≤ n = l in (omega arith, λ rest r. (omega arith, r)))
  of_TypeTag x (Some a) h = seen_part FieldFits _ _ (S.seen_TypeTag x (Some a)) (λ k l.
      let i : k + (3 + (type_span a).size) ≤ n = l in
      let j = (h (k + 3) (omega arith)).1 in
      (omega arith, λ rest r. (omega arith, j, r)))

  cases : Cases claims
  cases = record {
    Function = of_Function;
    Optional = of_Optional;
    Async = of_Async;
    Named = of_Named;
    Parenthesized = of_Parenthesized;
    Array = of_Array;
    Object = of_Object;
    EmptyVariant = of_EmptyVariant;
    Variant = of_Variant;
    Actor = of_Actor;
    TypeField_ = of_TypeField;
    TypeItem_ = of_TypeItem;
    TypeMethod_ = of_TypeMethod;
    TypeTag_ = of_TypeTag;
  }

  pub type_fits : (a : TypeExpression) → Fits (TypeBelow n) (in_type a)
  type_fits a = λ k l. ((holds_TypeExpression claims cases a k l).0, (holds_TypeExpression claims cases a k l).1)

  -- a type behind a token, where there is one
  pub annotation_fits : (a : Option TypeExpression) (k : ℕ) → k + led 1 (annotation a) ≤ n + 1 → Within (TypeBelow n) (at_led (annotation a) k)
  annotation_fits None k l = tt
  annotation_fits (Some a) k l = let i : k + (1 + (in_type a).size) ≤ n + 1 = l in (type_fits a k (omega arith)).1

  parameter_fits : (x : TypeParameter) → Fits (ParameterBelow n) (written_parameter x)
  parameter_fits x = λ k l.
      let i : k + (1 + led 1 (annotation x.bound)) ≤ n = l in
      (omega arith, (omega arith, annotation_fits x.bound (k + 2) (omega arith)))

  pub generics_fit : (xs : Option (List TypeParameter)) (k : ℕ) → k + generics_size xs ≤ n → Each (ParameterBelow n) (listed_from (generics_spans xs) (k + 1))
  generics_fit None k l = tt
  generics_fit (Some xs) k l =
      let i : k + (2 + listed_size (map written_parameter xs)) ≤ n = l in
      listed_fits (ParameterBelow n) written_parameter xs (each_fits (λ x. Fits (ParameterBelow n) (written_parameter x)) parameter_fits xs) (k + 1) (omega arith)
