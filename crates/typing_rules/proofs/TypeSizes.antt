-- A type takes as many tokens as it is written in.
use Rattle.std.proofs.Common.{◌≡◌, ℕ, suc, ◌+◌, Bool, true, false, List, [], ◌∷◌, ◌++◌, length, map, Option, Some, None, refl, arith}
use Rattle.std.specs.List.{flat_map}
use Rattle.std.proofs.lemmas.List.{length-append}
use Rattle.mo_syntax.specs.declared.name.Name.{Name}
use Rattle.mo_syntax.specs.declared.token.TokenKind.{TokenKind}
use Rattle.mo_syntax.specs.declared.types.Sharing.{Sharing}
use Rattle.mo_syntax.specs.declared.types.Sharing.TheVariants as sharing
use Rattle.mo_syntax.specs.declared.types.TypeExpression.{TypeExpression}
use Rattle.mo_syntax.specs.declared.types.TypeExpression.TheVariants as e
use Rattle.mo_syntax.specs.declared.types.TypeField.{TypeField, roll-TypeField}
use Rattle.mo_syntax.specs.declared.types.TypeItem.{TypeItem, roll-TypeItem}
use Rattle.mo_syntax.specs.declared.types.TypeMethod.{TypeMethod, roll-TypeMethod}
use Rattle.mo_syntax.specs.declared.types.TypeTag.{TypeTag, roll-TypeTag}
use Rattle.mo_syntax.specs.Parts.{Each, Within, EachWithin}
use Rattle.mo_syntax.specs.Writing.{Writing, separated, marked}
use Rattle.mo_syntax.specs.TypeGrammar.{type_tokens, type_field_tokens, type_item_tokens, type_method_tokens, type_tag_tokens, sharing_tokens}
use Rattle.mo_syntax.proofs.TypeEquations as W
use Rattle.mo_syntax.proofs.TypeInduction.{Claims, Cases, holds_TypeExpression}
use Rattle.mo_syntax.specs.declared.token.TokenKind.TheVariants as t
use Rattle.mo_syntax.specs.declared.word.Word.TheVariants as w
use Rattle.mo_syntax.specs.declared.mark.Mark.TheVariants as m
use Rattle.typing_rules.specs.Spans.{Span, listed_size, flag}
use Rattle.typing_rules.specs.AbstractTypes.{type_span_of, in_type, sharing_size, type_span, in_type_field, in_type_item, in_type_method, in_type_tag}
use Rattle.typing_rules.proofs.TypeSpans as S

-- ---- lists

module _ {X A : Type 0} (f : X → Span A) (g : X → Writing) (token : TokenKind) where
  behind : List X → ℕ
  behind [] = 0
  behind (x ∷ xs) = suc (f x).size + behind xs

  parts : (x : X) (xs : List X) → listed_size (map f (x ∷ xs)) ≡ (f x).size + behind xs
  unfolding behind
  parts x [] = let h : (f x).size ≡ (f x).size + 0 = omega arith in h
  parts x (y ∷ ys) = let h : listed_size (map f (y ∷ ys)) ≡ (f y).size + behind ys = parts y ys in omega arith

  tokens : (xs : List X) → Each (λ x. (f x).size ≡ length (g x)) xs → behind xs ≡ length (flat_map (λ y. token ∷ y) (map g xs))
  unfolding behind
  tokens [] h = refl
  tokens (x ∷ xs) h =
      let a : behind xs ≡ length (flat_map (λ y. token ∷ y) (map g xs)) = tokens xs h.1 in
      let b : (f x).size ≡ length (g x) = h.0 in
      let c : length (g x ++ flat_map (λ y. token ∷ y) (map g xs)) ≡ length (g x) + length (flat_map (λ y. token ∷ y) (map g xs)) = length-append _ _ in
      omega arith

  pub sizes : (xs : List X) → Each (λ x. (f x).size ≡ length (g x)) xs → listed_size (map f xs) ≡ length (separated token (map g xs))
  sizes [] h = refl
  sizes (x ∷ xs) h =
      let a : listed_size (map f (x ∷ xs)) ≡ (f x).size + behind xs = parts x xs in
      let b : behind xs ≡ length (flat_map (λ y. token ∷ y) (map g xs)) = tokens xs h.1 in
      let c : (f x).size ≡ length (g x) = h.0 in
      let d : length (g x ++ flat_map (λ y. token ∷ y) (map g xs)) ≡ length (g x) + length (flat_map (λ y. token ∷ y) (map g xs)) = length-append _ _ in
      omega arith

pub flagged : (b : Bool) (token : TokenKind) → flag b ≡ length (marked b token)
flagged true token = refl
flagged false token = refl

shared : (s : Sharing) → sharing_size s ≡ length (sharing_tokens s)
shared sharing.Local = refl
shared sharing.Shared = refl
shared sharing.SharedQuery = refl

-- ---- by cases

abbrev claims : Claims
claims = record {
  of_TypeExpression = λ x. (type_span x).size ≡ length (type_tokens x);
  of_TypeField = λ x. (in_type_field x).size ≡ length (type_field_tokens x);
  of_TypeItem = λ x. (in_type_item x).size ≡ length (type_item_tokens x);
  of_TypeMethod = λ x. (in_type_method x).size ≡ length (type_method_tokens x);
  of_TypeTag = λ x. (in_type_tag x).size ≡ length (type_tag_tokens x);
}

of_Function : (s : Sharing) (a b : TypeExpression) → claims.of_TypeExpression a → claims.of_TypeExpression b → claims.of_TypeExpression (e.Function s a b)
of_Function s a b h g =
    let i : sharing_size s ≡ length (sharing_tokens s) = shared s in
    rw (S.seen_Function s a b, W.tokens_Function s a b, length-append, length-append) (omega arith)

of_Optional : (a : TypeExpression) → claims.of_TypeExpression a → claims.of_TypeExpression (e.Optional a)
of_Optional a h = rw (S.seen_Optional a, W.tokens_Optional a) (omega arith)

of_Async : (a : TypeExpression) → claims.of_TypeExpression a → claims.of_TypeExpression (e.Async a)
of_Async a h = rw (S.seen_Async a, W.tokens_Async a) (omega arith)

of_Array : (m : Bool) (a : TypeExpression) → claims.of_TypeExpression a → claims.of_TypeExpression (e.Array m a)
of_Array true a h = rw (S.seen_Array true a, W.tokens_Array true a, length-append) (omega arith)
of_Array false a h = rw (S.seen_Array false a, W.tokens_Array false a, length-append) (omega arith)

same_types : (xs : List TypeExpression) → listed_size (map type_span_of (map type_span xs)) ≡ listed_size (map in_type xs)
same_types [] = refl
same_types (x ∷ []) = refl
same_types (x ∷ y ∷ ys) = let h : listed_size (map type_span_of (map type_span (y ∷ ys))) ≡ listed_size (map in_type (y ∷ ys)) = same_types (y ∷ ys) in omega arith

of_Named : (x : Name) (xs : Option (List TypeExpression)) → EachWithin claims.of_TypeExpression xs → claims.of_TypeExpression (e.Named x xs)
of_Named x None h = rw (S.seen_Named x None, W.tokens_Named x None) refl
of_Named x (Some xs) h =
    let a : listed_size (map type_span_of (map type_span xs)) ≡ listed_size (map in_type xs) = same_types xs in
    let b : listed_size (map in_type xs) ≡ length (separated (t.Mark m.Comma) (map type_tokens xs)) = sizes in_type type_tokens (t.Mark m.Comma) xs h in
    rw (S.seen_Named x (Some xs), W.tokens_Named x (Some xs), length-append) (omega arith)

of_Parenthesized : (xs : List TypeItem) → Each claims.of_TypeItem xs → claims.of_TypeExpression (e.Parenthesized xs)
of_Parenthesized xs h =
    let b : listed_size (map in_type_item xs) ≡ length (separated (t.Mark m.Comma) (map type_item_tokens xs)) = sizes in_type_item type_item_tokens (t.Mark m.Comma) xs h in
    rw (S.seen_Parenthesized xs, W.tokens_Parenthesized xs, length-append) (omega arith)

of_Object : (word : Bool) (xs : List TypeField) (last : Bool) → Each claims.of_TypeField xs → claims.of_TypeExpression (e.Object word xs last)
of_Object word xs last h =
    let a : flag word ≡ length (marked word (t.Reserved w.Object)) = flagged word (t.Reserved w.Object) in
    let c : flag last ≡ length (marked last (t.Mark m.Semicolon)) = flagged last (t.Mark m.Semicolon) in
    let b : listed_size (map in_type_field xs) ≡ length (separated (t.Mark m.Semicolon) (map type_field_tokens xs)) = sizes in_type_field type_field_tokens (t.Mark m.Semicolon) xs h in
    rw (S.seen_Object word xs last, W.tokens_Object word xs last, length-append, length-append, length-append) (omega arith)

of_Variant : (xs : List TypeTag) (last : Bool) → Each claims.of_TypeTag xs → claims.of_TypeExpression (e.Variant xs last)
of_Variant xs last h =
    let c : flag last ≡ length (marked last (t.Mark m.Semicolon)) = flagged last (t.Mark m.Semicolon) in
    let b : listed_size (map in_type_tag xs) ≡ length (separated (t.Mark m.Semicolon) (map type_tag_tokens xs)) = sizes in_type_tag type_tag_tokens (t.Mark m.Semicolon) xs h in
    rw (S.seen_Variant xs last, W.tokens_Variant xs last, length-append, length-append) (omega arith)

of_Actor : (xs : List TypeMethod) (last : Bool) → Each claims.of_TypeMethod xs → claims.of_TypeExpression (e.Actor xs last)
of_Actor xs last h =
    let c : flag last ≡ length (marked last (t.Mark m.Semicolon)) = flagged last (t.Mark m.Semicolon) in
    let b : listed_size (map in_type_method xs) ≡ length (separated (t.Mark m.Semicolon) (map type_method_tokens xs)) = sizes in_type_method type_method_tokens (t.Mark m.Semicolon) xs h in
    rw (S.seen_Actor xs last, W.tokens_Actor xs last, length-append, length-append) (omega arith)

of_TypeField : (mutable : Bool) (x : Name) (a : TypeExpression) → claims.of_TypeExpression a → claims.of_TypeField (roll-TypeField (record { mutable = mutable; name = x; annotation = a }))
of_TypeField true x a h = rw (S.seen_TypeField true x a, W.tokens_TypeField true x a) (omega arith)
of_TypeField false x a h = rw (S.seen_TypeField false x a, W.tokens_TypeField false x a) (omega arith)

of_TypeItem : (x : Option Name) (a : TypeExpression) → claims.of_TypeExpression a → claims.of_TypeItem (roll-TypeItem (record { name = x; annotation = a }))
of_TypeItem None a h = rw (S.seen_TypeItem None a, W.tokens_TypeItem None a) (omega arith)
of_TypeItem (Some x) a h = rw (S.seen_TypeItem (Some x) a, W.tokens_TypeItem (Some x) a) (omega arith)

of_TypeMethod : (x : Name) (a : TypeExpression) → claims.of_TypeExpression a → claims.of_TypeMethod (roll-TypeMethod (record { name = x; annotation = a }))
of_TypeMethod x a h = rw (S.seen_TypeMethod x a, W.tokens_TypeMethod x a) (omega arith)

of_TypeTag : (x : Name) (a : Option TypeExpression) → Within claims.of_TypeExpression a → claims.of_TypeTag (roll-TypeTag (record { name = x; payload = a }))
of_TypeTag x None h = rw (S.seen_TypeTag x None, W.tokens_TypeTag x None) refl
of_TypeTag x (Some a) h = rw (S.seen_TypeTag x (Some a), W.tokens_TypeTag x (Some a)) (omega arith)

cases : Cases claims
cases = record {
  Function = of_Function;
  Optional = of_Optional;
  Async = of_Async;
  Named = of_Named;
  Parenthesized = of_Parenthesized;
  Array = of_Array;
  Object = of_Object;
  EmptyVariant = rw (S.seen_EmptyVariant, W.tokens_EmptyVariant) refl;
  Variant = of_Variant;
  Actor = of_Actor;
  TypeField_ = of_TypeField;
  TypeItem_ = of_TypeItem;
  TypeMethod_ = of_TypeMethod;
  TypeTag_ = of_TypeTag;
}

pub type_size : (a : TypeExpression) → (in_type a).size ≡ length (type_tokens a)
type_size a = holds_TypeExpression claims cases a
