-- Types, and lists of types as they stand in a type, by what is made of their parts.
use Rattle.std.proofs.Common.{◌≡◌, ℕ, ◌+◌, Bool, List, [], ◌∷◌, Option, None, Some, Result, IfOk, length, map, option_map, ap, ◌∙◌, sym, refl, arith}
use Rattle.mo_num.specs.declared.memory.Memory.{Memory}
use Rattle.mo_syntax.specs.declared.name.Name.{Name}
use Rattle.mo_syntax.specs.declared.types.Sharing.{Sharing}
use Rattle.mo_syntax.specs.declared.types.TypeExpression.{TypeExpression}
use Rattle.mo_syntax.specs.declared.types.TypeExpression.TheVariants as e
use Rattle.mo_syntax.specs.declared.types.TypeField as written_field
use Rattle.mo_syntax.specs.declared.types.TypeItem.{TypeItem}
use Rattle.mo_syntax.specs.declared.types.TypeMethod.{TypeMethod}
use Rattle.mo_syntax.specs.declared.types.TypeTag.{TypeTag}
use Rattle.mo_syntax.specs.declared.types.TypeExpression.TheOpen as written
use Rattle.mo_syntax.specs.declared.types.TypeParameter as written_parameter
use Rattle.mo_syntax.proofs.TypeInduction.{Claims, Cases, holds_TypeExpression}
use Rattle.typing_rules.specs.AbstractSyntax as p
use Rattle.typing_rules.specs.Spans.{Span, flag, listed_from, listed_size}
use Rattle.typing_rules.specs.AbstractTypes.{TypeSpan, type_nodes, type_fields, type_span, type_span_of, type_step, in_type, in_type_field, in_type_item, in_type_method, in_type_tag, in_angles, in_parentheses, parameter_nodes, sharing_size, written_parameter}
use Rattle.typing_rules.proofs.TypeSpans as S
use Rattle.abstract_types.specs.declared.types.TypeNode.{TypeNode}
use Rattle.abstract_types.specs.declared.types.TypeField.{TypeField}
use Rattle.abstract_types.specs.declared.types.TypeForm.TheVariants as t
use Rattle.abstract_types.specs.declared.types.TypeParameter.{TypeParameter}
use Rattle.abstract_types.specs.TypeView.{type_field, type_form, type_node, parameter}
use Rattle.abstract_types.proofs.TypeViews as V
use Rattle.abstract_type_walk.specs.Stands.{Is, Stands, Lists}
use Rattle.abstract_type_walk.specs.TypeWalks.{AreArguments, AreParameters, AreTypeArguments, AreGenerics}
use Rattle.abstract_type_walk.proofs.Spanning.{if_ok, stands, as_stands}

spans : (xs : List TypeExpression) → map type_span_of (map type_span xs) ≡ map in_type xs
spans [] = refl
spans (x ∷ xs) = ap (λ rest. in_type x ∷ rest) (spans xs)

-- the arguments of a name
pub arguments_made : (xs : List TypeExpression) (at close last : ℕ) (made : List TypeNode) → Lists type_node (map in_type xs) (at + 2) (made, close)
    → last ≡ close + 1 → AreArguments (Some (map type_span xs)) (at + 1) (made, last)
arguments_made xs at close last made h l =
    let s : listed_size (map type_span_of (map type_span xs)) ≡ listed_size (map in_type xs) = ap listed_size (spans xs) in
    let n : close ≡ at + 2 + listed_size (map in_type xs) = h.next in
    let o : at + 2 ≡ at + 1 + 1 = omega arith in
    record {
      parts = h.parts ∙ ap (λ k. listed_from (map in_type xs) k) o ∙ ap (λ zs. listed_from zs (at + 1 + 1)) (sym (spans xs));
      next = omega arith;
    }

-- the type arguments of a call
pub type_arguments_made : (xs : List TypeExpression) (at close last : ℕ) (made : List TypeNode) → Lists type_node (map in_type xs) (at + 1) (made, close)
    → last ≡ close + 1 → AreTypeArguments (Some (map in_type xs)) at (Some made, last)
type_arguments_made xs at close last made h l =
    let n : close ≡ at + 1 + listed_size (map in_type xs) = h.next in
    record { parts = ap (λ (zs : List p.TypeNode). Some zs) h.parts; next = omega arith }

-- the type parameters of a function
pub generics_made : (xs : List written_parameter.TypeParameter) (at close last : ℕ) (made : List TypeParameter) → Lists parameter (map written_parameter xs) (at + 1) (made, close)
    → last ≡ close + 1 → AreGenerics (Some xs) at (made, last)
generics_made xs at close last made h l =
    let n : close ≡ at + 1 + listed_size (map written_parameter xs) = h.next in
    record { parts = h.parts; next = omega arith }

-- ---- parentheses

several : (xs : List (Span p.TypeNode)) (k : ℕ) → (length xs ≡ 1 → ⊥) → in_parentheses xs k ≡ p.node k (p.Tuple (type_nodes (listed_from xs (k + 1))))
several [] k h = refl
several (x ∷ []) k h = absurd (h refl)
several (x ∷ y ∷ xs) k h = refl

length_map : {A B : Type 0} (f : A → B) (xs : List A) → length (map f xs) ≡ length xs
length_map f [] = refl
length_map f (x ∷ xs) = let h : length (map f xs) ≡ length xs = length_map f xs in omega arith

-- no types in parentheses, or several
pub tuple_made : (xs : List TypeItem) (at close : ℕ) (made : List TypeNode) (r : Result (TypeNode × ℕ) Memory) → (length xs ≡ 1 → ⊥)
    → Lists type_node (map in_type_item xs) (at + 1) (made, close) → IfOk r (Is type_node (p.node at (type_form (t.Tuple made))) (close + 1))
    → IfOk r (Stands type_node (type_span_of (type_step (written.Parenthesized (map in_type_item xs)))) at)
tuple_made xs at close made r d h k =
    let n : close ≡ at + 1 + listed_size (map in_type_item xs) = h.next in
    let s = type_span_of (type_step (written.Parenthesized (map in_type_item xs))) in
    stands type_node s s at _ _ r k refl
    (ap (p.node at) (V.seen_Tuple made ∙ ap (λ zs. p.Tuple (type_nodes zs)) h.parts) ∙ sym (several (map in_type_item xs) at (λ q. d (sym (length_map in_type_item xs) ∙ q))))
    (omega arith)

-- one type in parentheses
pub one_made : (x : TypeItem) (at close last : ℕ) (made : TypeNode) → Stands type_node (in_type_item x) (at + 1) (made, close) → last ≡ close + 1
    → Stands type_node (type_span_of (type_step (written.Parenthesized (in_type_item x ∷ [])))) at (made, last)
one_made x at close last made h l =
    let n : close ≡ at + 1 + (in_type_item x).size = h.next in
    record { part = h.part; next = omega arith }

-- parentheses before `->` are the list of parameters
pub parameters_made : (a : TypeExpression) (xs : List TypeItem) (at close last : ℕ) (made : List TypeNode) → a ≡ e.Parenthesized xs
    → Lists type_node (map in_type_item xs) (at + 1) (made, close) → last ≡ close + 1 → AreParameters (type_span a) at (made, last)
parameters_made a xs at close last made is h l =
    let n : close ≡ at + 1 + listed_size (map in_type_item xs) = h.next in
    let w : type_span a ≡ type_step (written.Parenthesized (map in_type_item xs)) = ap type_span is ∙ S.seen_Parenthesized xs in
    let r : AreParameters (type_step (written.Parenthesized (map in_type_item xs))) at (made, last) = record {
      parts = ap type_nodes h.parts;
      next = omega arith;
    } in rw w r

abbrev IsAlone : TypeExpression → Type 0
IsAlone a = ((xs : List TypeItem) → a ≡ e.Parenthesized xs → ⊥) → (type_span a).items ≡ None

abbrev claims : Claims
claims = record {
  of_TypeExpression = IsAlone;
  of_TypeField = λ x. Unit {0};
  of_TypeItem = λ x. Unit {0};
  of_TypeMethod = λ x. Unit {0};
  of_TypeTag = λ x. Unit {0};
}

cases : Cases claims
cases = record {
  Function = λ s a b h g n. ap (λ (z : TypeSpan). z.items) (S.seen_Function s a b);
  Optional = λ a h n. ap (λ (z : TypeSpan). z.items) (S.seen_Optional a);
  Async = λ a h n. ap (λ (z : TypeSpan). z.items) (S.seen_Async a);
  Named = λ x us h n. ap (λ (z : TypeSpan). z.items) (S.seen_Named x us);
  Parenthesized = λ xs h n. absurd (n xs refl);
  Array = λ m a h n. ap (λ (z : TypeSpan). z.items) (S.seen_Array m a);
  Object = λ w fs l h n. ap (λ (z : TypeSpan). z.items) (S.seen_Object w fs l);
  EmptyVariant = λ n. ap (λ (z : TypeSpan). z.items) S.seen_EmptyVariant;
  Variant = λ ts l h n. ap (λ (z : TypeSpan). z.items) (S.seen_Variant ts l);
  Actor = λ ms l h n. ap (λ (z : TypeSpan). z.items) (S.seen_Actor ms l);
  TypeField_ = λ a b c h. tt;
  TypeItem_ = λ a b h. tt;
  TypeMethod_ = λ a b h. tt;
  TypeTag_ = λ a b h. tt;
}

only : (n : ℕ) (f : ℕ → p.TypeNode) (o : Option (List (Span p.TypeNode))) (k : ℕ) → o ≡ None → parameter_nodes (record { size = n; from = f; items = o }) k ≡ p.Cons (f k) p.Nil
only n f None k q = refl
only n f (Some xs) k q = cc

-- another type is the only parameter
pub parameter_made : (a : TypeExpression) (at last : ℕ) (node : TypeNode) (made : List TypeNode) → ((xs : List TypeItem) → a ≡ e.Parenthesized xs → ⊥)
    → Stands type_node (in_type a) (at + 0) (node, last) → made ≡ node ∷ [] → AreParameters (type_span a) at (made, last)
parameter_made a at last node made n h m =
    let alone : (type_span a).items ≡ None = holds_TypeExpression claims cases a n in
    let z : at + 0 ≡ at = omega arith in
    let l : last ≡ at + 0 + (in_type a).size = h.next in
    record {
      parts = ap (λ zs. type_nodes (map type_node zs)) m ∙ ap (λ z. p.Cons z p.Nil) (h.part ∙ ap (type_span a).from z) ∙ sym (only (type_span a).size (type_span a).from (type_span a).items at alone);
      next = omega arith;
    }

-- ---- the other forms

pub optional_made : (a b : TypeExpression) (at last : ℕ) (of : TypeNode) (r : Result (TypeNode × ℕ) Memory) → a ≡ e.Optional b → Stands type_node (in_type b) (at + 1) (of, last)
    → IfOk r (Is type_node (p.node at (type_form (t.Optional of))) (last + 0)) → IfOk r (Stands type_node (in_type a) at)
optional_made a b at last of r is h k =
    let n : last ≡ at + 1 + (in_type b).size = h.next in
    stands type_node (type_span_of (type_step (written.Optional (type_span b)))) (in_type a) at _ _ r k (ap in_type is ∙ ap type_span_of (S.seen_Optional b))
    (ap (p.node at) (V.seen_Optional of ∙ ap p.Optional h.part)) (omega arith)

pub async_made : (a b : TypeExpression) (at last : ℕ) (of : TypeNode) (r : Result (TypeNode × ℕ) Memory) → a ≡ e.Async b → Stands type_node (in_type b) (at + 1) (of, last)
    → IfOk r (Is type_node (p.node at (type_form (t.Async of))) (last + 0)) → IfOk r (Stands type_node (in_type a) at)
async_made a b at last of r is h k =
    let n : last ≡ at + 1 + (in_type b).size = h.next in
    stands type_node (type_span_of (type_step (written.Async (type_span b)))) (in_type a) at _ _ r k (ap in_type is ∙ ap type_span_of (S.seen_Async b))
    (ap (p.node at) (V.seen_Async of ∙ ap p.Async h.part)) (omega arith)

pub use_made : (a : TypeExpression) (x : Name) (us : Option (List TypeExpression)) (bytes : List ℕ) (at last : ℕ) (made : List TypeNode) (r : Result (TypeNode × ℕ) Memory)
    → a ≡ e.Named x us → bytes ≡ x.bytes → AreArguments (option_map (map type_span) us) (at + 1) (made, last)
    → IfOk r (Is type_node (p.node at (type_form (t.Use bytes made))) (last + 0)) → IfOk r (Stands type_node (in_type a) at)
use_made a x us bytes at last made r is b h k =
    let s = type_span_of (type_step (written.Named x (option_map (map type_span) us))) in
    let m : last ≡ at + 1 + in_angles (option_map (map type_span) us) = h.next in
    let n : last + 0 ≡ at + s.size = omega arith in
    stands type_node s (in_type a) at _ _ r k (ap in_type is ∙ ap type_span_of (S.seen_Named x us))
    (ap (p.node at) (V.seen_Use bytes made ∙ ap (λ y. p.Use y (type_nodes (map type_node made))) b ∙ ap (λ zs. p.Use x.bytes (type_nodes zs)) h.parts)) n

pub array_made : (a b : TypeExpression) (mutable : Bool) (at count close : ℕ) (of : TypeNode) (r : Result (TypeNode × ℕ) Memory) → a ≡ e.Array mutable b → count ≡ flag mutable
    → Stands type_node (in_type b) (at + (1 + count)) (of, close) → IfOk r (Is type_node (p.node at (type_form (t.Array mutable of))) (close + 1))
    → IfOk r (Stands type_node (in_type a) at)
array_made a b mutable at count close of r is c h k =
    let n : close ≡ at + (1 + count) + (in_type b).size = h.next in
    let o : at + (1 + count) ≡ at + 1 + flag mutable = omega arith in
    stands type_node (type_span_of (type_step (written.Array mutable (type_span b)))) (in_type a) at _ _ r k (ap in_type is ∙ ap type_span_of (S.seen_Array mutable b))
    (ap (p.node at) (V.seen_Array mutable of ∙ ap (p.Array mutable) (h.part ∙ ap (in_type b).from o))) (omega arith)

pub object_made : (a : TypeExpression) (word last : Bool) (xs : List written_field.TypeField) (at count counted end : ℕ) (made : List TypeField) (r : Result (TypeNode × ℕ) Memory)
    → a ≡ e.Object word xs last → count ≡ flag word → counted ≡ flag last → Lists type_field (map in_type_field xs) (at + (1 + count)) (made, end)
    → IfOk r (Is type_node (p.node at (type_form (t.Object made))) (end + (1 + counted))) → IfOk r (Stands type_node (in_type a) at)
object_made a word last xs at count counted end made r is c d h k =
    let n : end ≡ at + (1 + count) + listed_size (map in_type_field xs) = h.next in
    let o : at + (1 + count) ≡ at + flag word + 1 = omega arith in
    stands type_node (type_span_of (type_step (written.Object word (map in_type_field xs) last))) (in_type a) at _ _ r k (ap in_type is ∙ ap type_span_of (S.seen_Object word xs last))
    (ap (p.node at) (V.seen_Object made ∙ ap (λ zs. p.Object (type_fields zs)) (h.parts ∙ ap (listed_from (map in_type_field xs)) o))) (omega arith)

pub empty_made : (a : TypeExpression) (at : ℕ) (none : List TypeField) (r : Result (TypeNode × ℕ) Memory) → a ≡ e.EmptyVariant → none ≡ []
    → IfOk r (Is type_node (p.node at (type_form (t.Variant none))) (at + 3)) → IfOk r (Stands type_node (in_type a) at)
empty_made a at none r is m k =
    stands type_node (type_span_of (type_step written.EmptyVariant)) (in_type a) at _ _ r k (ap in_type is ∙ ap type_span_of S.seen_EmptyVariant)
    (ap (p.node at) (V.seen_Variant none ∙ ap (λ zs. p.Variant (type_fields (map type_field zs))) m)) refl

pub variant_made : (a : TypeExpression) (last : Bool) (xs : List TypeTag) (at counted end : ℕ) (made : List TypeField) (r : Result (TypeNode × ℕ) Memory)
    → a ≡ e.Variant xs last → counted ≡ flag last → Lists type_field (map in_type_tag xs) (at + 1) (made, end)
    → IfOk r (Is type_node (p.node at (type_form (t.Variant made))) (end + (1 + counted))) → IfOk r (Stands type_node (in_type a) at)
variant_made a last xs at counted end made r is d h k =
    let n : end ≡ at + 1 + listed_size (map in_type_tag xs) = h.next in
    stands type_node (type_span_of (type_step (written.Variant (map in_type_tag xs) last))) (in_type a) at _ _ r k (ap in_type is ∙ ap type_span_of (S.seen_Variant xs last))
    (ap (p.node at) (V.seen_Variant made ∙ ap (λ zs. p.Variant (type_fields zs)) h.parts)) (omega arith)

pub actor_made : (a : TypeExpression) (last : Bool) (xs : List TypeMethod) (at counted end : ℕ) (made : List TypeField) (r : Result (TypeNode × ℕ) Memory)
    → a ≡ e.Actor xs last → counted ≡ flag last → Lists type_field (map in_type_method xs) (at + 2) (made, end)
    → IfOk r (Is type_node (p.node at (type_form (t.Actor made))) (end + (1 + counted))) → IfOk r (Stands type_node (in_type a) at)
actor_made a last xs at counted end made r is d h k =
    let n : end ≡ at + 2 + listed_size (map in_type_method xs) = h.next in
    stands type_node (type_span_of (type_step (written.Actor (map in_type_method xs) last))) (in_type a) at _ _ r k (ap in_type is ∙ ap type_span_of (S.seen_Actor xs last))
    (ap (p.node at) (V.seen_Actor made ∙ ap (λ zs. p.Actor (type_fields zs)) h.parts)) (omega arith)

pub function_made : (s : Sharing) (a b : TypeExpression) (at words start arrow last : ℕ) (made : List TypeNode) (of : TypeNode) (r : Result (TypeNode × ℕ) Memory)
    → words ≡ sharing_size s → start ≡ at + words → AreParameters (type_span a) start (made, arrow) → Stands type_node (in_type b) (arrow + 1) (of, last)
    → IfOk r (Is type_node (p.node at (type_form (t.Function s made of))) (last + 0))
    → IfOk r (Stands type_node (type_span_of (type_step (written.Function s (type_span a) (type_span b)))) at)
function_made s a b at words start arrow last made of r w o h g k =
    let n : arrow ≡ start + (type_span a).size = h.next in
    let m : last ≡ arrow + 1 + (type_span b).size = g.next in
    let q : start ≡ at + sharing_size s = omega arith in
    let u : arrow + 1 ≡ at + sharing_size s + (type_span a).size + 1 = omega arith in
    let z = type_span_of (type_step (written.Function s (type_span a) (type_span b))) in
    stands type_node z z at _ _ r k refl
    (ap (p.node at) (V.seen_Function s made of ∙ ap (λ zs. p.Function s zs (type_node of)) (h.parts ∙ ap (parameter_nodes (type_span a)) q)
    ∙ ap (p.Function s (parameter_nodes (type_span a) (at + sharing_size s))) (g.part ∙ ap (type_span b).from u)))
    (omega arith)

-- a form that a function of its own makes
pub layer_made : (a : TypeExpression) (s : TypeSpan) (at : ℕ) (r : Result (TypeNode × ℕ) Memory) → type_span a ≡ s → IfOk r (Stands type_node (type_span_of s) at) → IfOk r (Stands type_node (in_type a) at)
layer_made a s at r w h = if_ok r (Stands type_node (type_span_of s) at) (Stands type_node (in_type a) at) h (λ made k. as_stands type_node (type_span_of s) (in_type a) at made (ap type_span_of w) k)
