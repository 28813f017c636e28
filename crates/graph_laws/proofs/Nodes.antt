-- What is asked of a node holds where it holds of the node with other types in the place of its parts.
use Rattle.std.proofs.Common.{◌≡◌, inl, inr, ℕ, zero, suc, true, List, [], ◌∷◌, ◌++◌, length, map, None, refl, sym, ap, ◌∙◌, subst}
use Rattle.mo_types.specs.declared.node.Field.{Field}
use Rattle.mo_types.specs.declared.node.Node.{Node}
use Rattle.mo_types.specs.declared.node.Node.TheVariants as node
use Rattle.mo_types.specs.declared.node.Sort.{Sort}
use Rattle.mo_types.specs.declared.node.Sort.TheVariants as sort
use Rattle.mo_types.specs.Heads.{async_of}
use Rattle.mo_types.specs.Label.{label_id}
use Rattle.mo_types.specs.Sub.{Each}
use Rattle.mo_types.specs.Values.{is_method_name}
use Rattle.mo_subtype.specs.Renamed.{on_field, on_node}
use Rattle.subtype_laws.specs.Reached.{Among}
use Rattle.typed_tree.specs.Instances.{field_types, types_in}
use Rattle.typed_tree.specs.OperationTypes.{Distinct}
use Rattle.typed_tree.specs.Shareable.{HasShareableForm, PartsShareable, IsSharedFunction, Shares, IsShareable}
use Rattle.typed_tree.specs.Types.{AreConstant, HasNoFuture, IsLawfulNode, LabelsDiffer}

module _ {A B : Type 0} (f : A → B) where
  each_from : (P : A → Type 0) (Q : B → Type 0) (xs : List A) → ((x : A) → Among x xs → Q (f x) → P x) → Each Q (map f xs) → Each P xs
  each_from P Q [] g h = tt
  each_from P Q (x ∷ xs) g h = (g x (inl refl) h.0, each_from P Q xs (λ y m. g y (inr m)) h.1)

  fields_from : (P : A → Type 0) (Q : B → Type 0) (fs : List (Field A)) → ((x : A) → Among x (field_types fs) → Q (f x) → P x) → Each Q (field_types (map (on_field f) fs)) → Each P (field_types fs)
  fields_from P Q [] g h = tt
  fields_from P Q (x ∷ fs) g h = (g x.part (inl refl) h.0, fields_from P Q fs (λ y m. g y (inr m)) h.1)

  same_labels : (fs : List (Field A)) → map (λ x. label_id x.label) (map (on_field f) fs) ≡ map (λ x. label_id x.label) fs
  same_labels [] = refl
  same_labels (x ∷ fs) = ap (λ ls. label_id x.label ∷ ls) (same_labels fs)

  constant_from : (fs : List (Field A)) → AreConstant (map (on_field f) fs) → AreConstant fs
  constant_from [] h = tt
  constant_from (x ∷ fs) h = (h.0, constant_from fs h.1)

  labels_from : (fs : List (Field A)) → LabelsDiffer (map (on_field f) fs) → LabelsDiffer fs
  labels_from fs h = subst (λ ls. Distinct ls) (same_labels fs) h

  same_length : (xs : List A) → length (map f xs) ≡ length xs
  same_length [] = refl
  same_length (x ∷ xs) = ap suc (same_length xs)

  map_both : (xs ys : List A) → map f (xs ++ ys) ≡ map f xs ++ map f ys
  map_both [] ys = refl
  map_both (x ∷ xs) ys = ap (λ zs. f x ∷ zs) (map_both xs ys)

  form_from : (y : Node A) → HasShareableForm (on_node f y) → HasShareableForm y
  form_from (node.Number k) h = tt
  form_from node.Bool h = tt
  form_from node.Char h = tt
  form_from node.Text h = tt
  form_from node.Blob h = tt
  form_from node.Principal h = tt
  form_from node.Error h = absurd h
  form_from node.Null h = tt
  form_from node.Any h = tt
  form_from node.Bottom h = tt
  form_from (node.Opt a) h = tt
  form_from (node.Array a) h = tt
  form_from (node.MutArray a) h = absurd h
  form_from (node.Tuple ts) h = tt
  form_from (node.Object fs) h = constant_from fs h
  form_from (node.Actor fs) h = tt
  form_from (node.Variant fs) h = tt
  form_from (node.Func s ps rs) h = h
  form_from (node.Async a) h = absurd h
  form_from (node.Variable v b) h = absurd h

  parts_from : (P : A → Type 0) (Q : B → Type 0) (y : Node A) → ((x : A) → Among x (types_in y) → Q (f x) → P x) → PartsShareable Q (on_node f y) → PartsShareable P y
  parts_from P Q (node.Number k) g h = tt
  parts_from P Q node.Bool g h = tt
  parts_from P Q node.Char g h = tt
  parts_from P Q node.Text g h = tt
  parts_from P Q node.Blob g h = tt
  parts_from P Q node.Principal g h = tt
  parts_from P Q node.Error g h = tt
  parts_from P Q node.Null g h = tt
  parts_from P Q node.Any g h = tt
  parts_from P Q node.Bottom g h = tt
  parts_from P Q (node.Opt a) g h = (g a (inl refl) h.0, tt)
  parts_from P Q (node.Array a) g h = (g a (inl refl) h.0, tt)
  parts_from P Q (node.MutArray a) g h = (g a (inl refl) h.0, tt)
  parts_from P Q (node.Tuple ts) g h = each_from P Q ts g h
  parts_from P Q (node.Object fs) g h = fields_from P Q fs g h
  parts_from P Q (node.Actor fs) g h = tt
  parts_from P Q (node.Variant fs) g h = fields_from P Q fs g h
  parts_from P Q (node.Func s ps rs) g h = tt
  parts_from P Q (node.Async a) g h = (g a (inl refl) h.0, tt)
  parts_from P Q (node.Variable v b) g h = (g b (inl refl) h.0, tt)

  shared_from : (y : Node A) → IsSharedFunction (on_node f y) → IsSharedFunction y
  shared_from (node.Number k) h = absurd h
  shared_from node.Bool h = absurd h
  shared_from node.Char h = absurd h
  shared_from node.Text h = absurd h
  shared_from node.Blob h = absurd h
  shared_from node.Principal h = absurd h
  shared_from node.Error h = absurd h
  shared_from node.Null h = absurd h
  shared_from node.Any h = absurd h
  shared_from node.Bottom h = absurd h
  shared_from (node.Opt a) h = absurd h
  shared_from (node.Array a) h = absurd h
  shared_from (node.MutArray a) h = absurd h
  shared_from (node.Tuple ts) h = absurd h
  shared_from (node.Object fs) h = absurd h
  shared_from (node.Actor fs) h = absurd h
  shared_from (node.Variant fs) h = absurd h
  shared_from (node.Func s ps rs) h = h
  shared_from (node.Async a) h = absurd h
  shared_from (node.Variable v b) h = absurd h

  no_future_from : (y : Node A) → async_of (on_node f y) ≡ None → async_of y ≡ None
  no_future_from (node.Number k) h = refl
  no_future_from node.Bool h = refl
  no_future_from node.Char h = refl
  no_future_from node.Text h = refl
  no_future_from node.Blob h = refl
  no_future_from node.Principal h = refl
  no_future_from node.Error h = refl
  no_future_from node.Null h = refl
  no_future_from node.Any h = refl
  no_future_from node.Bottom h = refl
  no_future_from (node.Opt a) h = refl
  no_future_from (node.Array a) h = refl
  no_future_from (node.MutArray a) h = refl
  no_future_from (node.Tuple ts) h = refl
  no_future_from (node.Object fs) h = refl
  no_future_from (node.Actor fs) h = refl
  no_future_from (node.Variant fs) h = refl
  no_future_from (node.Func s ps rs) h = refl
  no_future_from (node.Async a) h = cc
  no_future_from (node.Variable v b) h = refl

  types_seen : (fs : List (Field A)) → field_types (map (on_field f) fs) ≡ map f (field_types fs)
  types_seen [] = refl
  types_seen (x ∷ fs) = ap (λ ts. f x.part ∷ ts) (types_seen fs)

  pub parts_are : (y : Node A) → types_in (on_node f y) ≡ map f (types_in y)
  parts_are (node.Number k) = refl
  parts_are node.Bool = refl
  parts_are node.Char = refl
  parts_are node.Text = refl
  parts_are node.Blob = refl
  parts_are node.Principal = refl
  parts_are node.Error = refl
  parts_are node.Null = refl
  parts_are node.Any = refl
  parts_are node.Bottom = refl
  parts_are (node.Opt a) = refl
  parts_are (node.Array a) = refl
  parts_are (node.MutArray a) = refl
  parts_are (node.Tuple ts) = refl
  parts_are (node.Object fs) = types_seen fs
  parts_are (node.Actor fs) = types_seen fs
  parts_are (node.Variant fs) = types_seen fs
  parts_are (node.Func s ps rs) = sym (map_both ps rs)
  parts_are (node.Async a) = refl
  parts_are (node.Variable v b) = refl

-- Of two ways to see types, the second of which has the head that the first has of each type with this property, and this of its parts.
module _ {A B : Type 0} (head : A → Node A) (other : B → Node B) (f : A → B) (P : A → Type 0) (seen : (t : A) → P t → other (f t) ≡ on_node f (head t)) (inside : (t u : A) → P t → Among u (types_in (head t)) → P u) where
  shares : (n : ℕ) (t : A) → P t → Shares other n (f t) → Shares head n t
  unfolding Shares
  shares zero t p h = tt
  shares (suc n) t p h =
      let e = seen t p in (
        form_from f (head t) (subst (λ y. HasShareableForm y) e h.0),
        parts_from f (Shares head n) (Shares other n) (head t) (λ u m k. shares n u (inside t u p m) k) (subst (λ y. PartsShareable (Shares other n) y) e h.1),
      )

  shareable : (t : A) → P t → IsShareable other (f t) → IsShareable head t
  shareable t p h = record { by = λ n. shares n t p (h.by n) }

  no_future : (t : A) → P t → async_of (other (f t)) ≡ None → async_of (head t) ≡ None
  no_future t p h = no_future_from f (head t) (sym (ap async_of (seen t p)) ∙ h)

  methods : (fs : List (Field A)) → ((u : A) → Among u (field_types fs) → P u) → Each (λ x. IsSharedFunction (other x.part) × (is_method_name x.label ≡ true)) (map (on_field f) fs)
      → Each (λ x. IsSharedFunction (head x.part) × (is_method_name x.label ≡ true)) fs
  methods [] g h = tt
  methods (x ∷ fs) g h = ((shared_from f (head x.part) (subst (λ y. IsSharedFunction y) (seen x.part (g x.part (inl refl))) h.0.0), h.0.1), methods fs (λ u m. g u (inr m)) h.1)

  lawful_function : (s : Sort) (ps rs : List A) → ((u : A) → Among u (ps ++ rs) → P u) → IsLawfulNode other (node.Func s (map f ps) (map f rs)) → IsLawfulNode head (node.Func s ps rs)
  lawful_function sort.Local ps rs g h = sym (same_length f rs) ∙ h
  lawful_function sort.Shared ps rs g h = each_from f (IsShareable head) (IsShareable other) (ps ++ rs) (λ u m k. shareable u (g u m) k) (subst (λ us. Each (IsShareable other) us) (sym (map_both f ps rs)) h)
  lawful_function sort.Query ps rs g h = each_from f (IsShareable head) (IsShareable other) (ps ++ rs) (λ u m k. shareable u (g u m) k) (subst (λ us. Each (IsShareable other) us) (sym (map_both f ps rs)) h)

  pub lawful_from : (y : Node A) → ((u : A) → Among u (types_in y) → P u) → IsLawfulNode other (on_node f y) → IsLawfulNode head y
  lawful_from (node.Number k) g h = tt
  lawful_from node.Bool g h = tt
  lawful_from node.Char g h = tt
  lawful_from node.Text g h = tt
  lawful_from node.Blob g h = tt
  lawful_from node.Principal g h = tt
  lawful_from node.Error g h = tt
  lawful_from node.Null g h = tt
  lawful_from node.Any g h = tt
  lawful_from node.Bottom g h = tt
  lawful_from (node.Opt a) g h = tt
  lawful_from (node.Array a) g h = tt
  lawful_from (node.MutArray a) g h = tt
  lawful_from (node.Tuple ts) g h = λ e. h (same_length f ts ∙ e)
  lawful_from (node.Object fs) g h = labels_from f fs h
  lawful_from (node.Actor fs) g h = (labels_from f fs h.0, constant_from f fs h.1, methods fs g h.2)
  lawful_from (node.Variant fs) g h = (labels_from f fs h.0, constant_from f fs h.1)
  lawful_from (node.Func s ps rs) g h = lawful_function s ps rs g h
  lawful_from (node.Async a) g h = tt
  lawful_from (node.Variable v b) g h = tt

  pub futureless_from : (y : Node A) → ((u : A) → Among u (types_in y) → P u) → HasNoFuture other (on_node f y) → HasNoFuture head y
  futureless_from y g h =
      each_from f (λ u. async_of (head u) ≡ None) (λ u. async_of (other u) ≡ None) (types_in y) (λ u m k. no_future u (g u m) k)
      (subst (λ us. Each (λ u. async_of (other u) ≡ None) us) (parts_are f y) h)
