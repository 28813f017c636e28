-- What is met of types that have the same heads in two collections, with all that stands in them, is the same in both.
use Rattle.std.proofs.Common.{◌≡◌, ◌∙◌, ℕ, zero, suc, List, [], ◌∷◌, map, Bool, true, false, cond, Option, Some, None, refl, ap, ap₂, slice_get}
use Rattle.std.specs.Prelude.{nat_lt, if◌then◌else◌}
use Rattle.std.specs.Str.{bytes_eq}
use Rattle.mo_types.specs.declared.datum.Datum.{Datum}
use Rattle.mo_types.specs.declared.datum.Datum.TheVariants as part
use Rattle.mo_types.specs.declared.node.Field.{Field}
use Rattle.mo_types.specs.declared.node.Node.{Node}
use Rattle.mo_types.specs.declared.node.Node.TheVariants as node
use Rattle.mo_types.specs.Form.{form_part, under_tag, is_unit_by, form_inner, form}
use Rattle.mo_types.specs.Label.{label_id}
use Rattle.mo_types.specs.Sub.{Each}
use Rattle.mo_types.specs.Values.{Values, Nil, Value, insert_field, by_label, copies, one_type, inside, types_of}
use Rattle.mo_values.specs.Equality.{same_values, same_forms, equal}
use Rattle.mo_values.specs.Messages.{count, under, labels, types, types_inside, part_at, message_of, function_at, both, plain_at, plain_each, plain}
use Rattle.mo_values.specs.Shapes.{Bytes, Head, Present, Tuple, Array, Object, Tag, Shape, Shapes, Made, Function, NoShape, AShape}
use Rattle.typed_tree.specs.Instances.{types_in, field_types}

abbrev OfOption : {A : Type 0} → (A → Type 0) → Option A → Type 0
OfOption P None = Unit {0}
OfOption P (Some a) = P a

module _ {A : Type 0} (P : A → Type 0) where
  each_some : (ts : List A) → Each P ts → Each (OfOption P) (map (λ t. Some t) ts)
  each_some [] h = tt
  each_some (t ∷ ts) h = (h.0, each_some ts h.1)

  each_copy : (n : ℕ) (a : A) → P a → Each P (copies n a)
  each_copy zero a h = tt
  each_copy (suc n) a h = (h, each_copy n a h)

  option_copy : (n : ℕ) (a : A) → P a → Each (OfOption P) (copies n (Some a))
  option_copy zero a h = tt
  option_copy (suc n) a h = (h, option_copy n a h)

  under_of : (l : Bytes) (fs : List (Field A)) → Each P (field_types fs) → OfOption P (under l (labels fs) (types fs))
  under_of l [] h = tt
  under_of l (f ∷ fs) h = by (bytes_eq l f.label) (under_of l fs h.1) where
    by : (b : Bool) → OfOption P (under l (labels fs) (types fs)) → OfOption P (cond b (Some f.part) (under l (labels fs) (types fs)))
    by true k = h.0
    by false k = k

  unders_of : (ls : List Bytes) (fs : List (Field A)) → Each P (field_types fs) → Each (OfOption P) (map (λ l. under l (labels fs) (types fs)) ls)
  unders_of [] fs h = tt
  unders_of (l ∷ ls) fs h = (under_of l fs h, unders_of ls fs h)

  types_inside_of : (x : Node A) (h : Head) (n : ℕ) → Each P (types_in x) → Each (OfOption P) (types_inside x h n)
  types_inside_of (node.Opt a) Present n p = (p.0, tt)
  types_inside_of (node.Tuple ts) Tuple n p = each_some ts p
  types_inside_of (node.Array a) Array n p = option_copy n a p.0
  types_inside_of (node.Object fs) (Object ls) n p = unders_of ls fs p
  types_inside_of (node.Variant fs) (Tag l) n p = (under_of l fs p, tt)
  types_inside_of x h n p = tt

  insert_of : (f : Field A) (fs : List (Field A)) → P f.part → Each P (types_of fs) → Each P (types_of (insert_field f fs))
  insert_of f [] p h = (p, tt)
  insert_of f (g ∷ gs) p h = by (nat_lt (label_id f.label) (label_id g.label)) (insert_of f gs p h.1) where
    by : (b : Bool) → Each P (types_of (insert_field f gs)) → Each P (types_of (if b then f ∷ g ∷ gs else g ∷ insert_field f gs))
    by true k = (p, h)
    by false k = (h.0, k)

  sorted_of : (fs : List (Field A)) → Each P (field_types fs) → Each P (types_of (by_label fs))
  sorted_of [] h = tt
  sorted_of (f ∷ fs) h = insert_of f (by_label fs) h.0 (sorted_of fs h.1)

  one_of : (fs : List (Field A)) (i : ℕ) → Each P (types_of fs) → Each P (one_type (slice_get fs i))
  one_of [] i h = tt
  one_of (f ∷ fs) zero h = (h.0, tt)
  one_of (f ∷ fs) (suc i) h = one_of fs i h.1

  inside_of : (x : Node A) (p : Datum) → Each P (types_in x) → Each P (inside x p)
  inside_of (node.Opt a) part.Present h = (h.0, tt)
  inside_of (node.Array a) (part.Many n) h = each_copy n a h.0
  inside_of (node.Tuple ts) (part.Record n) h = h
  inside_of (node.Object fs) (part.Record n) h = sorted_of fs h
  inside_of (node.Variant fs) (part.Tag i) h = one_of (by_label fs) i (sorted_of fs h)
  inside_of x p h = tt

module _ {A : Type 0} (head other : A → Node A) (P : A → Type 0) (same : (t : A) → P t → (other t ≡ head t) × Each P (types_in (head t))) where
  unit_same : (x : Node A) (a b : Values) → is_unit_by other x a b ≡ is_unit_by head x a b
  unit_same (node.Tuple []) a b = refl
  unit_same (node.Tuple (t ∷ ts)) a b = refl
  unit_same x a b = refl

  tag_same : (ts : List A) (v : Values) → Each P ts → under_tag other ts v ≡ under_tag head ts v
  tag_same [] v p = refl
  tag_same (t ∷ []) v p = ap (λ x. is_unit_by other x (Value part.Null Nil Nil) v) (same t p.0).0 ∙ unit_same (head t) (Value part.Null Nil Nil) v
  tag_same (t ∷ u ∷ ts) v p = refl

  inner_same : (x : Node A) (p : Datum) (v : Values) → Each P (types_in x) → form_inner other x p v ≡ form_inner head x p v
  inner_same node.Blob (part.Blob bytes) v h = refl
  inner_same node.Any p v h = refl
  inner_same (node.Variant fs) p v h = tag_same (inside (node.Variant fs) p) v (inside_of P (node.Variant fs) p h)
  inner_same x p v h = refl

  form_same : (ts : List A) (v : Values) → Each P ts → form other ts v ≡ form head ts v
  form_same [] v p = refl
  form_same (t ∷ ts) Nil p = refl
  form_same (t ∷ ts) (Value d within others) p =
      ap (λ x. Value (form_part x d) (form_inner other x d (form other (inside x d) within)) (form other ts others)) (same t p.0).0
      ∙ ap₂ (λ a b. Value (form_part (head t) d) a b)
      (inner_same (head t) d (form other (inside (head t) d) within) (same t p.0).1 ∙ ap (form_inner head (head t) d) (form_same (inside (head t) d) within (inside_of P (head t) d (same t p.0).1)))
      (form_same ts others p.1)

  forms_same : (t : A) (a b : Option Values) → P t → same_forms other t a b ≡ same_forms head t a b
  forms_same t None b p = refl
  forms_same t (Some a) None p = refl
  forms_same t (Some a) (Some b) p = ap₂ (λ x y. Some (same_values x y)) (form_same (t ∷ []) a (p, tt)) (form_same (t ∷ []) b (p, tt))

module _ {A F : Type 0} (head other : A → Node A) (P : A → Type 0) (same : (t : A) → P t → (other t ≡ head t) × Each P (types_in (head t))) where
  mutual
    plain_same : (o : Option A) (v : Shape F) → OfOption P o → plain_at other o v ≡ plain_at head o v
    plain_same None (Made h within) p = refl
    plain_same None (Function f) p = refl
    plain_same (Some t) (Made h within) p =
        ap (λ x. message_of x h (part_at x h (count within)) (plain_each other (types_inside x h (count within)) within)) (same t p).0
        ∙ ap (message_of (head t) h (part_at (head t) h (count within))) (each_same (types_inside (head t) h (count within)) within (types_inside_of P (head t) h (count within) (same t p).1))
    plain_same (Some t) (Function f) p = ap function_at (same t p).0

    each_same : (os : List (Option A)) (vs : Shapes F) → Each (OfOption P) os → plain_each other os vs ≡ plain_each head os vs
    each_same [] NoShape p = refl
    each_same [] (AShape v vs) p = refl
    each_same (o ∷ os) NoShape p = refl
    each_same (o ∷ os) (AShape v vs) p = ap₂ both (plain_same o v p.0) (each_same os vs p.1)

  pub equal_same : (t : A) (v w : Shape F) → P t → equal other t v w ≡ equal head t v w
  equal_same t v w p = ap₂ (same_forms other t) (plain_same (Some t) v p) (plain_same (Some t) w p) ∙ forms_same head other P same t (plain head t v) (plain head t w) p
