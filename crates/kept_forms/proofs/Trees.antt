-- Typed values and their Candid values are told by their parts.
use Rattle.std.proofs.Common.{◌≡◌, ℕ, zero, suc, ◌<◌, List, [], ◌∷◌, ◌++◌, length, Bool, true, false, cond, slice_get, refl, sym, ap, ap₂, ◌∙◌, append_assoc, arith}
use Rattle.std.specs.Prelude.{nat_lt}
use Rattle.std.proofs.lemmas.List.{append-nil, length-map}
use Rattle.mo_types.specs.declared.datum.Datum.{Datum}
use Rattle.mo_types.specs.declared.datum.Datum.TheVariants as part
use Rattle.mo_types.specs.declared.node.Field.{Field}
use Rattle.mo_types.specs.declared.node.Node.{Node}
use Rattle.mo_types.specs.declared.node.Node.TheVariants as node
use Rattle.mo_types.specs.Code.{beside}
use Rattle.mo_types.specs.Form.{bytes_one_by_one, form, form_inner, form_part, is_unit_by, under_tag}
use Rattle.mo_types.specs.Label.{label_id}
use Rattle.mo_types.specs.Values.{Values, Nil, Value, flat, arity, firsts, after, tree, copies, by_label, insert_field, one_type, inside, IsPartOf, HaveTypes}

-- so many values stand side by side
abbrev pub tops : Values → ℕ
tops Nil = 0
tops (Value p i o) = suc (tops o)

-- inside each part are as many values as it says
abbrev pub IsFull : Values → Type 0
IsFull Nil = Unit {0}
IsFull (Value p i o) = (tops i ≡ arity p) × IsFull i × IsFull o

firsts_beside : (v w : Values) → firsts (tops v) (beside v w) ≡ v
firsts_beside Nil w = refl
firsts_beside (Value p i o) w = ap (λ (x : Values). Value p i x) (firsts_beside o w)

after_beside : (v w : Values) → after (tops v) (beside v w) ≡ w
after_beside Nil w = refl
after_beside (Value p i o) w = after_beside o w

beside_nil : (v : Values) → beside v Nil ≡ v
beside_nil Nil = refl
beside_nil (Value p i o) = ap (λ (x : Values). Value p i x) (beside_nil o)

tree_beside : (v : Values) (ps : List Datum) → IsFull v → tree (flat v ++ ps) ≡ beside v (tree ps)
tree_beside Nil ps h = refl
tree_beside (Value p i o) ps h =
    let rest : Values = beside o (tree ps) in
    let all : tree ((flat i ++ flat o) ++ ps) ≡ beside i rest =
    ap tree (append_assoc (flat i) (flat o) ps) ∙ tree_beside i (flat o ++ ps) h.1 ∙ ap (λ (x : Values). beside i x) (tree_beside o ps h.2) in
    ap (λ (t : Values). Value p (firsts (arity p) t) (after (arity p) t)) all
    ∙ ap₂ (λ (x y : Values). Value p x y) (ap (λ (n : ℕ). firsts n (beside i rest)) (sym h.0) ∙ firsts_beside i rest) (ap (λ (n : ℕ). after n (beside i rest)) (sym h.0) ∙ after_beside i rest)

pub tree_full : (v : Values) → IsFull v → tree (flat v) ≡ v
tree_full v h = ap tree (sym (append-nil (flat v))) ∙ tree_beside v [] h ∙ beside_nil v

-- ---- values of types

module _ {A : Type 0} where
  length_inserted : (f : Field A) (fs : List (Field A)) → length (insert_field f fs) ≡ suc (length fs)
  length_inserted f [] = refl
  length_inserted f (g ∷ gs) = by (nat_lt (label_id f.label) (label_id g.label)) (length_inserted f gs)
    where
      by : (b : Bool) → length (insert_field f gs) ≡ suc (length gs) → length (cond b (f ∷ g ∷ gs) (g ∷ insert_field f gs)) ≡ suc (suc (length gs))
      by true e = refl
      by false e = ap suc e

  length_by_label : (fs : List (Field A)) → length (by_label fs) ≡ length fs
  length_by_label [] = refl
  length_by_label (f ∷ fs) = length_inserted f (by_label fs) ∙ ap suc (length_by_label fs)

  length_copies : (n : ℕ) (a : A) → length (copies n a) ≡ n
  length_copies zero a = refl
  length_copies (suc n) a = ap suc (length_copies n a)

  length_one : (fs : List (Field A)) (i : ℕ) → i < length fs → length (one_type (slice_get fs i)) ≡ 1
  length_one [] i h = absurd (omega arith)
  length_one (f ∷ fs) zero h = refl
  length_one (f ∷ fs) (suc i) h = length_one fs i (omega arith)

  pub length_inside : (n : Node A) (p : Datum) → IsPartOf n p → length (inside n p) ≡ arity p
  length_inside (node.Number k) (part.Number z) h = refl
  length_inside node.Bool (part.Flag x) h = refl
  length_inside node.Char (part.Char c) h = refl
  length_inside node.Text (part.Text s) h = refl
  length_inside node.Blob (part.Blob s) h = refl
  length_inside node.Principal (part.Principal s) h = refl
  length_inside node.Null part.Null h = refl
  length_inside node.Any (part.Record m) h = sym h
  length_inside (node.Opt u) part.Null h = refl
  length_inside (node.Opt u) part.Present h = refl
  length_inside (node.Array u) (part.Many m) h = length_copies m u
  length_inside (node.Tuple ts) (part.Record m) h = sym h
  length_inside (node.Object fs) (part.Record m) h = length-map (by_label fs) (λ (f : Field A). f.part) ∙ length_by_label fs ∙ sym h
  length_inside (node.Actor fs) (part.Actor s) h = refl
  length_inside (node.Variant fs) (part.Tag i) h = length_one (by_label fs) i (omega (arith, h, length_by_label fs))
  length_inside (node.Func s ps rs) (part.Method p m) h = refl
  length_inside n p h = absurd h

module _ {A : Type 0} (head : A → Node A) where
  pub typed_full : (ts : List A) (v : Values) → HaveTypes head ts v → (tops v ≡ length ts) × IsFull v
  typed_full [] Nil h = (refl, tt)
  typed_full [] (Value p i o) h = absurd h
  typed_full (t ∷ ts) Nil h = absurd h
  typed_full (t ∷ ts) (Value p i o) h =
      let inner = typed_full (inside (head t) p) i h.1 in
      let rest = typed_full ts o h.2 in
      (ap suc rest.0, (inner.0 ∙ length_inside (head t) p h.0, inner.1, rest.1))

  pub tree_flat : (ts : List A) (v : Values) → HaveTypes head ts v → tree (flat v) ≡ v
  tree_flat ts v h = tree_full v (typed_full ts v h).1

  -- ---- Candid values

  bytes_full : (bytes : List ℕ) → (tops (bytes_one_by_one bytes) ≡ length bytes) × IsFull (bytes_one_by_one bytes)
  bytes_full [] = (refl, tt)
  bytes_full (b ∷ bytes) = let rest = bytes_full bytes in (ap suc rest.0, (refl, tt, rest.1))

  unit_full : (n : Node A) (w : Values) → (tops w ≡ 1) × IsFull w → (tops (is_unit_by head n (Value part.Null Nil Nil) w) ≡ 1) × IsFull (is_unit_by head n (Value part.Null Nil Nil) w)
  unit_full (node.Tuple []) w h = (refl, (refl, tt, tt))
  unit_full n w h = h

  tag_full : (ts : List A) (w : Values) → (tops w ≡ length ts) × IsFull w → (tops (under_tag head ts w) ≡ length ts) × IsFull (under_tag head ts w)
  tag_full (t ∷ []) w h = unit_full (head t) w h
  tag_full ts w h = h

  -- inside a part are as many values as its Candid part says
  abbrev Full : Node A → Datum → Values → Type 0
  Full n p w = (tops (form_inner head n p w) ≡ arity (form_part n p)) × IsFull (form_inner head n p w)

  inner_full : (n : Node A) (p : Datum) (w : Values) → IsPartOf n p → (tops w ≡ length (inside n p)) × IsFull w → Full n p w
  inner_full node.Blob (part.Blob bytes) w of h = bytes_full bytes
  inner_full node.Any (part.Record k) w of h = (refl, tt)
  inner_full node.Char (part.Char c) w of h = (h.0, h.1)
  inner_full (node.Variant fs) (part.Tag k) w of h =
      let tagged = tag_full (inside (node.Variant fs) (part.Tag k)) w h in
      (tagged.0 ∙ length_inside (node.Variant fs) (part.Tag k) of, tagged.1)
  inner_full (node.Number k) (part.Number z) w of h = (h.0, h.1)
  inner_full node.Bool (part.Flag x) w of h = (h.0, h.1)
  inner_full node.Text (part.Text s) w of h = (h.0, h.1)
  inner_full node.Principal (part.Principal s) w of h = (h.0, h.1)
  inner_full node.Null part.Null w of h = (h.0, h.1)
  inner_full (node.Opt u) part.Null w of h = (h.0, h.1)
  inner_full (node.Opt u) part.Present w of h = (h.0, h.1)
  inner_full (node.Array u) (part.Many m) w of h = (h.0 ∙ length_copies m u, h.1)
  inner_full (node.Tuple ts) (part.Record m) w of h = (h.0 ∙ sym of, h.1)
  inner_full (node.Object fs) (part.Record m) w of h = (h.0 ∙ length_inside (node.Object fs) (part.Record m) of, h.1)
  inner_full (node.Actor fs) (part.Actor s) w of h = (h.0, h.1)
  inner_full (node.Func s ps rs) (part.Method p m) w of h = (h.0, h.1)
  inner_full n p w of h = absurd of

  form_full : (ts : List A) (v : Values) → HaveTypes head ts v → (tops (form head ts v) ≡ length ts) × IsFull (form head ts v)
  form_full [] Nil h = (refl, tt)
  form_full [] (Value p i o) h = absurd h
  form_full (t ∷ ts) Nil h = absurd h
  form_full (t ∷ ts) (Value p i o) h =
      let inner = inner_full (head t) p (form head (inside (head t) p) i) h.0 (form_full (inside (head t) p) i h.1) in
      let rest = form_full ts o h.2 in
      (ap suc rest.0, (inner.0, inner.1, rest.1))

  pub tree_form : (ts : List A) (v : Values) → HaveTypes head ts v → tree (flat (form head ts v)) ≡ form head ts v
  tree_form ts v h = tree_full (form head ts v) (form_full ts v h).1
