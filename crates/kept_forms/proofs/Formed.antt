-- The Candid values of typed values, part by part.
use Rattle.std.proofs.Common.{◌≡◌, ℕ, Bool, true, false, List, [], ◌∷◌, ◌++◌, length, map, Option, Some, None, refl, sym, ap, ap₂, ◌∙◌, append_assoc}
use Rattle.std.specs.Prelude.{pos, slice_get}
use Rattle.std.proofs.lemmas.List.{append-nil}
use Rattle.mo_types.specs.declared.datum.Datum.{Datum}
use Rattle.mo_types.specs.declared.datum.Datum.TheVariants as part
use Rattle.mo_types.specs.declared.node.Field.{Field}
use Rattle.mo_types.specs.declared.node.Node.{Node}
use Rattle.mo_types.specs.declared.node.Node.TheVariants as node
use Rattle.mo_types.specs.Form.{bytes_one_by_one, form, form_inner, form_part, is_unit_by, under_tag}
use Rattle.mo_types.specs.Values.{by_label, flat, inside, one_type, HaveTypes, IsPartOf, Nil, Value, Values}
use Rattle.kept_forms.specs.Parts.{asked, form_at, form_one, formed, is_tag, numbers, waiting}

pub numbers_are : (bytes : List ℕ) → numbers bytes ≡ flat (bytes_one_by_one bytes)
numbers_are [] = refl
numbers_are (b ∷ bs) = ap (λ (l : List Datum). part.Number (pos b) ∷ l) (numbers_are bs)

module _ {A : Type 0} where
  -- under a tag stands one value at most
  abbrev pub Few : Bool → List A → Type 0
  Few true (t ∷ u ∷ us) = ⊥
  Few _ _ = Unit {0}

  abbrev pub all_at : Bool → List A → List (A × Bool)
  all_at b ts = map (λ t. (t, b)) ts

  few_one : (o : Option (Field A)) → Few true (one_type o)
  few_one None = tt
  few_one (Some f) = tt

  pub few_inside : (n : Node A) (p : Datum) → Few (is_tag n p) (inside n p)
  few_inside (node.Variant fs) (part.Tag i) = few_one (slice_get (by_label fs) i)
  few_inside (node.Variant fs) p = tt
  few_inside n p = tt

  pub few_others : (b : Bool) (t : A) (ts : List A) → Few b (t ∷ ts) → Few b ts
  few_others true t [] h = tt
  few_others true t (u ∷ us) h = absurd h
  few_others false t ts h = tt

module _ {A : Type 0} (head : A → Node A) where
  -- the Candid values, which stand under a tag or not
  abbrev pub whole : Bool → List A → Values → Values
  whole true ts v = under_tag head ts (form head ts v)
  whole false ts v = form head ts v

  pub no_values : (v : Values) → HaveTypes head [] v → v ≡ Nil
  no_values Nil h = refl
  no_values (Value p inner others) h = absurd h

  pub nothing : (b : Bool) → flat (whole b [] Nil) ≡ []
  nothing true = refl
  nothing false = refl

  -- what is inside a part
  inner_so : (n : Node A) (p : Datum) (i : Values) → IsPartOf n p → HaveTypes head (inside n p) i → form_one n p ++ flat (whole (is_tag n p) (inside n p) i) ≡ form_part n p ∷ flat (form_inner head n p (form head (inside n p) i))
  inner_so node.Blob (part.Blob bytes) Nil of h = ap (λ (l : List Datum). part.Many (length bytes) ∷ l) (append-nil (numbers bytes) ∙ numbers_are bytes)
  inner_so node.Blob (part.Blob bytes) (Value p inner others) of h = absurd h
  inner_so node.Blob p i of h = absurd of
  inner_so node.Any p Nil of h = refl
  inner_so node.Any p (Value q inner others) of h = absurd h
  inner_so (node.Variant fs) (part.Tag k) i of h = refl
  inner_so (node.Variant fs) p i of h = absurd of
  inner_so n p i of h = refl

  -- one value under a tag
  unit_so : (n : Node A) (p : Datum) (i : Values) → IsPartOf n p → HaveTypes head (inside n p) i
      → flat (is_unit_by head n (Value part.Null Nil Nil) (Value (form_part n p) (form_inner head n p (form head (inside n p) i)) Nil)) ≡ form_at n true p ++ (flat (whole (is_tag n p) (inside n p) i) ++ [])
  unit_so (node.Tuple []) (part.Record k) Nil of h = refl
  unit_so (node.Tuple []) (part.Record k) (Value q inner others) of h = absurd h
  unit_so (node.Tuple []) p i of h = absurd of
  unit_so (node.Tuple (x ∷ xs)) p i of h =
      ap (λ (l : List Datum). l ++ []) (sym (inner_so (node.Tuple (x ∷ xs)) p i of h))
      ∙ append_assoc (form_one (node.Tuple (x ∷ xs)) p) (flat (whole (is_tag (node.Tuple (x ∷ xs)) p) (inside (node.Tuple (x ∷ xs)) p) i)) []
  unit_so n p i of h =
      ap (λ (l : List Datum). l ++ []) (sym (inner_so n p i of h)) ∙ append_assoc (form_one n p) (flat (whole (is_tag n p) (inside n p) i)) []

  -- one value and those behind it
  pub value_so : (b : Bool) (t : A) (ts : List A) (p : Datum) (i o : Values) → Few b (t ∷ ts) → IsPartOf (head t) p → HaveTypes head (inside (head t) p) i → HaveTypes head ts o
      → flat (whole b (t ∷ ts) (Value p i o)) ≡ form_at (head t) b p ++ (flat (whole (is_tag (head t) p) (inside (head t) p) i) ++ flat (whole b ts o))
  value_so false t ts p i o few of hi ho =
      ap (λ (l : List Datum). l ++ flat (form head ts o)) (sym (inner_so (head t) p i of hi))
      ∙ append_assoc (form_one (head t) p) (flat (whole (is_tag (head t) p) (inside (head t) p) i)) (flat (form head ts o))
  value_so true t (u ∷ us) p i o few of hi ho = absurd few
  value_so true t [] p i (Value q inner others) few of hi ho = absurd ho
  value_so true t [] p i Nil few of hi ho = unit_so (head t) p i of hi

  goes : (v : Values) (b : Bool) (ts : List A) (ws : List (A × Bool)) (rest : List Datum) → Few b ts → HaveTypes head ts v → formed head (all_at b ts ++ ws) (flat v ++ rest) ≡ flat (whole b ts v) ++ formed head ws rest
  goes Nil b [] ws rest few h = ap (λ (l : List Datum). l ++ formed head ws rest) (sym (nothing b))
  goes Nil b (t ∷ ts) ws rest few h = absurd h
  goes (Value p i o) b [] ws rest few h = absurd h
  goes (Value p i o) b (t ∷ ts) ws rest few h =
      let first : List Datum = form_at (head t) b p in
      let inner : List Datum = flat (whole (is_tag (head t) p) (inside (head t) p) i) in
      let other : List Datum = flat (whole b ts o) in
      let last : List Datum = formed head ws rest in
      ap (λ (l : List Datum). first ++ formed head (asked (head t) p ++ (all_at b ts ++ ws)) l) (append_assoc (flat i) (flat o) rest)
      ∙ ap (λ (l : List Datum). first ++ l)
      (goes i (is_tag (head t) p) (inside (head t) p) (all_at b ts ++ ws) (flat o ++ rest) (few_inside (head t) p) h.1 ∙ ap (λ (l : List Datum). inner ++ l) (goes o b ts ws rest (few_others b t ts few) h.2))
      ∙ sym (ap (λ (l : List Datum). l ++ last) (value_so b t ts p i o few h.0 h.1 h.2) ∙ append_assoc first (inner ++ other) last ∙ ap (λ (l : List Datum). first ++ l) (append_assoc inner other last))

  pub forms : (ts : List A) (v : Values) → HaveTypes head ts v → formed head (waiting ts) (flat v) ≡ flat (form head ts v)
  forms ts v h =
      ap₂ (λ (ws : List (A × Bool)) (l : List Datum). formed head ws l) (sym (append-nil (waiting ts))) (sym (append-nil (flat v)))
      ∙ goes v false ts [] [] tt h
      ∙ append-nil (flat (form head ts v))
