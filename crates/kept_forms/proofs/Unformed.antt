-- Typed values from their Candid values, part by part.
use Rattle.std.proofs.Common.{◌≡◌, ℕ, Bool, true, false, List, [], ◌∷◌, ◌++◌, length, refl, sym, ap, ap₂, ◌∙◌, append_assoc}
use Rattle.std.specs.Prelude.{pos}
use Rattle.std.proofs.lemmas.List.{append-nil}
use Rattle.mo_types.specs.declared.datum.Datum.{Datum}
use Rattle.mo_types.specs.declared.datum.Datum.TheVariants as part
use Rattle.mo_types.specs.declared.node.Node.{Node}
use Rattle.mo_types.specs.declared.node.Node.TheVariants as node
use Rattle.mo_types.specs.Form.{form}
use Rattle.mo_types.specs.Values.{flat, inside, HaveTypes, IsPartOf, Nil, Value, Values}
use Rattle.kept_forms.specs.Parts.{asked, begins, bytes_behind, form_at, is_tag, numbers, unform_at, unformed, waiting, Gathers, Next}
use Rattle.kept_forms.proofs.Formed.{all_at, few_inside, few_others, nothing, value_so, whole, Few}

module _ {A : Type 0} (head : A → Node A) where
  -- bytes one by one
  gather : (bytes : List ℕ) (b : ℕ) (before : List ℕ) (ws : List (A × Bool)) (more : List Datum)
      → unformed head (Gathers (length bytes) before) ws (numbers (b ∷ bytes) ++ more) ≡ part.Blob (before ++ b ∷ bytes) ∷ unformed head Next ws more
  gather [] b before ws more = refl
  gather (c ∷ bytes) b before ws more =
      gather bytes c (before ++ b ∷ []) ws more ∙ ap (λ (l : List ℕ). part.Blob l ∷ unformed head Next ws more) (append_assoc before (b ∷ []) (c ∷ bytes))

  -- what a part comes to at a type with this head
  abbrev step : Node A → Bool → Datum → List (A × Bool) → List Datum → List Datum
  step n b p ws ps =
      begins (bytes_behind n p) (unform_at n b p ∷ unformed head Next (asked n (unform_at n b p) ++ ws) ps) (part.Blob [] ∷ unformed head Next ws ps) (λ k. unformed head (Gathers k []) ws ps)

  module _ (ws : List (A × Bool)) (more : List Datum) where
    abbrev Back : Node A → Bool → Datum → Type 0
    Back n b q = (t : A) → head t ≡ n → unformed head Next ((t, b) ∷ ws) (form_at n b q ++ more) ≡ q ∷ unformed head Next (asked n q ++ ws) more

    blob_back : (b : Bool) (bytes : List ℕ) → step node.Blob b (part.Many (length bytes)) ws (numbers bytes ++ more) ≡ part.Blob bytes ∷ unformed head Next ws more
    blob_back b [] = refl
    blob_back b (c ∷ bytes) = gather bytes c [] ws more

    back_at : (n : Node A) (b : Bool) (q : Datum) → IsPartOf n q → Back n b q
    back_at node.Char true (part.Char c) of = λ t is. ap (λ (m : Node A). step m true (part.Number (pos c)) ws more) is
    back_at node.Char false (part.Char c) of = λ t is. ap (λ (m : Node A). step m false (part.Number (pos c)) ws more) is
    back_at node.Char b q of = absurd of
    back_at node.Any true (part.Record k) of = λ t is. ap (λ (m : Node A). step m true part.Null ws more) is ∙ ap (λ (j : ℕ). part.Record j ∷ unformed head Next ws more) (sym of)
    back_at node.Any false (part.Record k) of = λ t is. ap (λ (m : Node A). step m false part.Null ws more) is ∙ ap (λ (j : ℕ). part.Record j ∷ unformed head Next ws more) (sym of)
    back_at node.Any b q of = absurd of
    back_at node.Blob true (part.Blob bytes) of = λ t is. ap (λ (m : Node A). step m true (part.Many (length bytes)) ws (numbers bytes ++ more)) is ∙ blob_back true bytes
    back_at node.Blob false (part.Blob bytes) of = λ t is. ap (λ (m : Node A). step m false (part.Many (length bytes)) ws (numbers bytes ++ more)) is ∙ blob_back false bytes
    back_at node.Blob b q of = absurd of
    back_at (node.Tuple []) true (part.Record k) of = λ t is. ap (λ (m : Node A). step m true part.Null ws more) is ∙ ap (λ (j : ℕ). part.Record j ∷ unformed head Next ws more) (sym of)
    back_at (node.Tuple []) true q of = absurd of
    back_at n true q of = λ t is. ap (λ (m : Node A). step m true q ws more) is
    back_at n false q of = λ t is. ap (λ (m : Node A). step m false q ws more) is

  back : (v : Values) (b : Bool) (ts : List A) (ws : List (A × Bool)) (rest : List Datum) → Few b ts → HaveTypes head ts v → unformed head Next (all_at b ts ++ ws) (flat (whole head b ts v) ++ rest) ≡ flat v ++ unformed head Next ws rest
  back Nil b [] ws rest few h = ap (λ (l : List Datum). unformed head Next ws (l ++ rest)) (nothing head b)
  back Nil b (t ∷ ts) ws rest few h = absurd h
  back (Value p i o) b [] ws rest few h = absurd h
  back (Value p i o) b (t ∷ ts) ws rest few h =
      let first : List Datum = form_at (head t) b p in
      let inner : List Datum = flat (whole head (is_tag (head t) p) (inside (head t) p) i) in
      let other : List Datum = flat (whole head b ts o) in
      let others : List (A × Bool) = all_at b ts ++ ws in
      ap (λ (l : List Datum). unformed head Next ((t, b) ∷ others) l)
      (ap (λ (l : List Datum). l ++ rest) (value_so head b t ts p i o few h.0 h.1 h.2) ∙ append_assoc first (inner ++ other) rest ∙ ap (λ (l : List Datum). first ++ l) (append_assoc inner other rest))
      ∙ back_at others (inner ++ (other ++ rest)) (head t) b p h.0 t refl
      ∙ ap (λ (l : List Datum). p ∷ l)
      (back i (is_tag (head t) p) (inside (head t) p) others (other ++ rest) (few_inside (head t) p) h.1
      ∙ ap (λ (l : List Datum). flat i ++ l) (back o b ts ws rest (few_others b t ts few) h.2)
      ∙ sym (append_assoc (flat i) (flat o) (unformed head Next ws rest)))

  pub unforms : (ts : List A) (v : Values) → HaveTypes head ts v → unformed head Next (waiting ts) (flat (form head ts v)) ≡ flat v
  unforms ts v h =
      ap₂ (λ (ws : List (A × Bool)) (l : List Datum). unformed head Next ws l) (sym (append-nil (waiting ts))) (sym (append-nil (flat (form head ts v))))
      ∙ back v false ts [] [] tt h
      ∙ append-nil (flat v)
