-- Fields found by their labels, one after the other.
use Rattle.std.proofs.Common.{◌≡◌, ℕ, suc, ◌<◌, ◌≤◌, List, [], ◌∷◌, length, get_or, drop, Bool, true, false, cond, Some, None, refl, ap, ap₂, ◌∙◌, nat_lt}
use Rattle.std.specs.Prelude.{is_some, ◌&&◌}
use Rattle.std.specs.Str.{bytes_eq}
use Rattle.std.proofs.Math.ListN.{drop_of_length-le}
use Rattle.std.proofs.Math.Seq.{drop-cons}
use Rattle.mo_types.specs.declared.node.Field.{Field}
use Rattle.mo_types.specs.Label.{label_id}
use Rattle.mo_types.specs.Values.{insert_field, by_label}
use Rattle.mo_values.specs.Messages.{under, place, labels, types, all_there}
use Rattle.mo_values.specs.Shapes.{Bytes}

-- ---- whether a label is there

pub place_first : (l : Bytes) (ls : List Bytes) (m n : ℕ) → is_some (place l ls m) ≡ is_some (place l ls n)
place_first l [] m n = refl
place_first l (k ∷ ls) m n = by (bytes_eq l k) (place_first l ls (suc m) (suc n))
  where
    by : (b : Bool) → is_some (place l ls (suc m)) ≡ is_some (place l ls (suc n)) → is_some (cond b (Some m) (place l ls (suc m))) ≡ is_some (cond b (Some n) (place l ls (suc n)))
    by true e = refl
    by false e = e

module _ {A : Type 0} where
  place_inserted : (l : Bytes) (f : Field A) (fs : List (Field A)) (n : ℕ) → is_some (place l (labels (insert_field f fs)) n) ≡ is_some (place l (labels (f ∷ fs)) n)
  place_inserted l f [] n = refl
  place_inserted l f (g ∷ gs) n = by (nat_lt (label_id f.label) (label_id g.label)) (bytes_eq l g.label) (bytes_eq l f.label) (place_inserted l f gs (suc n))
    where
      swapped : (is_g is_f : Bool) → is_some (place l (labels (insert_field f gs)) (suc n)) ≡ is_some (cond is_f (Some (suc n)) (place l (labels gs) (suc (suc n))))
          → is_some (cond is_g (Some n) (place l (labels (insert_field f gs)) (suc n))) ≡ is_some (cond is_f (Some n) (cond is_g (Some (suc n)) (place l (labels gs) (suc (suc n)))))
      swapped true true e = refl
      swapped true false e = refl
      swapped false true e = e
      swapped false false e = e

      by : (before is_g is_f : Bool)
          → is_some (place l (labels (insert_field f gs)) (suc n)) ≡ is_some (cond (bytes_eq l f.label) (Some (suc n)) (place l (labels gs) (suc (suc n))))
          → is_some (place l (labels (cond before (f ∷ g ∷ gs) (g ∷ insert_field f gs))) n) ≡ is_some (cond (bytes_eq l f.label) (Some n) (cond (bytes_eq l g.label) (Some (suc n)) (place l (labels gs) (suc (suc n)))))
      by true is_g is_f e = refl
      by false is_g is_f e = swapped (bytes_eq l g.label) (bytes_eq l f.label) e

  pub place_by_label : (l : Bytes) (fs : List (Field A)) (n : ℕ) → is_some (place l (labels (by_label fs)) n) ≡ is_some (place l (labels fs) n)
  place_by_label l [] n = refl
  place_by_label l (f ∷ fs) n = place_inserted l f (by_label fs) n ∙ by (bytes_eq l f.label) (place_by_label l fs (suc n))
    where
      by : (b : Bool) → is_some (place l (labels (by_label fs)) (suc n)) ≡ is_some (place l (labels fs) (suc n))
          → is_some (cond b (Some n) (place l (labels (by_label fs)) (suc n))) ≡ is_some (cond b (Some n) (place l (labels fs) (suc n)))
      by true e = refl
      by false e = e

  -- ---- one step of a search

  pub type_passed : (l : Bytes) (fs : List (Field A)) (i : ℕ) (d : Field A) → i < length fs → bytes_eq l (get_or fs i d).label ≡ false
      → under l (labels (drop i fs)) (types (drop i fs)) ≡ under l (labels (drop (suc i) fs)) (types (drop (suc i) fs))
  type_passed l fs i d h other =
      ap (λ (gs : List (Field A)). under l (labels gs) (types gs)) (drop-cons fs i d h)
      ∙ ap (λ (b : Bool). cond b (Some (get_or fs i d).part) (under l (labels (drop (suc i) fs)) (types (drop (suc i) fs)))) other

  pub type_met : (l : Bytes) (fs : List (Field A)) (i : ℕ) (d : Field A) → i < length fs → bytes_eq l (get_or fs i d).label ≡ true
      → under l (labels (drop i fs)) (types (drop i fs)) ≡ Some (get_or fs i d).part
  type_met l fs i d h same =
      ap (λ (gs : List (Field A)). under l (labels gs) (types gs)) (drop-cons fs i d h)
      ∙ ap (λ (b : Bool). cond b (Some (get_or fs i d).part) (under l (labels (drop (suc i) fs)) (types (drop (suc i) fs)))) same

  pub type_none : (l : Bytes) (fs : List (Field A)) (i : ℕ) → length fs ≤ i → under l (labels (drop i fs)) (types (drop i fs)) ≡ None
  type_none l fs i h = ap (λ (gs : List (Field A)). under l (labels gs) (types gs)) (drop_of_length-le fs h)

  pub there_passed : (ls : List Bytes) (fs : List (Field A)) (i : ℕ) (d : Field A) → i < length fs → (get_or fs i d).mutable ≡ false → is_some (place (get_or fs i d).label ls 0) ≡ true
      → all_there (drop i fs) ls ≡ all_there (drop (suc i) fs) ls
  there_passed ls fs i d h fixed found =
      ap (λ (gs : List (Field A)). all_there gs ls) (drop-cons fs i d h)
      ∙ ap (λ (b : Bool). cond b false (is_some (place (get_or fs i d).label ls 0) && all_there (drop (suc i) fs) ls)) fixed
      ∙ ap (λ (b : Bool). b && all_there (drop (suc i) fs) ls) found

  pub there_mutable : (ls : List Bytes) (fs : List (Field A)) (i : ℕ) (d : Field A) → i < length fs → (get_or fs i d).mutable ≡ true → all_there (drop i fs) ls ≡ false
  there_mutable ls fs i d h changes =
      ap (λ (gs : List (Field A)). all_there gs ls) (drop-cons fs i d h)
      ∙ ap (λ (b : Bool). cond b false (is_some (place (get_or fs i d).label ls 0) && all_there (drop (suc i) fs) ls)) changes

  pub there_missing : (ls : List Bytes) (fs : List (Field A)) (i : ℕ) (d : Field A) → i < length fs → is_some (place (get_or fs i d).label ls 0) ≡ false → all_there (drop i fs) ls ≡ false
  there_missing ls fs i d h missing =
      ap (λ (gs : List (Field A)). all_there gs ls) (drop-cons fs i d h)
      ∙ ap (λ (b : Bool). cond (get_or fs i d).mutable false (b && all_there (drop (suc i) fs) ls)) missing
      ∙ by (get_or fs i d).mutable
    where
      by : (b : Bool) → cond b false false ≡ false
      by true = refl
      by false = refl

  pub there_all : (ls : List Bytes) (fs : List (Field A)) (i : ℕ) → length fs ≤ i → all_there (drop i fs) ls ≡ true
  there_all ls fs i h = ap (λ (gs : List (Field A)). all_there gs ls) (drop_of_length-le fs h)

pub place_passed : (l : Bytes) (ls : List Bytes) (i n : ℕ) (d : Bytes) → i < length ls → bytes_eq l (get_or ls i d) ≡ false → place l (drop i ls) n ≡ place l (drop (suc i) ls) (suc n)
place_passed l ls i n d h other =
    ap (λ (ms : List Bytes). place l ms n) (drop-cons ls i d h) ∙ ap (λ (b : Bool). cond b (Some n) (place l (drop (suc i) ls) (suc n))) other

pub place_met : (l : Bytes) (ls : List Bytes) (i n : ℕ) (d : Bytes) → i < length ls → bytes_eq l (get_or ls i d) ≡ true → place l (drop i ls) n ≡ Some n
place_met l ls i n d h same =
    ap (λ (ms : List Bytes). place l ms n) (drop-cons ls i d h) ∙ ap (λ (b : Bool). cond b (Some n) (place l (drop (suc i) ls) (suc n))) same

pub place_none : (l : Bytes) (ls : List Bytes) (i n : ℕ) → length ls ≤ i → place l (drop i ls) n ≡ None
place_none l ls i n h = ap (λ (ms : List Bytes). place l ms n) (drop_of_length-le ls h)

-- ---- values under labels

module _ {V : Type 0} where
  no_value : (l : Bytes) (ls : List Bytes) → under {V = V} l ls [] ≡ None
  no_value l [] = refl
  no_value l (m ∷ ls) = refl

  pub value_passed : (l : Bytes) (ls : List Bytes) (vs : List V) (i : ℕ) (d : Bytes) (e : V) → i < length ls → i < length vs → bytes_eq l (get_or ls i d) ≡ false
      → under l (drop i ls) (drop i vs) ≡ under l (drop (suc i) ls) (drop (suc i) vs)
  value_passed l ls vs i d e h k other =
      ap₂ (λ (ms : List Bytes) (ws : List V). under l ms ws) (drop-cons ls i d h) (drop-cons vs i e k)
      ∙ ap (λ (b : Bool). cond b (Some (get_or vs i e)) (under l (drop (suc i) ls) (drop (suc i) vs))) other

  pub value_met : (l : Bytes) (ls : List Bytes) (vs : List V) (i : ℕ) (d : Bytes) (e : V) → i < length ls → i < length vs → bytes_eq l (get_or ls i d) ≡ true
      → under l (drop i ls) (drop i vs) ≡ Some (get_or vs i e)
  value_met l ls vs i d e h k same =
      ap₂ (λ (ms : List Bytes) (ws : List V). under l ms ws) (drop-cons ls i d h) (drop-cons vs i e k)
      ∙ ap (λ (b : Bool). cond b (Some (get_or vs i e)) (under l (drop (suc i) ls) (drop (suc i) vs))) same

  pub value_short : (l : Bytes) (ls : List Bytes) (vs : List V) (i : ℕ) → length vs ≤ i → under l (drop i ls) (drop i vs) ≡ None
  value_short l ls vs i h = ap (λ (ws : List V). under l (drop i ls) ws) (drop_of_length-le vs h) ∙ no_value l (drop i ls)

  pub value_none : (l : Bytes) (ls : List Bytes) (vs : List V) (i : ℕ) → length ls ≤ i → under l (drop i ls) (drop i vs) ≡ None
  value_none l ls vs i h = ap (λ (ms : List Bytes). under l ms (drop i vs)) (drop_of_length-le ls h)

-- ---- whether a field is there

module _ {A : Type 0} where
  pub field_passed : (l : Bytes) (fs : List (Field A)) (i : ℕ) (d : Field A) → i < length fs → bytes_eq l (get_or fs i d).label ≡ false
      → is_some (place l (labels (drop i fs)) 0) ≡ is_some (place l (labels (drop (suc i) fs)) 0)
  field_passed l fs i d h other =
      ap (λ (gs : List (Field A)). is_some (place l (labels gs) 0)) (drop-cons fs i d h)
      ∙ ap (λ (b : Bool). is_some (cond b (Some 0) (place l (labels (drop (suc i) fs)) 1))) other
      ∙ place_first l (labels (drop (suc i) fs)) 1 0

  pub field_met : (l : Bytes) (fs : List (Field A)) (i : ℕ) (d : Field A) → i < length fs → bytes_eq l (get_or fs i d).label ≡ true → is_some (place l (labels (drop i fs)) 0) ≡ true
  field_met l fs i d h same =
      ap (λ (gs : List (Field A)). is_some (place l (labels gs) 0)) (drop-cons fs i d h)
      ∙ ap (λ (b : Bool). is_some (cond b (Some 0) (place l (labels (drop (suc i) fs)) 1))) same

  pub field_none : (l : Bytes) (fs : List (Field A)) (i : ℕ) → length fs ≤ i → is_some (place l (labels (drop i fs)) 0) ≡ false
  field_none l fs i h = ap (λ (gs : List (Field A)). is_some (place l (labels gs) 0)) (drop_of_length-le fs h)
