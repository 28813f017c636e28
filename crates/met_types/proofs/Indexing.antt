-- Places of lists, and the index of a list of terms.
use Rattle.std.proofs.Common.{◌≡◌, ◌⊎◌, inl, inr, ℕ, zero, suc, ◌<◌, List, [], ◌∷◌, ◌++◌, length, Option, Some, slice_get, slice_set, Bool, true, false, nat_eq, refl, sym, ap, ◌∙◌, subst, arith}
use Rattle.std.specs.Cmp.{unsigned_Decides}
use Rattle.mo_types.specs.declared.node.TypeId.{TypeId}
use Rattle.type_terms.specs.declared.form.TermId.{TermId}
use Rattle.met_types.specs.Reached.{numbered, IsMissing, Indexed, SameNumbers}

module _ {A : Type 0} where
  pub get_left : (xs ys : List A) (i : ℕ) (x : A) → slice_get xs i ≡ Some x → slice_get (xs ++ ys) i ≡ Some x
  get_left [] ys i x h = cc
  get_left (y ∷ xs) ys zero x h = h
  get_left (y ∷ xs) ys (suc i) x h = get_left xs ys i x h

  pub get_last : (xs : List A) (x : A) → slice_get (xs ++ x ∷ []) (length xs) ≡ Some x
  get_last [] x = refl
  get_last (y ∷ xs) x = get_last xs x

  pub get_either : (xs : List A) (x y : A) (i : ℕ) → slice_get (xs ++ x ∷ []) i ≡ Some y → (slice_get xs i ≡ Some y) ⊎ ((i ≡ length xs) × (x ≡ y))
  get_either [] x y zero h = let g : Some x ≡ Some y = h in let k : x ≡ y = cc in inr (refl, k)
  get_either [] x y (suc i) h = cc
  get_either (z ∷ xs) x y zero h = inl h
  get_either (z ∷ xs) x y (suc i) h = next (get_either xs x y i h) where
    next : (slice_get xs i ≡ Some y) ⊎ ((i ≡ length xs) × (x ≡ y)) → (slice_get (z ∷ xs) (suc i) ≡ Some y) ⊎ ((suc i ≡ length (z ∷ xs)) × (x ≡ y))
    next (inl g) = inl g
    next (inr g) = inr (ap suc g.0, g.1)

  pub in_range : (xs : List A) (i : ℕ) (x : A) → slice_get xs i ≡ Some x → i < length xs
  in_range [] i x h = cc
  in_range (y ∷ xs) zero x h = omega arith
  in_range (y ∷ xs) (suc i) x h = let l : i < length xs = in_range xs i x h in omega arith

  pub there : (xs : List A) (i : ℕ) → i < length xs → (x : A) × (slice_get xs i ≡ Some x)
  there [] i h = absurd (omega arith)
  there (x ∷ xs) zero h = (x, refl)
  there (x ∷ xs) (suc i) h = there xs i (omega arith)

  pub set_same : (xs : List A) (i : ℕ) (x : A) → i < length xs → slice_get (slice_set xs i x) i ≡ Some x
  set_same [] i x h = absurd (omega arith)
  set_same (y ∷ xs) zero x h = refl
  set_same (y ∷ xs) (suc i) x h = set_same xs i x (omega arith)

  pub set_other : (xs : List A) (i j : ℕ) (x : A) → (i ≡ j → ⊥) → slice_get (slice_set xs i x) j ≡ slice_get xs j
  set_other [] i j x h = refl
  set_other (y ∷ xs) zero zero x h = absurd (h refl)
  set_other (y ∷ xs) zero (suc j) x h = refl
  set_other (y ∷ xs) (suc i) zero x h = refl
  set_other (y ∷ xs) (suc i) (suc j) x h = set_other xs i j x (λ e. h (ap suc e))

  pub set_length : (xs : List A) (i : ℕ) (x : A) → length (slice_set xs i x) ≡ length xs
  set_length [] i x = refl
  set_length (y ∷ xs) zero x = refl
  set_length (y ∷ xs) (suc i) x = ap suc (set_length xs i x)

pub equal_or : (i j : ℕ) → (i ≡ j) ⊎ (i ≡ j → ⊥)
equal_or i j = by (nat_eq i j) refl where
  by : (b : Bool) → nat_eq i j ≡ b → (i ≡ j) ⊎ (i ≡ j → ⊥)
  by true e = inl ((unsigned_Decides i j).0 e)
  by false e = inr (λ h. let k : nat_eq i j ≡ true = (unsigned_Decides i j).1 h in let z : true ≡ false = sym k ∙ e in cc)

same_term : (t u : TermId) → t.index ≡ u.index → t ≡ u
same_term t u e = ap numbered e

pub pushed : (ns ms : List (Option TypeId)) (list : List TermId) (t : TermId) (id : TypeId) → Indexed ns list → SameNumbers ns ms → t.index < length ms → id.index ≡ length list → IsMissing list t
    → Indexed (slice_set ms t.index (Some id)) (list ++ t ∷ [])
pushed ns ms list t id k s room next missing = record { to = λ i j. to i j (equal_or t.index i); from = λ i u h. from i u h (get_either list t u i h) } where
  to : (i : ℕ) (j : TypeId) → (t.index ≡ i) ⊎ (t.index ≡ i → ⊥) → slice_get (slice_set ms t.index (Some id)) i ≡ Some (Some j) → slice_get (list ++ t ∷ []) j.index ≡ Some (numbered i)
  to i j (inl e) h =
      let g : Some (Some id) ≡ Some (Some j) = sym (set_same ms t.index (Some id) room) ∙ (ap (slice_get (slice_set ms t.index (Some id))) e ∙ h) in
      let f : id ≡ j = cc in
      ap (λ (x : TypeId). slice_get (list ++ t ∷ []) x.index) (sym f) ∙ (ap (slice_get (list ++ t ∷ [])) next ∙ (get_last list t ∙ ap (λ n. Some (numbered n)) e))
  to i j (inr e) h = get_left list (t ∷ []) j.index (numbered i) (k.to i j (s.from i j (sym (set_other ms t.index i (Some id) e) ∙ h)))

  from : (i : ℕ) (u : TermId) → slice_get (list ++ t ∷ []) i ≡ Some u → (slice_get list i ≡ Some u) ⊎ ((i ≡ length list) × (t ≡ u)) → (j : TypeId) × (slice_get (slice_set ms t.index (Some id)) u.index ≡ Some (Some j)) × (j.index ≡ i)
  from i u h (inl g) =
      let f = k.from i u g in
      let apart : t.index ≡ u.index → ⊥ = λ e. missing i (g ∙ ap (λ (x : TermId). Some x) (sym (same_term t u e))) in
      (f.0, set_other ms t.index u.index (Some id) apart ∙ s.to u.index f.0 f.1, f.2)
  from i u h (inr g) = (id, ap (λ (x : TermId). slice_get (slice_set ms t.index (Some id)) x.index) (sym g.1) ∙ set_same ms t.index (Some id) room, next ∙ sym g.0)

pub pushed_at : (ns ms ks : List (Option TypeId)) (list now new : List TermId) (t : TermId) (id : TypeId) (n : ℕ) → n ≡ t.index → list ≡ now → Indexed ns list → SameNumbers ns ms → n < length ms → id.index ≡ length now → IsMissing now t
    → ks ≡ slice_set ms n (Some id) → new ≡ list ++ t ∷ [] → Indexed ks new
pushed_at ns ms ks list now new t id n e v k s room next missing set push =
    subst (λ xs. Indexed xs new) (sym (set ∙ ap (λ m. slice_set ms m (Some id)) e))
    (subst (λ ys. Indexed (slice_set ms t.index (Some id)) ys) (sym push)
    (pushed ns ms list t id k s (subst (λ m. m < length ms) e room) (next ∙ ap length (sym v)) (subst (λ xs. IsMissing xs t) (sym v) missing)))
