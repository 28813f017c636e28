-- Elements of lists, and how many pass a test.
use Rattle.std.proofs.Common.{◌≡◌, ℕ, zero, suc, ◌+◌, ◌<◌, ◌≤◌, ◌⊎◌, inl, inr, List, [], ◌∷◌, ◌++◌, length, slice_index_or, Contains, sum_by, refl, sym, ap, ◌∙◌, subst, arith}
use Rattle.std.specs.Prelude.{AllPairs, flat_map, ◌≢◌}
use Rattle.std.proofs.lemmas.List.Sums.{sum_by-cons}

abbrev pub Has : {X : Type 0} → List X → X → Type 0
Has [] y = ⊥
Has (x ∷ xs) y = (x ≡ y) ⊎ Has xs y

module _ {X : Type 0} where
  pub has_left : (xs ys : List X) (x : X) → Has xs x → Has (xs ++ ys) x
  has_left [] ys x h = absurd h
  has_left (z ∷ xs) ys x (inl e) = inl e
  has_left (z ∷ xs) ys x (inr h) = inr (has_left xs ys x h)

  pub has_right : (xs ys : List X) (x : X) → Has ys x → Has (xs ++ ys) x
  has_right [] ys x h = h
  has_right (z ∷ xs) ys x h = inr (has_right xs ys x h)

  pub has_either : (xs ys : List X) (x : X) → Has (xs ++ ys) x → Has xs x ⊎ Has ys x
  has_either [] ys x h = inr h
  has_either (z ∷ xs) ys x (inl e) = inl (inl e)
  has_either (z ∷ xs) ys x (inr h) = elim (has_either xs ys x h) [ inl i ↦ inl (inr i) | inr i ↦ inr i ]

  pub has_from : (xs : List X) (x : X) → Contains xs x → Has xs x
  has_from [] x c = absurd (omega (arith, c.1))
  has_from (z ∷ xs) x (zero, l, e) = inl e
  has_from (z ∷ xs) x (suc k, l, e) = inr (has_from xs x (k, omega (arith, l), e))

  pub contains : (xs : List X) (x : X) → Has xs x → Contains xs x
  contains [] x h = absurd h
  contains (z ∷ xs) x (inl e) = (0, omega arith, e)
  contains (z ∷ xs) x (inr h) = let c = contains xs x h in (suc c.0, omega (arith, c.1), c.2)

  pub has_mapped : {Y : Type 0} (f : Y → List X) (ys : List Y) (y : Y) (x : X) → Has ys y → Has (f y) x → Has (flat_map f ys) x
  has_mapped f [] y x h k = absurd h
  has_mapped f (z ∷ ys) y x (inl e) k = has_left (f z) (flat_map f ys) x (subst (λ w. Has (f w) x) (sym e) k)
  has_mapped f (z ∷ ys) y x (inr h) k = has_right (f z) (flat_map f ys) x (has_mapped f ys y x h k)

  -- each once
  abbrev pub Distinct : List X → Type 0
  Distinct [] = Unit {0}
  Distinct (x ∷ xs) = (Has xs x → ⊥) × Distinct xs

  pub distinct_push : (xs : List X) (x : X) → Distinct xs → (Has xs x → ⊥) → Distinct (xs ++ x ∷ [])
  distinct_push [] x d n = ((λ h. h), tt)
  distinct_push (z ∷ xs) x d n = ((λ h. by (has_either xs (x ∷ []) z h)), distinct_push xs x d.1 (λ h. n (inr h))) where
    by : Has xs z ⊎ Has (x ∷ []) z → ⊥
    by (inl h) = d.0 h
    by (inr (inl e)) = n (inl (sym e))
    by (inr (inr h)) = h

  pub from_pairs : (xs : List X) → AllPairs (λ x y. x ≢ y) xs → Distinct xs
  from_pairs [] p = tt
  from_pairs (x ∷ xs) p = (first, from_pairs xs (λ i j d l m. p (suc i) (suc j) d (omega (arith, l)) (omega (arith, m)))) where
    first : Has xs x → ⊥
    first h = let c = contains xs x h in p 0 (suc c.0) x (omega arith) (omega (arith, c.1)) (sym c.2)

  at_place : (xs : List X) (i : ℕ) (d : X) → i < length xs → Has xs (slice_index_or xs i d)
  at_place [] i d l = absurd (omega (arith, l))
  at_place (x ∷ xs) zero d l = inl refl
  at_place (x ∷ xs) (suc i) d l = inr (at_place xs i d (omega (arith, l)))

  pub to_pairs : (xs : List X) → Distinct xs → AllPairs (λ x y. x ≢ y) xs
  to_pairs [] h i j d l m = absurd (omega (arith, m))
  to_pairs (x ∷ xs) h i zero d l m = absurd (omega (arith, l))
  to_pairs (x ∷ xs) h zero (suc j) d l m = λ e. h.0 (subst (λ z. Has xs z) (sym e) (at_place xs j d (omega (arith, m))))
  to_pairs (x ∷ xs) h (suc i) (suc j) d l m = to_pairs xs h.1 i j d (omega (arith, l)) (omega (arith, m))

  -- ---- sums over lists of the same elements

  -- this element, and the others
  record Split (xs : List X) (x : X) : Type 0 where
    others : List X
    sums : (f : X → ℕ) → sum_by f xs ≡ f x + sum_by f others
    left : (y : X) → Has xs y → (x ≡ y) ⊎ Has others y

  split : (xs : List X) (x : X) → Has xs x → Split xs x
  split [] x h = absurd h
  split (z ∷ xs) x (inl e) = record { others = xs; sums = λ f. sum_by-cons f z xs ∙ ap (λ w. f w + sum_by f xs) e; left = λ y h. elim h [ inl i ↦ inl (sym e ∙ i) | inr i ↦ inr i ] }
  split (z ∷ xs) x (inr h) = let s = split xs x h in record {
    others = z ∷ s.others;
    sums = λ f. let e = s.sums f in let a = sum_by-cons f z xs in let b = sum_by-cons f z s.others in omega (arith, e, a, b);
    left = λ y k. by s y k;
  } where
    by : (s : Split xs x) (y : X) → Has (z ∷ xs) y → (x ≡ y) ⊎ Has (z ∷ s.others) y
    by s y (inl e) = inr (inl e)
    by s y (inr k) = elim (s.left y k) [ inl e ↦ inl e | inr i ↦ inr (inr i) ]

  fewer_sum : (f : X → ℕ) (xs ys : List X) → Distinct xs → ((x : X) → Has xs x → Has ys x) → sum_by f xs ≤ sum_by f ys
  fewer_sum f [] ys d h = omega arith
  fewer_sum f (x ∷ xs) ys d h =
      let s = split ys x (h x (inl refl)) in
      let e = s.sums f in
      let a = sum_by-cons f x xs in
      let l = fewer_sum f xs s.others d.1 (λ y k. elim (s.left y (h y (inr k))) [ inl i ↦ absurd (d.0 (subst (λ w. Has xs w) (sym i) k)) | inr i ↦ i ]) in
      omega (arith, e, l, a)

  pub same_sum : (f : X → ℕ) (xs ys : List X) → Distinct xs → Distinct ys → ((x : X) → Has xs x → Has ys x) → ((x : X) → Has ys x → Has xs x) → sum_by f xs ≡ sum_by f ys
  same_sum f xs ys d e h k = let a = fewer_sum f xs ys d h in let b = fewer_sum f ys xs e k in omega (arith, a, b)

  pub sum_ones : (xs : List X) → sum_by (λ x. 1) xs ≡ length xs
  sum_ones [] = refl
  sum_ones (x ∷ xs) = let e = sum_ones xs in let a = sum_by-cons (λ x. 1) x xs in omega (arith, e, a)
