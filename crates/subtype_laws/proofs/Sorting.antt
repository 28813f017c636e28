-- Two lists that match item by item, in any order, match place by place once both are in the order of distinct keys.
use Rattle.std.proofs.Common.{◌≡◌, ◌≢◌, inl, inr, ◌⊎◌, suc, Bool, true, false, List, [], ◌∷◌, length, map, refl, sym, ap, ◌∙◌, subst, if◌then◌else◌}
use Rattle.mo_types.specs.Sub.{Each}
use Rattle.subtype_laws.specs.Equal.{Distinct}
use Rattle.subtype_laws.proofs.Monotone.{each_map}

-- one of them
abbrev pub ForSome : {X : Type 0} → (X → Type 0) → List X → Type 0
ForSome P [] = ⊥
ForSome P (x ∷ xs) = P x ⊎ ForSome P xs

pub some_map : {X : Type 0} (P Q : X → Type 0) → ((x : X) → P x → Q x) → (xs : List X) → ForSome P xs → ForSome Q xs
some_map P Q f [] h = h
some_map P Q f (x ∷ xs) (inl p) = inl (f x p)
some_map P Q f (x ∷ xs) (inr h) = inr (some_map P Q f xs h)

-- one that is so, where all are otherwise too
pub some_each : {X : Type 0} (P Q G : X → Type 0) → ((x : X) → P x → Q x → G x) → (xs : List X) → ForSome P xs → Each Q xs → ForSome G xs
some_each P Q G f [] h e = h
some_each P Q G f (x ∷ xs) (inl p) e = inl (f x p e.0)
some_each P Q G f (x ∷ xs) (inr h) e = inr (some_each P Q G f xs h e.1)

no_some : {X : Type 0} (xs : List X) → ForSome (λ x. ⊥) xs → ⊥
no_some [] h = h
no_some (x ∷ xs) (inl h) = h
no_some (x ∷ xs) (inr h) = no_some xs h

-- place by place
abbrev pub PlaceByPlace : {X Y : Type 0} → (X → Y → Type 0) → List X → List Y → Type 0
PlaceByPlace M [] [] = Unit {0}
PlaceByPlace M (x ∷ xs) (y ∷ ys) = M x y × PlaceByPlace M xs ys
PlaceByPlace M _ _ = ⊥

-- a strict order of all keys
pub record IsOrder {K : Type 0} (before : K → K → Bool) : Type 0 where
  pub apart : (k : K) → before k k ≡ true → ⊥
  pub trans : (i j k : K) → before i j ≡ true → before j k ≡ true → before i k ≡ true
  pub total : (j k : K) → j ≢ k → before j k ≡ false → before k j ≡ true

module _ {X K : Type 0} (key : X → K) (before : K → K → Bool) where
  abbrev pub insert : X → List X → List X
  insert x [] = x ∷ []
  insert x (y ∷ ys) = if before (key x) (key y) then x ∷ y ∷ ys else y ∷ insert x ys

  abbrev pub sort : List X → List X
  sort [] = []
  sort (x ∷ xs) = insert x (sort xs)

  abbrev Above : K → List X → Type 0
  Above k xs = Each (λ x. before k (key x) ≡ true) xs

  abbrev Rising : List X → Type 0
  Rising [] = Unit {0}
  Rising (x ∷ xs) = Above (key x) xs × Rising xs

  each_insert : (P : X → Type 0) (x : X) (ys : List X) → P x → Each P ys → Each P (insert x ys)
  each_insert P x [] p h = (p, tt)
  each_insert P x (y ∷ ys) p h = by (before (key x) (key y)) (each_insert P x ys p h.1) where
    by : (b : Bool) → Each P (insert x ys) → Each P (if b then x ∷ y ∷ ys else y ∷ insert x ys)
    by true i = (p, h)
    by false i = (h.0, i)

  pub each_sort : (P : X → Type 0) (xs : List X) → Each P xs → Each P (sort xs)
  each_sort P [] h = tt
  each_sort P (x ∷ xs) h = each_insert P x (sort xs) h.0 (each_sort P xs h.1)

  some_insert : (P : X → Type 0) (x : X) (ys : List X) → P x ⊎ ForSome P ys → ForSome P (insert x ys)
  some_insert P x [] h = h
  some_insert P x (y ∷ ys) h = by (before (key x) (key y)) h (some_insert P x ys) where
    by : (b : Bool) → P x ⊎ ForSome P (y ∷ ys) → (P x ⊎ ForSome P ys → ForSome P (insert x ys)) → ForSome P (if b then x ∷ y ∷ ys else y ∷ insert x ys)
    by true h i = h
    by false (inl p) i = inr (i (inl p))
    by false (inr (inl p)) i = inl p
    by false (inr (inr h)) i = inr (i (inr h))

  some_sort : (P : X → Type 0) (xs : List X) → ForSome P xs → ForSome P (sort xs)
  some_sort P [] h = h
  some_sort P (x ∷ xs) (inl p) = some_insert P x (sort xs) (inl p)
  some_sort P (x ∷ xs) (inr h) = some_insert P x (sort xs) (inr (some_sort P xs h))

  length_insert : (x : X) (ys : List X) → length (insert x ys) ≡ suc (length ys)
  length_insert x [] = refl
  length_insert x (y ∷ ys) = by (before (key x) (key y)) (length_insert x ys) where
    by : (b : Bool) → length (insert x ys) ≡ suc (length ys) → length (if b then x ∷ y ∷ ys else y ∷ insert x ys) ≡ suc (length (y ∷ ys))
    by true i = refl
    by false i = ap suc i

  pub length_sort : (xs : List X) → length (sort xs) ≡ length xs
  length_sort [] = refl
  length_sort (x ∷ xs) = length_insert x (sort xs) ∙ ap suc (length_sort xs)

  module _ (order : IsOrder before) where
    others : (x : X) (ys : List X) → Each (λ k. key x ≢ k) (map key ys) → Each (λ y. key x ≢ key y) ys
    others x [] h = tt
    others x (y ∷ ys) h = (h.0, others x ys h.1)

    insert_rising : (x : X) (ys : List X) → Each (λ y. key x ≢ key y) ys → Rising ys → Rising (insert x ys)
    insert_rising x [] d r = (tt, tt)
    insert_rising x (y ∷ ys) d r = by (before (key x) (key y)) refl (insert_rising x ys d.1 r.1) where
      by : (b : Bool) → before (key x) (key y) ≡ b → Rising (insert x ys) → Rising (if b then x ∷ y ∷ ys else y ∷ insert x ys)
      by true e i = ((e, each_map (λ z. before (key y) (key z) ≡ true) (λ z. before (key x) (key z) ≡ true) (λ z h. order.trans (key x) (key y) (key z) e h) ys r.0), r)
      by false e i = (each_insert (λ z. before (key y) (key z) ≡ true) x ys (order.total (key x) (key y) d.0 e) r.0, i)

    pub sort_rising : (xs : List X) → Distinct (map key xs) → Rising (sort xs)
    sort_rising [] d = tt
    sort_rising (x ∷ xs) d = insert_rising x (sort xs) (each_sort (λ y. key x ≢ key y) xs (others x xs d.0)) (sort_rising xs d.1)

    module _ (M : X → X → Type 0) (alike : (x y : X) → M x y → key x ≡ key y) where
      after : (x y z : X) → before (key x) (key y) ≡ true → key y ≡ key z → before (key x) (key z) ≡ true
      after x y z b e = subst (λ k. before (key x) k ≡ true) e b

      -- the first items match, since what either matches behind the other would stand before itself
      firsts : (x y : X) (xs ys : List X) → Above (key x) xs → Above (key y) ys → M x y ⊎ ForSome (λ z. M x z) ys → M x y ⊎ ForSome (λ z. M z y) xs → M x y
      firsts x y xs ys a b (inl m) q = m
      firsts x y xs ys a b (inr p) (inl m) = m
      firsts x y xs ys a b (inr p) (inr q) = absurd (no_some ys (some_each (λ z. M x z) (λ z. before (key y) (key z) ≡ true) (λ z. ⊥) (λ z m o. clash (subst (λ k. before (key y) k ≡ true) (sym (alike x z m)) o)) ys p b)) where
        clash : before (key y) (key x) ≡ true → ⊥
        clash l = no_some xs (some_each (λ z. M z y) (λ z. before (key x) (key z) ≡ true) (λ z. ⊥) (λ z m o. order.apart (key x) (order.trans (key x) (key y) (key x) (after x z y o (alike z y m)) l)) xs q a)

      -- what matches the first item of the other list is no later one
      rest_left : (x y : X) (xs ys : List X) → key x ≡ key y → Above (key x) xs → Each (λ z. M z y ⊎ ForSome (λ w. M z w) ys) xs → Each (λ z. ForSome (λ w. M z w) ys) xs
      rest_left x y [] ys e a h = tt
      rest_left x y (z ∷ xs) ys e a h = (one h.0, rest_left x y xs ys e a.1 h.1) where
        one : M z y ⊎ ForSome (λ w. M z w) ys → ForSome (λ w. M z w) ys
        one (inl m) = absurd (order.apart (key x) (after x z x a.0 (alike z y m ∙ sym e)))
        one (inr s) = s

      rest_right : (x y : X) (xs ys : List X) → key x ≡ key y → Above (key y) ys → Each (λ w. M x w ⊎ ForSome (λ z. M z w) xs) ys → Each (λ w. ForSome (λ z. M z w) xs) ys
      rest_right x y xs [] e a h = tt
      rest_right x y xs (w ∷ ys) e a h = (one h.0, rest_right x y xs ys e a.1 h.1) where
        one : M x w ⊎ ForSome (λ z. M z w) xs → ForSome (λ z. M z w) xs
        one (inl m) = absurd (order.apart (key y) (after y w y a.0 (sym (alike x w m) ∙ e)))
        one (inr s) = s

      lines : (xs ys : List X) → Rising xs → Rising ys → Each (λ x. ForSome (λ y. M x y) ys) xs → Each (λ y. ForSome (λ x. M x y) xs) ys → PlaceByPlace M xs ys
      lines [] [] r s p q = tt
      lines [] (y ∷ ys) r s p q = absurd q.0
      lines (x ∷ xs) [] r s p q = absurd p.0
      lines (x ∷ xs) (y ∷ ys) r s p q =
          let m = firsts x y xs ys r.0 s.0 p.0 q.0 in
          (m, lines xs ys r.1 s.1 (rest_left x y xs ys (alike x y m) r.0 p.1) (rest_right x y xs ys (alike x y m) s.0 q.1))

      pub sorted_lines : (xs ys : List X) → Distinct (map key xs) → Distinct (map key ys) → Each (λ x. ForSome (λ y. M x y) ys) xs → Each (λ y. ForSome (λ x. M x y) xs) ys → PlaceByPlace M (sort xs) (sort ys)
      sorted_lines xs ys d e p q =
          lines (sort xs) (sort ys) (sort_rising xs d) (sort_rising ys e)
          (each_map (λ x. ForSome (λ y. M x y) ys) (λ x. ForSome (λ y. M x y) (sort ys)) (λ x. some_sort (λ y. M x y) ys) (sort xs) (each_sort (λ x. ForSome (λ y. M x y) ys) xs p))
          (each_map (λ y. ForSome (λ x. M x y) xs) (λ y. ForSome (λ x. M x y) (sort xs)) (λ y. some_sort (λ x. M x y) xs) (sort ys) (each_sort (λ y. ForSome (λ x. M x y) xs) ys q))
