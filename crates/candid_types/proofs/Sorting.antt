-- A list in order, of which those that tie stand in a given order, is the one that insertion in order makes.
use Rattle.std.proofs.Common.{◌≡◌, ℕ, zero, suc, ◌+◌, ◌<◌, Bool, true, false, cond, not, ◌&&◌, List, [], ◌∷◌, ◌++◌, length, get_or, map, reverse, refl, sym, ap, ◌∙◌, subst, arith}
use Rattle.std.specs.Cmp.{IsStrictWeakOrder}
use Rattle.std.specs.List.{filter}
use Rattle.std.specs.List.Sorted.{IsSortedBy, IsStableBy, ties}
use Rattle.std.proofs.lemmas.List.{reverse-append, append-nil}
use Rattle.std.proofs.lemmas.List.Elements.{filter-append}
use Rattle.std.proofs.lemmas.List.Sorted.{sorted_far}

module _ {X : Type 0} (lt : X → X → Bool) where
  abbrev pub inserted : X → List X → List X
  inserted x [] = x ∷ []
  inserted x (y ∷ ys) = cond (lt x y) (x ∷ y ∷ ys) (y ∷ inserted x ys)

  abbrev pub in_order : List X → List X
  in_order [] = []
  in_order (x ∷ xs) = inserted x (in_order xs)

  -- none of them is below x
  abbrev Low : X → List X → Type 0
  Low x [] = Unit {0}
  Low x (y ∷ ys) = (lt y x ≡ false) × Low x ys

  abbrev Up : List X → Type 0
  Up [] = Unit {0}
  Up (x ∷ xs) = Low x xs × Up xs

  module _ (o : IsStrictWeakOrder lt) where
    irreflexive : (x : X) → lt x x ≡ false
    irreflexive x = by (lt x x) refl where
      by : (b : Bool) → lt x x ≡ b → lt x x ≡ false
      by true e = o.one_way x x e
      by false e = e

    low_all : (x : X) (xs : List X) → ((j : ℕ) (d : X) → j < length xs → lt (get_or xs j d) x ≡ false) → Low x xs
    low_all x [] f = tt
    low_all x (y ∷ ys) f = (f zero x (omega arith), low_all x ys (λ j d h. f (suc j) d (omega arith)))

    up_from_sorted : (xs : List X) → IsSortedBy lt xs → Up xs
    up_from_sorted [] s = tt
    up_from_sorted (x ∷ xs) s = (low_all x xs (λ j d h. sorted_far lt o (x ∷ xs) s zero (suc j) d (omega arith) (omega arith)), up_from_sorted xs (λ k d l h. next k d h)) where
      next : (k : ℕ) (d : X) → k + 1 < length xs → lt (get_or xs (k + 1) d) (get_or xs k d) ≡ false
      next k d h =
          let e : suc k + 1 ≡ suc (k + 1) = omega arith in
          subst (λ i. lt (get_or (x ∷ xs) i d) (get_or xs k d) ≡ false) e (s (suc k) d (omega arith) (omega arith))

    low_in : (z : X) (p : X → Bool) (zs : List X) (y : X) (rest : List X) → Low z zs → filter p zs ≡ y ∷ rest → lt y z ≡ false
    low_in z p [] y rest l e = cc
    low_in z p (v ∷ vs) y rest l e = by (p v) refl (low_in z p vs y rest l.1) where
      by : (b : Bool) → p v ≡ b → (filter p vs ≡ y ∷ rest → lt y z ≡ false) → lt y z ≡ false
      by true f k = let g : v ∷ filter p vs ≡ y ∷ rest = subst (λ b. cond b (v ∷ filter p vs) (filter p vs) ≡ y ∷ rest) f e in let h : v ≡ y = cc in subst (λ w. lt w z ≡ false) h l.0
      by false f k = k (subst (λ b. cond b (v ∷ filter p vs) (filter p vs) ≡ y ∷ rest) f e)

    ties_from : (x y : X) → lt x y ≡ false → lt y x ≡ false → ties lt x y ≡ true
    ties_from x y e f = ap (λ b. not b && not (lt y x)) e ∙ ap (λ b. not false && not b) f

    filter_head : (p : X → Bool) (x : X) (xs : List X) → p x ≡ true → filter p (x ∷ xs) ≡ x ∷ filter p xs
    filter_head p x xs e = ap (λ b. cond b (x ∷ filter p xs) (filter p xs)) e

    filter_other : (p : X → Bool) (x : X) (xs : List X) → p x ≡ false → filter p (x ∷ xs) ≡ filter p xs
    filter_other p x xs e = ap (λ b. cond b (x ∷ filter p xs) (filter p xs)) e

    same_tail : (b : Bool) (x : X) (xs ys : List X) → cond b (x ∷ xs) xs ≡ cond b (x ∷ ys) ys → xs ≡ ys
    same_tail true x xs ys e = cc
    same_tail false x xs ys e = e

    one_order : (ys zs : List X) → Up ys → Up zs → ((x : X) → filter (ties lt x) ys ≡ filter (ties lt x) zs) → ys ≡ zs
    one_order [] [] u v f = refl
    one_order [] (z ∷ zs) u v f = let e : [] ≡ z ∷ filter (ties lt z) zs = f z ∙ filter_head (ties lt z) z zs (ties_from z z (irreflexive z) (irreflexive z)) in cc
    one_order (y ∷ ys) [] u v f = let e : y ∷ filter (ties lt y) ys ≡ [] = sym (filter_head (ties lt y) y ys (ties_from y y (irreflexive y) (irreflexive y))) ∙ f y in cc
    one_order (y ∷ ys) (z ∷ zs) u v f = both same (one_order ys zs u.1 v.1) where
      at_y : filter (ties lt y) (z ∷ zs) ≡ y ∷ filter (ties lt y) ys
      at_y = sym (f y) ∙ filter_head (ties lt y) y ys (ties_from y y (irreflexive y) (irreflexive y))

      at_z : filter (ties lt z) (y ∷ ys) ≡ z ∷ filter (ties lt z) zs
      at_z = f z ∙ filter_head (ties lt z) z zs (ties_from z z (irreflexive z) (irreflexive z))

      first : lt y z ≡ false
      first = low_in z (ties lt y) (z ∷ zs) y (filter (ties lt y) ys) (irreflexive z, v.0) at_y

      second : lt z y ≡ false
      second = low_in y (ties lt z) (y ∷ ys) z (filter (ties lt z) zs) (irreflexive y, u.0) at_z

      same : y ≡ z
      same = let e : z ∷ filter (ties lt y) zs ≡ y ∷ filter (ties lt y) ys = sym (filter_head (ties lt y) z zs (ties_from y z first second)) ∙ at_y in cc

      both : y ≡ z → (((x : X) → filter (ties lt x) ys ≡ filter (ties lt x) zs) → ys ≡ zs) → y ∷ ys ≡ z ∷ zs
      both e k = ap (λ x. x ∷ ys) e ∙ ap (λ l. z ∷ l) (k (λ x. same_tail (ties lt x z) z (filter (ties lt x) ys) (filter (ties lt x) zs) (subst (λ w. filter (ties lt x) (w ∷ ys) ≡ filter (ties lt x) (z ∷ zs)) e (f x))))

    low_inserted : (z x : X) (ys : List X) → lt x z ≡ false → Low z ys → Low z (inserted x ys)
    low_inserted z x [] e l = (e, tt)
    low_inserted z x (y ∷ ys) e l = by (lt x y) (low_inserted z x ys e l.1) where
      by : (b : Bool) → Low z (inserted x ys) → Low z (cond b (x ∷ y ∷ ys) (y ∷ inserted x ys))
      by true k = (e, l)
      by false k = (l.0, k)

    low_under : (x y : X) (ys : List X) → lt y x ≡ false → Low y ys → Low x ys
    low_under x y [] e l = tt
    low_under x y (v ∷ vs) e l = (o.chain v y x l.0 e, low_under x y vs e l.1)

    up_inserted : (x : X) (ys : List X) → Up ys → Up (inserted x ys)
    up_inserted x [] u = (tt, tt)
    up_inserted x (y ∷ ys) u = by (lt x y) refl (up_inserted x ys u.1) where
      by : (b : Bool) → lt x y ≡ b → Up (inserted x ys) → Up (cond b (x ∷ y ∷ ys) (y ∷ inserted x ys))
      by true e k = ((o.one_way x y e, low_under x y ys (o.one_way x y e) u.0), u)
      by false e k = (low_inserted y x ys e u.0, k)

    up_in_order : (xs : List X) → Up (in_order xs)
    up_in_order [] = tt
    up_in_order (x ∷ xs) = up_inserted x (in_order xs) (up_in_order xs)

    not_tied : (w x y v : X) → lt x y ≡ true → lt v y ≡ false → ties lt w x ≡ true → ties lt w v ≡ true → ⊥
    not_tied w x y v e l f g = absurd_of (o.chain x v y (o.chain x w v (right (lt w x) (lt x w) f) (left (lt w v) (lt v w) g)) l) where
      left : (b c : Bool) → not b && not c ≡ true → b ≡ false
      left true c h = cc
      left false c h = refl

      right : (b c : Bool) → not b && not c ≡ true → c ≡ false
      right true c h = cc
      right false true h = cc
      right false false h = refl

      absurd_of : lt x y ≡ false → ⊥
      absurd_of h = cc

    none_tied : (w x y : X) (vs : List X) → lt x y ≡ true → Low y vs → ties lt w x ≡ true → filter (ties lt w) vs ≡ []
    none_tied w x y [] e l f = refl
    none_tied w x y (v ∷ vs) e l f = by (ties lt w v) refl (none_tied w x y vs e l.1 f) where
      by : (b : Bool) → ties lt w v ≡ b → filter (ties lt w) vs ≡ [] → filter (ties lt w) (v ∷ vs) ≡ []
      by true g k = absurd (not_tied w x y v e l.0 f g)
      by false g k = filter_other (ties lt w) v vs g ∙ k

    filter_inserted : (w x : X) (ys : List X) → Up ys → filter (ties lt w) (inserted x ys) ≡ filter (ties lt w) ys ++ filter (ties lt w) (x ∷ [])
    filter_inserted w x [] u = refl
    filter_inserted w x (y ∷ ys) u = by (lt x y) refl (filter_inserted w x ys u.1) where
      at_end : (b : Bool) → ties lt w x ≡ b → lt x y ≡ true → filter (ties lt w) (x ∷ y ∷ ys) ≡ filter (ties lt w) (y ∷ ys) ++ filter (ties lt w) (x ∷ [])
      at_end true f e =
          let n : filter (ties lt w) (y ∷ ys) ≡ [] = none_tied w x y (y ∷ ys) e (irreflexive y, u.0) f in
          filter_head (ties lt w) x (y ∷ ys) f ∙ ap (λ l. x ∷ l) n ∙ sym (ap (λ l. l ++ filter (ties lt w) (x ∷ [])) n ∙ filter_head (ties lt w) x [] f)
      at_end false f e = filter_other (ties lt w) x (y ∷ ys) f ∙ sym (ap (λ l. filter (ties lt w) (y ∷ ys) ++ l) (filter_other (ties lt w) x [] f) ∙ append-nil (filter (ties lt w) (y ∷ ys)))

      later : (b : Bool) → ties lt w y ≡ b → filter (ties lt w) (inserted x ys) ≡ filter (ties lt w) ys ++ filter (ties lt w) (x ∷ []) → filter (ties lt w) (y ∷ inserted x ys) ≡ filter (ties lt w) (y ∷ ys) ++ filter (ties lt w) (x ∷ [])
      later true f k = filter_head (ties lt w) y (inserted x ys) f ∙ ap (λ l. y ∷ l) k ∙ sym (ap (λ l. l ++ filter (ties lt w) (x ∷ [])) (filter_head (ties lt w) y ys f))
      later false f k = filter_other (ties lt w) y (inserted x ys) f ∙ k ∙ sym (ap (λ l. l ++ filter (ties lt w) (x ∷ [])) (filter_other (ties lt w) y ys f))

      by : (b : Bool) → lt x y ≡ b → filter (ties lt w) (inserted x ys) ≡ filter (ties lt w) ys ++ filter (ties lt w) (x ∷ []) → filter (ties lt w) (cond (lt x y) (x ∷ y ∷ ys) (y ∷ inserted x ys)) ≡ filter (ties lt w) (y ∷ ys) ++ filter (ties lt w) (x ∷ [])
      by true e k = ap (λ b. filter (ties lt w) (cond b (x ∷ y ∷ ys) (y ∷ inserted x ys))) e ∙ at_end (ties lt w x) refl e
      by false e k = ap (λ b. filter (ties lt w) (cond b (x ∷ y ∷ ys) (y ∷ inserted x ys))) e ∙ later (ties lt w y) refl k

    stable_in_order : (w : X) (xs : List X) → filter (ties lt w) (in_order xs) ≡ filter (ties lt w) (reverse xs)
    stable_in_order w [] = refl
    stable_in_order w (x ∷ xs) =
        filter_inserted w x (in_order xs) (up_in_order xs) ∙ ap (λ l. l ++ filter (ties lt w) (x ∷ [])) (stable_in_order w xs) ∙ sym (ap (filter (ties lt w)) (reverse-append (x ∷ []) xs) ∙ filter-append (ties lt w) (reverse xs) (x ∷ []))

    -- what a stable sort of the reversed list gives
    pub sorted_is : (xs ys : List X) → IsSortedBy lt ys → IsStableBy lt (reverse xs) ys → ys ≡ in_order xs
    sorted_is xs ys s t = one_order ys (in_order xs) (up_from_sorted ys s) (up_in_order xs) (λ x. t x ∙ sym (stable_in_order x xs))

-- insertion commutes with what keeps the order
module _ {X Y : Type 0} (lt : X → X → Bool) (below : Y → Y → Bool) (f : X → Y) (keeps : (x y : X) → below (f x) (f y) ≡ lt x y) where
  map_inserted : (x : X) (ys : List X) → map f (inserted lt x ys) ≡ inserted below (f x) (map f ys)
  map_inserted x [] = refl
  map_inserted x (y ∷ ys) = by (lt x y) refl (map_inserted x ys) where
    by : (b : Bool) → lt x y ≡ b → map f (inserted lt x ys) ≡ inserted below (f x) (map f ys) → map f (cond (lt x y) (x ∷ y ∷ ys) (y ∷ inserted lt x ys)) ≡ cond (below (f x) (f y)) (f x ∷ f y ∷ map f ys) (f y ∷ inserted below (f x) (map f ys))
    by true e k = ap (λ b. map f (cond b (x ∷ y ∷ ys) (y ∷ inserted lt x ys))) e ∙ sym (ap (λ b. cond b (f x ∷ f y ∷ map f ys) (f y ∷ inserted below (f x) (map f ys))) (keeps x y ∙ e))
    by false e k = ap (λ b. map f (cond b (x ∷ y ∷ ys) (y ∷ inserted lt x ys))) e ∙ ap (λ l. f y ∷ l) k ∙ sym (ap (λ b. cond b (f x ∷ f y ∷ map f ys) (f y ∷ inserted below (f x) (map f ys))) (keeps x y ∙ e))

  pub map_in_order : (xs : List X) → map f (in_order lt xs) ≡ in_order below (map f xs)
  map_in_order [] = refl
  map_in_order (x ∷ xs) = map_inserted x (in_order lt xs) ∙ ap (inserted below (f x)) (map_in_order xs)
