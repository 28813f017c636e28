-- Lists that are parts of lists, numbers that rise, and what holds of each.
use Rattle.std.proofs.Common.{◌≡◌, ◌≢◌, ℕ, suc, ◌+◌, ◌<◌, ◌≤◌, List, [], ◌∷◌, ◌++◌, map, arith}
use Rattle.mo_syntax.specs.Parts.{Each}
use Rattle.mo_types.specs.Sub.{Each as EachOf}
use Rattle.typed_tree.specs.OperationTypes.{Distinct}

-- ---- of each

module _ {A : Type 0} (P : A → Type 0) where
  pub each_first : (xs ys : List A) → Each P (xs ++ ys) → Each P xs
  each_first [] ys h = tt
  each_first (x ∷ xs) ys h = (h.0, each_first xs ys h.1)

  pub each_last : (xs ys : List A) → Each P (xs ++ ys) → Each P ys
  each_last [] ys h = h
  each_last (x ∷ xs) ys h = each_last xs ys h.1

  pub each_both : (xs ys : List A) → Each P xs → Each P ys → Each P (xs ++ ys)
  each_both [] ys h k = k
  each_both (x ∷ xs) ys h k = (h.0, each_both xs ys h.1 k)

-- ---- parts of a list, in its order

pub data Sub {A : Type 0} : List A → List A → Type 0 where
  Done : Sub [] []
  Take : (x : A) (xs ys : List A) → Sub xs ys → Sub (x ∷ xs) (x ∷ ys)
  Skip : (y : A) (xs ys : List A) → Sub xs ys → Sub xs (y ∷ ys)

module _ {A : Type 0} where
  pub sub_all : (xs : List A) → Sub xs xs
  sub_all [] = Done
  sub_all (x ∷ xs) = Take x xs xs (sub_all xs)

  pub sub_none : (xs : List A) → Sub [] xs
  sub_none [] = Done
  sub_none (x ∷ xs) = Skip x [] xs (sub_none xs)

  pub sub_both : {xs ys zs ws : List A} → Sub xs ys → Sub zs ws → Sub (xs ++ zs) (ys ++ ws)
  sub_both Done k = k
  sub_both {zs = zs} {ws = ws} (Take x xs ys s) k = Take x (xs ++ zs) (ys ++ ws) (sub_both s k)
  sub_both {zs = zs} {ws = ws} (Skip y xs ys s) k = Skip y (xs ++ zs) (ys ++ ws) (sub_both s k)

  pub sub_each : (P : A → Type 0) {xs ys : List A} → Sub xs ys → EachOf P ys → EachOf P xs
  sub_each P Done h = tt
  sub_each P (Take x xs ys s) h = (h.0, sub_each P s h.1)
  sub_each P (Skip y xs ys s) h = sub_each P s h.1

  pub sub_distinct : {xs ys : List A} → Sub xs ys → Distinct ys → Distinct xs
  sub_distinct Done h = tt
  sub_distinct (Take x xs ys s) h = (sub_each (λ y. x ≢ y) s h.0, sub_distinct s h.1)
  sub_distinct (Skip y xs ys s) h = sub_distinct s h.1

pub sub_map : {A B : Type 0} (f : A → B) {xs ys : List A} → Sub xs ys → Sub (map f xs) (map f ys)
sub_map f Done = Done
sub_map f (Take x xs ys s) = Take (f x) (map f xs) (map f ys) (sub_map f s)
sub_map f (Skip y xs ys s) = Skip (f y) (map f xs) (map f ys) (sub_map f s)

-- ---- numbers that rise

-- from the one number on, and below the other
abbrev pub Rising : ℕ → ℕ → List ℕ → Type 0
Rising low high [] = low ≤ high
Rising low high (v ∷ vs) = (low ≤ v) × Rising (suc v) high vs

pub rising_room : (low high : ℕ) (vs : List ℕ) → Rising low high vs → low ≤ high
rising_room low high [] h = h
rising_room low high (v ∷ vs) h = let i : suc v ≤ high = rising_room (suc v) high vs h.1 in let j : low ≤ v = h.0 in omega arith

pub rising_wider : (low high lower higher : ℕ) (vs : List ℕ) → lower ≤ low → high ≤ higher → Rising low high vs → Rising lower higher vs
rising_wider low high lower higher [] l h r = let i : low ≤ high = r in omega arith
rising_wider low high lower higher (v ∷ vs) l h r =
    let i : low ≤ v = r.0 in let j : lower ≤ v = omega arith in let e : suc v ≤ suc v = omega arith in
    (j, rising_wider (suc v) high (suc v) higher vs e h r.1)

pub rising_both : (low middle high : ℕ) (vs ws : List ℕ) → Rising low middle vs → Rising middle high ws → Rising low high (vs ++ ws)
rising_both low middle high [] ws h k = let e : high ≤ high = omega arith in rising_wider middle high low high ws h e k
rising_both low middle high (v ∷ vs) ws h k = (h.0, rising_both (suc v) middle high vs ws h.1 k)

rising_above : (low high v : ℕ) (ws : List ℕ) → v < low → Rising low high ws → EachOf (λ w. v ≢ w) ws
rising_above low high v [] l h = tt
rising_above low high v (w ∷ ws) l h =
    let i : low ≤ w = h.0 in let j : v < suc w = omega arith in
    ((λ e. let q : v ≡ w = e in absurd (omega arith)), rising_above (suc w) high v ws j h.1)

pub rising_distinct : (low high : ℕ) (vs : List ℕ) → Rising low high vs → Distinct vs
rising_distinct low high [] h = tt
rising_distinct low high (v ∷ vs) h = let l : v < suc v = omega arith in (rising_above (suc v) high v vs l h.1, rising_distinct (suc v) high vs h.1)

-- ---- numbers below one

abbrev pub AllBelow : ℕ → List ℕ → Type 0
AllBelow k vs = Each (λ v. v < k) vs

pub below_more : (k j : ℕ) (vs : List ℕ) → k ≤ j → AllBelow k vs → AllBelow j vs
below_more k j [] l h = tt
below_more k j (v ∷ vs) l h = let i : v < k = h.0 in let m : v < j = omega arith in (m, below_more k j vs l h.1)

pub rising_below : (low high : ℕ) (vs : List ℕ) → Rising low high vs → AllBelow high vs
rising_below low high [] h = tt
rising_below low high (v ∷ vs) h = let r : suc v ≤ high = rising_room (suc v) high vs h.1 in let i : v < high = omega arith in (i, rising_below (suc v) high vs h.1)
