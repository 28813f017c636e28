-- Lists that are closed: what follows from each of the list is in the list.
use Rattle.std.proofs.Common.{◌≡◌, ◌⊎◌, inl, inr, ℕ, zero, suc, Bool, true, false, ◌&&◌, ◌||◌, List, [], ◌∷◌, ◌++◌, refl, subst}
use Rattle.subtype_laws.specs.Decided.{all_hold}
use Rattle.subtype_laws.specs.Reached.{Among}

pub both_true : (b c : Bool) → b && c ≡ true → (b ≡ true) × (c ≡ true)
both_true true c h = (refl, h)
both_true false c h = cc

pub one_holds : {X : Type 0} (p : X → Bool) (xs : List X) → all_hold p xs ≡ true → (x : X) → Among x xs → p x ≡ true
one_holds p [] h x m = absurd m
one_holds p (y ∷ ys) h x (inl e) = subst (λ z. p z ≡ true) e (both_true (p y) (all_hold p ys) h).0
one_holds p (y ∷ ys) h x (inr m) = one_holds p ys (both_true (p y) (all_hold p ys) h).1 x m

module _ {A : Type 0} (same : A → A → Bool) where
  abbrev pub has : A → List A → Bool
  has a [] = false
  has a (b ∷ bs) = same b a || has a bs

  -- with what follows from those to come, by so many steps
  abbrev pub collected : (A → List A) → ℕ → List A → List A → List A
  collected next zero seen coming = seen
  collected next (suc n) seen [] = seen
  collected next (suc n) seen (a ∷ coming) = elim (has a seen) [ true ↦ collected next n seen coming | false ↦ collected next n (a ∷ seen) (next a ++ coming) ]

  module _ (is : (a b : A) → same a b ≡ true → a ≡ b) where
    has_or : (b c : Bool) (P Q : Type 0) → (b ≡ true → P) → (c ≡ true → Q) → b || c ≡ true → P ⊎ Q
    has_or true c P Q f g h = inl (f refl)
    has_or false c P Q f g h = inr (g h)

    pub has_is : (a : A) (bs : List A) → has a bs ≡ true → Among a bs
    has_is a [] h = cc
    has_is a (b ∷ bs) h = has_or (same b a) (has a bs) (b ≡ a) (Among a bs) (is b a) (has_is a bs) h
