-- Tests that are joined.
use Rattle.std.proofs.Common.{◌≡◌, ◌⊎◌, inl, inr, Bool, true, false, ◌&&◌, ◌||◌, List, [], ◌∷◌, refl, subst}
use Rattle.std.specs.List.{list_all}
use Rattle.mo_coding.proofs.Members.{Has}

pub both_true : (a b : Bool) → (a && b) ≡ true → (a ≡ true) × (b ≡ true)
both_true true b e = (refl, e)
both_true false b e = absurd (let f : false ≡ true = e in cc)

pub true_both : (a b : Bool) → a ≡ true → b ≡ true → (a && b) ≡ true
true_both true b e f = f
true_both false b e f = e

pub or_either : (b c : Bool) → (b || c) ≡ true → (b ≡ true) ⊎ (c ≡ true)
or_either true c e = inl refl
or_either false c e = inr e

pub or_left : (b c : Bool) → b ≡ true → (b || c) ≡ true
or_left true c e = refl
or_left false c e = absurd (let f : false ≡ true = e in cc)

pub or_right : (b c : Bool) → c ≡ true → (b || c) ≡ true
or_right true c e = refl
or_right false c e = e

pub all_true : {X : Type 0} (p : X → Bool) (xs : List X) → list_all p xs ≡ true → (x : X) → Has xs x → p x ≡ true
all_true p [] e x h = absurd h
all_true p (y ∷ ys) e x (inl f) = subst (λ z. p z ≡ true) f (both_true (p y) (list_all p ys) e).0
all_true p (y ∷ ys) e x (inr h) = all_true p ys (both_true (p y) (list_all p ys) e).1 x h

pub true_all : {X : Type 0} (p : X → Bool) (xs : List X) → ((x : X) → Has xs x → p x ≡ true) → list_all p xs ≡ true
true_all p [] h = refl
true_all p (x ∷ xs) h = true_both (p x) (list_all p xs) (h x (inl refl)) (true_all p xs (λ y i. h y (inr i)))
