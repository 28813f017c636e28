-- What is among lists.
use Rattle.std.proofs.Common.{◌≡◌, ℕ, suc, ◌+◌, ◌<◌, List, [], ◌∷◌, ◌++◌, take, length, get_or, ap, sym, ◌∙◌, inl, inr, ◌⊎◌, arith, append_assoc}
use Rattle.std.proofs.Math.Logic.{⊎_elim}
use Rattle.std.proofs.Math.Seq.{take-suc}
use Rattle.mo_names.specs.Order.{Among}

-- the first i items and one more
pub taken : {A : Type 0} (xs : List A) (i : ℕ) (other x : A) → i < length xs → x ≡ get_or xs i other → take (i + 1) xs ≡ take i xs ++ x ∷ []
taken xs i other x l e = let n : i + 1 ≡ suc i = omega arith in ap (λ k. take k xs) n ∙ (take-suc xs i other l ∙ ap (λ z. take i xs ++ z ∷ []) (sym e))

pub no_split : {A : Type 0} (before after : List A) (x : A) → [] ≡ before ++ x ∷ after → ⊥
no_split [] after x e = grind arith
no_split (b ∷ bs) after x e = grind arith

pub among_none : {A : Type 0} (x : A) → Among x [] → ⊥
among_none x w = no_split w.0 w.1 x w.2

pub among_one : {A : Type 0} (y x : A) → Among x (y ∷ []) → x ≡ y
among_one {A} y x w = by w.0 w.1 w.2 where
  by : (before after : List A) → y ∷ [] ≡ before ++ x ∷ after → x ≡ y
  by [] after e = cc
  by (b ∷ bs) after e = let t : [] ≡ bs ++ x ∷ after = cc in absurd (no_split bs after x t)

pub among_left : {A : Type 0} (xs ys : List A) (x : A) → Among x xs → Among x (xs ++ ys)
among_left xs ys x w = (w.0, w.1 ++ ys, ap (λ t. t ++ ys) w.2 ∙ append_assoc w.0 (x ∷ w.1) ys)

pub among_right : {A : Type 0} (xs ys : List A) (x : A) → Among x ys → Among x (xs ++ ys)
among_right xs ys x w = (xs ++ w.0, w.1, ap (λ t. xs ++ t) w.2 ∙ sym (append_assoc xs w.0 (x ∷ w.1)))

behind : {A : Type 0} (xs : List A) (z x : A) → Among x xs → Among x (z ∷ xs)
behind xs z x w = (z ∷ w.0, w.1, ap (λ l. z ∷ l) w.2)

split : {A : Type 0} (xs ys before after : List A) (x : A) → xs ++ ys ≡ before ++ x ∷ after → Among x xs ⊎ Among x ys
split [] ys before after x e = inr (before, after, e)
split (z ∷ zs) ys [] after x e = let h : z ≡ x = cc in inl ([], zs, ap (λ t. t ∷ zs) h)
split (z ∷ zs) ys (b ∷ bs) after x e =
    let t : zs ++ ys ≡ bs ++ x ∷ after = cc in
    ⊎_elim (λ w. inl (behind zs z x w)) (λ w. inr w) (split zs ys bs after x t)

pub among_cases : {A : Type 0} (xs ys : List A) (x : A) → Among x (xs ++ ys) → Among x xs ⊎ Among x ys
among_cases xs ys x w = split xs ys w.0 w.1 x w.2
