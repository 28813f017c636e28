-- How many elements of a list pass a test.
use Rattle.std.proofs.Common.{◌≡◌, ℕ, suc, ◌+◌, ◌≤◌, inl, inr, Bool, true, false, List, [], ◌∷◌, length, refl, ap, ◌∙◌, arith}
use Rattle.mo_coding.proofs.Members.{Has}

abbrev pub bit : Bool → ℕ
bit true = 1
bit false = 0

bit_less : (b c : Bool) → (b ≡ true → c ≡ true) → bit b ≤ bit c
bit_less true c h = let e = ap bit (h refl) in omega (arith, e)
bit_less false c h = omega arith

bit_small : (b : Bool) → bit b ≤ 1
bit_small true = omega arith
bit_small false = omega arith

module _ {X : Type 0} where
  abbrev pub count : (X → Bool) → List X → ℕ
  count p [] = 0
  count p (x ∷ xs) = bit (p x) + count p xs

  pub at_most : (p : X → Bool) (xs : List X) → count p xs ≤ length xs
  at_most p [] = omega arith
  at_most p (x ∷ xs) = let a = bit_small (p x) in let b = at_most p xs in omega (arith, a, b)

  module _ (p q : X → Bool) (less : (x : X) → q x ≡ true → p x ≡ true) where
    pub fewer : (xs : List X) → count q xs ≤ count p xs
    fewer [] = omega arith
    fewer (x ∷ xs) = let a = bit_less (q x) (p x) (less x) in let b = fewer xs in omega (arith, a, b)

    -- one that passes no longer
    pub fewer_by_one : (xs : List X) (t : X) → Has xs t → p t ≡ true → q t ≡ false → suc (count q xs) ≤ count p xs
    fewer_by_one [] t h e f = absurd h
    fewer_by_one (x ∷ xs) t (inl g) e f =
        let a : bit (p x) ≡ 1 = ap (λ z. bit (p z)) g ∙ ap bit e in
        let b : bit (q x) ≡ 0 = ap (λ z. bit (q z)) g ∙ ap bit f in
        let c = fewer xs in
        omega (arith, a, b, c)
    fewer_by_one (x ∷ xs) t (inr h) e f = let a = bit_less (q x) (p x) (less x) in let b = fewer_by_one xs t h e f in omega (arith, a, b)

  pub none_passes : (p : X → Bool) (xs : List X) (t : X) → count p xs ≤ 0 → Has xs t → p t ≡ false
  none_passes p [] t c h = absurd h
  none_passes p (x ∷ xs) t c (inl e) = by (p t) refl where
    by : (b : Bool) → p t ≡ b → p t ≡ false
    by false f = f
    by true f = let a : bit (p x) ≡ 1 = ap (λ z. bit (p z)) e ∙ ap bit f in absurd (omega (arith, a, c))
  none_passes p (x ∷ xs) t c (inr h) = none_passes p xs t (omega (arith, c)) h
