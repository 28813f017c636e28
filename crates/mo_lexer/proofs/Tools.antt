-- Small facts on tests, options and lists.
use Rattle.std.proofs.Common.{◌≡◌, ℕ, suc, ◌+◌, ◌<◌, Bool, true, false, List, [], ◌∷◌, length, take, drop, get_or, Option, Some, None, refl, sym, ap, ◌∙◌, arith, ⊎_elim, length-drop, drop-cons, add-one, ◌-◌}
use Rattle.std.specs.Prelude.{if◌then◌else◌, ◌&&◌, ◌||◌, not, ◌⊎◌, ◌==◌}
use Rattle.std.proofs.lemmas.Bool.{eqb-true, eq-eqb}
use Rattle.std.proofs.Math.Seq.{take-length}
use Rattle.std.specs.Option.{option_map}
use Rattle.std.specs.Str.{bytes_eq}
use Rattle.std.proofs.Common.{inl, inr}

pub and_true : (a b : Bool) → (a && b) ≡ true → (a ≡ true) × (b ≡ true)
and_true true b h = (refl, h)
and_true false b h = absurd (cc)

pub and_of : (a b : Bool) → a ≡ true → b ≡ true → (a && b) ≡ true
and_of true b g h = h
and_of false b g h = absurd (cc)

pub or_true : (a b : Bool) → (a || b) ≡ true → (a ≡ true) ⊎ (b ≡ true)
or_true true b h = inl refl
or_true false b h = inr h

pub or_left : (a b : Bool) → a ≡ true → (a || b) ≡ true
or_left true b h = refl
or_left false b h = absurd (cc)

pub or_right : (a b : Bool) → b ≡ true → (a || b) ≡ true
or_right true b h = refl
or_right false b h = h

pub or_false : (a b : Bool) → (a || b) ≡ false → (a ≡ false) × (b ≡ false)
or_false true b h = absurd (cc)
or_false false b h = (refl, h)

pub or_of_false : (a b : Bool) → a ≡ false → b ≡ false → (a || b) ≡ false
or_of_false true b g h = absurd (cc)
or_of_false false b g h = h

pub not_true : (a : Bool) → not a ≡ true → a ≡ false
not_true true h = absurd (cc)
not_true false h = refl

pub if_true : {A : Type 0} (b : Bool) (x y : A) → b ≡ true → (if b then x else y) ≡ x
if_true b x y h = ap (λ t. if t then x else y) h

pub if_false : {A : Type 0} (b : Bool) (x y : A) → b ≡ false → (if b then x else y) ≡ y
if_false b x y h = ap (λ t. if t then x else y) h

-- a test holds or fails
pub tested : {P : Type 0} (b : Bool) → (b ≡ true → P) → (b ≡ false → P) → P
tested true holds fails = holds refl
tested false holds fails = fails refl

pub true_is_not_false : {P : Type 0} {b : Bool} → b ≡ true → b ≡ false → P
true_is_not_false g h = absurd (cc)

pub mapped_some : {A B : Type 0} (f : A → B) (o : Option A) (y : B) → option_map f o ≡ Some y → (x : A) × (o ≡ Some x) × (f x ≡ y)
mapped_some f None y h = absurd (cc)
mapped_some f (Some x) y h = (x, refl, cc)

pub take_two : {A : Type 0} (n : ℕ) (x y : A) (xs : List A) → take (2 + n) (x ∷ y ∷ xs) ≡ x ∷ y ∷ take n xs
take_two n x y xs = let e : 2 + n ≡ suc (suc n) = omega arith in rw e refl

pub drop_two : {A : Type 0} (n : ℕ) (x y : A) (xs : List A) → drop (2 + n) (x ∷ y ∷ xs) ≡ drop n xs
drop_two n x y xs = let e : 2 + n ≡ suc (suc n) = omega arith in rw e refl

pub take_one : {A : Type 0} (n : ℕ) (x : A) (xs : List A) → take (1 + n) (x ∷ xs) ≡ x ∷ take n xs
take_one n x xs = let e : 1 + n ≡ suc n = omega arith in rw e refl

pub drop_one : {A : Type 0} (n : ℕ) (x : A) (xs : List A) → drop (1 + n) (x ∷ xs) ≡ drop n xs
drop_one n x xs = let e : 1 + n ≡ suc n = omega arith in rw e refl

-- `&s[n..]`
pub slice_rest : (n : ℕ) (xs : List ℕ) → take (length xs - n) (drop n xs) ≡ drop n xs
slice_rest n xs = ap (λ k. take k (drop n xs)) (sym (length-drop n xs)) ∙ take-length (drop n xs)

pub not_both : (b d m n : ℕ) → ((b ≡ m) × (d ≡ n → ⊥)) ⊎ (b ≡ m → ⊥) → (b == m && d == n) ≡ false
not_both b d m n h = tested (b == m && d == n)
    (λ both. let two = and_true (b == m) (d == n) both in ⊎_elim (λ p. absurd (p.1 (eqb-true d n two.1))) (λ p. absurd (p (eqb-true b m two.0))) h)
    (λ other. other)

pub both_are : (b d m n : ℕ) → b ≡ m → d ≡ n → (b == m && d == n) ≡ true
both_are b d m n h g = and_of (b == m) (d == n) (eq-eqb b m h) (eq-eqb d n g)

pub head_at : (n : ℕ) (xs : List ℕ) → n < length xs → drop n xs ≡ get_or xs n 0 ∷ drop (n + 1) xs
head_at n xs h = drop-cons xs n 0 h ∙ ap (λ k. get_or xs n 0 ∷ drop k xs) (sym (add-one n))

pub two_at : (n : ℕ) (xs : List ℕ) → n + 1 < length xs → drop n xs ≡ get_or xs n 0 ∷ get_or xs (n + 1) 0 ∷ drop (n + 2) xs
two_at n xs h =
    let first : n < length xs = omega arith in
    let plus : n + 1 + 1 ≡ n + 2 = omega arith in
    head_at n xs first ∙ ap (λ l. get_or xs n 0 ∷ l) (head_at (n + 1) xs h ∙ ap (λ k. get_or xs (n + 1) 0 ∷ drop k xs) plus)

pub bytes_same : (xs ys : List ℕ) → bytes_eq xs ys ≡ true → xs ≡ ys
bytes_same [] [] h = refl
bytes_same [] (y ∷ ys) h = absurd (cc)
bytes_same (x ∷ xs) [] h = absurd (cc)
bytes_same (x ∷ xs) (y ∷ ys) h = let both = and_true (x == y) (bytes_eq xs ys) h in ap (λ z. z ∷ xs) (eqb-true x y both.0) ∙ ap (λ l. y ∷ l) (bytes_same xs ys both.1)
