-- One coefficient after the other: the division of CRC-32, with a register.
use Rattle.std.proofs.Common.{◌≡◌, ℕ, zero, suc, ◌+◌, ◌*◌, ◌^◌, ◌<◌, ◌≤◌, ◌/◌, ◌%◌, Bool, true, false, List, [], ◌∷◌, ◌++◌, length, take, drop, refl, sym, ap, ◌∙◌, arith, length-append, length-take}
use Rattle.std.specs.Prelude.{replicate, bit_xor, ◌==◌}
use Rattle.std.proofs.lemmas.Nat.{xor_shr}
use Rattle.std.proofs.lemmas.Nat.Bits.{bit_at_xor}
use Rattle.std.proofs.Math.Nat.{pow-suc}
use Rattle.mo_num.specs.Crc.{bits, differs, sum_of, generator, divided, remainder}

-- Sums of lists of one length.
differs_comm : (x y : Bool) → differs x y ≡ differs y x
differs_comm true true = refl
differs_comm true false = refl
differs_comm false true = refl
differs_comm false false = refl

differs_assoc : (x y z : Bool) → differs (differs x y) z ≡ differs x (differs y z)
differs_assoc true true true = refl
differs_assoc true true false = refl
differs_assoc true false z = refl
differs_assoc false y z = refl

sum_comm : (xs ys : List Bool) → sum_of xs ys ≡ sum_of ys xs
sum_comm [] [] = refl
sum_comm [] (y ∷ ys) = refl
sum_comm (x ∷ xs) [] = refl
sum_comm (x ∷ xs) (y ∷ ys) = let h : differs x y ≡ differs y x = differs_comm x y in let t : sum_of xs ys ≡ sum_of ys xs = sum_comm xs ys in cc

sum_assoc : (xs ys zs : List Bool) → length xs ≡ length ys → length ys ≡ length zs → sum_of (sum_of xs ys) zs ≡ sum_of xs (sum_of ys zs)
sum_assoc [] [] zs e f = refl
sum_assoc [] (y ∷ ys) zs e f = absurd (omega arith)
sum_assoc (x ∷ xs) [] zs e f = absurd (omega arith)
sum_assoc (x ∷ xs) (y ∷ ys) [] e f = absurd (omega arith)
sum_assoc (x ∷ xs) (y ∷ ys) (z ∷ zs) e f =
    let h : differs (differs x y) z ≡ differs x (differs y z) = differs_assoc x y z in
    let t : sum_of (sum_of xs ys) zs ≡ sum_of xs (sum_of ys zs) = sum_assoc xs ys zs (omega arith) (omega arith) in
    cc

sum_append : (xs ys us vs : List Bool) → length xs ≡ length ys → sum_of (xs ++ us) (ys ++ vs) ≡ sum_of xs ys ++ sum_of us vs
sum_append [] [] us vs e = refl
sum_append [] (y ∷ ys) us vs e = absurd (omega arith)
sum_append (x ∷ xs) [] us vs e = absurd (omega arith)
sum_append (x ∷ xs) (y ∷ ys) us vs e = ap (λ l. differs x y ∷ l) (sum_append xs ys us vs (omega arith))

sum_false : (n : ℕ) (xs : List Bool) → length xs ≡ n → sum_of xs (replicate n false) ≡ xs
sum_false n [] e = ap (λ k. replicate k false) (sym e)
sum_false zero (x ∷ xs) e = absurd (omega arith)
sum_false (suc n) (x ∷ xs) e = let h : differs x false ≡ x = differs_comm x false in let t : sum_of xs (replicate n false) ≡ xs = sum_false n xs (omega arith) in cc

-- Binary digits.
pub bits_length : (k n : ℕ) → length (bits k n) ≡ k
unfolding bits
bits_length zero n = refl
bits_length (suc k) n = ap suc (bits_length k (n / 2))

digit_sum : (x y : ℕ) → x < 2 → y < 2 → ((x + y) % 2 == 1) ≡ differs (x == 1) (y == 1)
digit_sum zero zero p q = refl
digit_sum zero (suc zero) p q = refl
digit_sum zero (suc (suc y)) p q = absurd (omega arith)
digit_sum (suc zero) zero p q = refl
digit_sum (suc zero) (suc zero) p q = refl
digit_sum (suc zero) (suc (suc y)) p q = absurd (omega arith)
digit_sum (suc (suc x)) y p q = absurd (omega arith)

pub bits_xor : (k a b : ℕ) → bits k (bit_xor a b) ≡ sum_of (bits k a) (bits k b)
unfolding bits
bits_xor zero a b = refl
bits_xor (suc k) a b =
    let at : bit_xor a b / 1 % 2 ≡ (a / 1 % 2 + b / 1 % 2) % 2 = bit_at_xor a b 0 in
    let low : bit_xor a b % 2 ≡ (a % 2 + b % 2) % 2 = omega (arith, at) in
    let h : (bit_xor a b % 2 == 1) ≡ differs (a % 2 == 1) (b % 2 == 1) = ap (λ d. d == 1) low ∙ digit_sum (a % 2) (b % 2) (omega arith) (omega arith) in
    let s : bit_xor a b / 2 ≡ bit_xor (a / 2) (b / 2) = xor_shr a b 1 in
    ap (λ d. d ∷ bits k (bit_xor a b / 2)) h ∙ ap (λ r. differs (a % 2 == 1) (b % 2 == 1) ∷ r) (ap (bits k) s ∙ bits_xor k (a / 2) (b / 2))

-- The digits above those of a number are 0.
pub bits_more : (k n : ℕ) → n < 2 ^ k → bits (suc k) n ≡ bits k n ++ false ∷ []
unfolding bits
bits_more zero n h = let e : n % 2 ≡ 0 = omega arith in ap (λ d. (d == 1) ∷ []) e
bits_more (suc k) n h =
    let p : 2 ^ suc k ≡ 2 ^ k * 2 = pow-suc 2 k in
    let less : n / 2 < 2 ^ k = omega (arith, h, p) in
    ap (λ l. (n % 2 == 1) ∷ l) (bits_more k (n / 2) less)

-- One more element of a list.
next_of : (n : ℕ) (l : List Bool) → n < length l → (d : Bool) × (take (suc n) l ≡ take n l ++ d ∷ []) × (drop n l ≡ d ∷ drop (suc n) l)
next_of n [] h = absurd (omega arith)
next_of zero (x ∷ xs) h = (x, refl, refl)
next_of (suc n) (x ∷ xs) h =
    let less : n < length xs = omega arith in
    let r : (d : Bool) × (take (suc n) xs ≡ take n xs ++ d ∷ []) × (drop n xs ≡ d ∷ drop (suc n) xs) = next_of n xs less in
    (r.0, ap (λ l. x ∷ l) r.1, r.2)

-- The coefficients that are still to come.
abbrev coming : List Bool → List Bool
coming m = m ++ replicate 32 false

long_enough : (m : List Bool) → 32 ≤ length (coming m)
long_enough m = let e : length (m ++ replicate 32 false) ≡ length m + 32 = length-append m (replicate 32 false) in omega (arith, e)

generator_length : length generator ≡ 32
unfolding generator
generator_length = refl

-- The window, less its first coefficient and with the next one behind it.
moved : (r l : List Bool) (d : Bool) → length r ≡ 31 → 32 ≤ length l → take 32 l ≡ take 31 l ++ d ∷ [] → sum_of r (take 31 l) ++ d ∷ [] ≡ sum_of (r ++ false ∷ []) (take 32 l)
moved r l d e enough next =
    let t : length (take 31 l) ≡ 31 = omega (arith, length-take 31 l, enough) in
    sym (sum_append r (take 31 l) (false ∷ []) (d ∷ []) (e ∙ sym t)) ∙ ap (λ k. sum_of (r ++ false ∷ []) k) (sym next)

-- The next coefficient: where it and the register's first agree the register moves on, else the generator is added.
pub step_same : (c : Bool) (r m : List Bool) (b : Bool) → length r ≡ 31 → differs c b ≡ false → remainder (c ∷ r) (b ∷ m) ≡ remainder (r ++ false ∷ []) m
unfolding remainder
step_same c r m b e same =
    let enough : 32 ≤ length (coming m) = long_enough m in
    let n : (d : Bool) × (take 32 (coming m) ≡ take 31 (coming m) ++ d ∷ []) × (drop 31 (coming m) ≡ d ∷ drop 32 (coming m)) = next_of 31 (coming m) (omega (arith, enough)) in
    ap (λ d. divided (d ∷ sum_of r (take 31 (coming m))) (drop 31 (coming m))) same
    ∙ ap (λ k. divided (false ∷ sum_of r (take 31 (coming m))) k) n.2
    ∙ ap (λ w. divided w (drop 32 (coming m))) (moved r (coming m) n.0 e enough n.1)

pub step_other : (c : Bool) (r m : List Bool) (b : Bool) → length r ≡ 31 → differs c b ≡ true → remainder (c ∷ r) (b ∷ m) ≡ remainder (sum_of (r ++ false ∷ []) generator) m
unfolding remainder
step_other c r m b e other =
    let enough : 32 ≤ length (coming m) = long_enough m in
    let n : (d : Bool) × (take 32 (coming m) ≡ take 31 (coming m) ++ d ∷ []) × (drop 31 (coming m) ≡ d ∷ drop 32 (coming m)) = next_of 31 (coming m) (omega (arith, enough)) in
    let whole : length (take 32 (coming m)) ≡ 32 = omega (arith, length-take 32 (coming m), enough) in
    let first : length (r ++ false ∷ []) ≡ 32 = omega (arith, length-append r (false ∷ []), e) in
    ap (λ d. divided (d ∷ sum_of r (take 31 (coming m))) (drop 31 (coming m))) other
    ∙ ap (λ k. divided (true ∷ sum_of r (take 31 (coming m))) k) n.2
    ∙ ap (λ w. divided (sum_of w generator) (drop 32 (coming m))) (moved r (coming m) n.0 e enough n.1)
    ∙ ap (λ w. divided w (drop 32 (coming m)))
    (sum_assoc (r ++ false ∷ []) (take 32 (coming m)) generator (first ∙ sym whole) (whole ∙ sym generator_length)
    ∙ ap (λ k. sum_of (r ++ false ∷ []) k) (sum_comm (take 32 (coming m)) generator)
    ∙ sym (sum_assoc (r ++ false ∷ []) generator (take 32 (coming m)) (first ∙ sym generator_length) (generator_length ∙ sym whole)))

-- At the end the register is the remainder.
pub at_end : (r : List Bool) → length r ≡ 32 → remainder r [] ≡ r
unfolding remainder
at_end r e = sum_false 32 r e
