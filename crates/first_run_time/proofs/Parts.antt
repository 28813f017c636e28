-- Parts of memories, and numbers that their bytes are.
use Rattle.std.proofs.Common.{◌≡◌, ◌+◌, ◌-◌, ◌*◌, ◌/◌, ◌%◌, ◌<◌, ◌≤◌, ◌^◌, ℕ, zero, suc, List, [], ◌∷◌, ◌++◌, length, take, drop, false, true, Bool, cond, nat_eq, ap, ◌∙◌, arith, append_assoc, length-append, length-drop, refl, sym}
use Rattle.std.proofs.lemmas.List.{take_at, drop_at, drop-drop, length-take-le}
use Rattle.std.proofs.Math.Nat.{mod-eq_of_lt, add-mod_right}
use native.Mathlib.Numerals.{unary_clauses}
use Rattle.std.specs.Fmt.{digit_glyph, digits_onto, digits, decimal}
use Rattle.wasm_tree.specs.declared.types.ValueType.TheVariants.{I32}
use Rattle.wasm_tree.specs.Numeric.{low}
use Rattle.wasm_tree.specs.Exec.{number_of}
use Rattle.low_rules.proofs.Steps.{low_is}
use Rattle.memory_routines.specs.Heaps.{HoldsBytes}

pub bounded : (xs : List ℕ) → HoldsBytes xs → number_of xs < 256 ^ length xs
bounded [] h = omega arith
bounded (x ∷ xs) h =
    let rest : number_of xs < 256 ^ length xs = bounded xs (λ k. h (suc k)) in
    let byte : x < 256 = h 0 in
    let all : x + 256 * number_of xs < 256 ^ length xs * 256 = omega (arith, rest, byte) in
    simp unary_clauses all

pub taken : (n : ℕ) (l : List ℕ) → HoldsBytes l → HoldsBytes (take n l)
taken zero l h k = omega arith
taken (suc n) [] h k = omega arith
taken (suc n) (x ∷ l) h zero = h zero
taken (suc n) (x ∷ l) h (suc k) = taken n l (λ k. h (suc k)) k

-- What stands in the middle.
pub middle : (front these back : List ℕ) (a n : ℕ) → length front ≡ a → length these ≡ n → take n (drop a ((front ++ these) ++ back)) ≡ these
middle front these back a n p q =
    ap (λ l. take n (drop a l)) (append_assoc front these back) ∙ ap (take n) (drop_at front (these ++ back) a p) ∙ take_at these back n q

pub replaced_length : (memory these : List ℕ) (a b : ℕ) → a + length these ≡ b → b ≤ length memory → length ((take a memory ++ these) ++ drop b memory) ≡ length memory
replaced_length memory these a b e inside =
    length-append (take a memory ++ these) (drop b memory) ∙ omega (arith, length-append (take a memory) these, length-take-le a memory (omega (arith, e, inside)), length-drop b memory, e, inside)

-- How far it is to a place.
pub distance : (to from n : ℕ) → from + n ≡ to → to < 2 ^ 32 → low I32 (low I32 to + 2 ^ 32 - low I32 from) ≡ n
distance to from n e h =
    let sum : to + 2 ^ 32 - from ≡ n + 2 ^ 32 = omega (arith, e) in
    (λ i. low I32 (low_is to h i + 2 ^ 32 - low_is from (omega (arith, e, h)) i)) ∙ ap (λ x. x % 2 ^ 32) sum ∙ add-mod_right n (2 ^ 32) ∙ mod-eq_of_lt (omega (arith, e, h))

either : (t : Bool) (xs ys : List ℕ) (most : ℕ) → length xs ≤ most → length ys ≤ most → length (cond t xs ys) ≤ most
either true xs ys most p q = p
either false xs ys most p q = q

-- A number has 64 digits at most, as far as they are written here.
few_digits : (k n : ℕ) (text : List ℕ) → length (digits_onto k 10 false n text) ≤ k + length text
few_digits zero n text = omega arith
few_digits (suc k) n text = either (nat_eq (n / 10) 0) (digit_glyph false (n % 10) ∷ text) (digits_onto k 10 false (n / 10) (digit_glyph false (n % 10) ∷ text)) (suc k + length text) (omega arith) (let rest = few_digits k (n / 10) (digit_glyph false (n % 10) ∷ text) in omega (arith, rest))

pub short_decimal : (n : ℕ) → length (decimal n) ≤ 64
unfolding digits
short_decimal n = omega (arith, few_digits 64 n [])

-- A memory holds bytes where its parts do.

both_hold : (l r : List ℕ) → HoldsBytes l → HoldsBytes r → HoldsBytes (l ++ r)
both_hold [] r p q k = q k
both_hold (x ∷ l) r p q zero = p zero
both_hold (x ∷ l) r p q (suc k) = both_hold l r (λ k. p (suc k)) q k

dropped : (n : ℕ) (l : List ℕ) → HoldsBytes l → HoldsBytes (drop n l)
dropped zero l h k = h k
dropped (suc n) [] h k = omega arith
dropped (suc n) (x ∷ l) h k = dropped n l (λ k. h (suc k)) k

pub replaced_bytes : (memory these : List ℕ) (a b : ℕ) → HoldsBytes memory → HoldsBytes these → HoldsBytes ((take a memory ++ these) ++ drop b memory)
replaced_bytes memory these a b h t = both_hold (take a memory ++ these) (drop b memory) (both_hold (take a memory) these (taken a memory h) t) (dropped b memory h)

-- Parts of parts.

pub take_less : (n m : ℕ) (l : List ℕ) → n ≤ m → take n (take m l) ≡ take n l
take_less zero m l h = refl
take_less (suc n) zero l h = absurd (omega arith)
take_less (suc n) (suc m) [] h = refl
take_less (suc n) (suc m) (x ∷ l) h = ap (λ l. x ∷ l) (take_less n m l (omega arith))

shifted : (from n m : ℕ) (l : List ℕ) → from + n ≤ m → take n (drop from (take m l)) ≡ take n (drop from l)
shifted zero n m l h = take_less n m l (omega (arith, h))
shifted (suc from) n zero l h = absurd (omega (arith, h))
shifted (suc from) n (suc m) [] h = refl
shifted (suc from) n (suc m) (x ∷ l) h = shifted from n m l (omega (arith, h))

-- A part of bytes that stand at a place.
pub part_of : (memory bytes : List ℕ) (a m from n : ℕ) → take m (drop a memory) ≡ bytes → from + n ≤ m → take n (drop (a + from) memory) ≡ take n (drop from bytes)
part_of memory bytes a m from n e h = ap (take n) (sym (drop-drop from a memory)) ∙ sym (shifted from n m (drop a memory) h) ∙ ap (λ l. take n (drop from l)) e
