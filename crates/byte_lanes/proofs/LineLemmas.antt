-- The places of lines: taken from a mask, put together over blocks, and in order.
use Rattle.std.proofs.Common.{◌≡◌, ◌≢◌, ℕ, zero, suc, ◌+◌, ◌-◌, ◌*◌, ◌/◌, ◌%◌, ◌^◌, ◌<◌, ◌≤◌, min, Bool, true, false, cond, ◌==◌, List, [], ◌∷◌, ◌++◌, length, get_or, take, drop, refl, sym, ap, ap₂, subst, ◌∙◌, arith, mod-lt, zero-lt-suc, pow-suc, add-zero, zero-add, bit_and}
use Rattle.std.proofs.lemmas.List.{take_more, take_all, length-take-le, append-nil}
use Rattle.std.proofs.Math.Seq.{take-add}
use Rattle.std.proofs.lemmas.Simd.{length-chunk, get_or-chunk}
use Rattle.std.specs.List.{All}
use Rattle.std.specs.List.Sorted.{IsStrictlyIncreasing}
use Rattle.std.specs.Int.{bit_at}
use Rattle.std.specs.Int.Bits.{and_step, and_self}
use Rattle.std.specs.Int.Count.{count_trailing_zeros}
use Rattle.std.proofs.lemmas.Bool.{cond_both, cond-true, cond-false, eq-eqb, ne_eqb}
use Rattle.std.proofs.lemmas.Nat.Bits.{bit_at_lowest, bit_at-suc}
use lib.Count.{under}
use Rattle.byte_lanes.specs.Lines.{line_start_places, places_after_newlines}
use Rattle.byte_lanes.specs.Mask.{marked_places}

pub marked_places-zero : (bits place : ℕ) → marked_places bits place 0 ≡ []
unfolding marked_places
marked_places-zero zero place = refl
marked_places-zero (suc bits) place = marked_places-zero bits (place + 1)

pub two_cases : (P : ℕ → Type 0) → P 0 → P 1 → (x : ℕ) → x < 2 → P x
two_cases P p q zero h = p
two_cases P p q (suc zero) h = q
two_cases P p q (suc (suc r)) h = let no : ⊥ = omega arith in absurd no

-- the places by the lowest bit and the rest
abbrev split : ℕ → ℕ → ℕ → ℕ → List ℕ
split bits place low rest = cond (low == 1) (place ∷ marked_places bits (place + 1) rest) (marked_places bits (place + 1) rest)

abbrev Lowest : ℕ → ℕ → ℕ → Type 0
Lowest bits place x =
    split bits place (x % 2) (x / 2)
    ≡ (place + under (x % 2) (count_trailing_zeros bits (x / 2))) ∷ split bits place (bit_and x (x - 1) % 2) (bit_and x (x - 1) / 2)

-- the lowest bit that is set comes first, and clearing it leaves the others
pub marked_places-lowest : (bits place x : ℕ) → 0 < x → x < 2 ^ bits
    → marked_places bits place x ≡ (place + count_trailing_zeros bits x) ∷ marked_places bits place (bit_and x (x - 1))
unfolding marked_places count_trailing_zeros
marked_places-lowest zero place x some small = let no : ⊥ = omega arith in absurd no
marked_places-lowest (suc bits) place x some small =
    two_cases (λ r. x % 2 ≡ r → Lowest bits place x) (even (λ p. marked_places-lowest bits (place + 1) (x / 2) p (omega (arith, pow-suc 2 bits)))) odd (x % 2) (mod-lt x (zero-lt-suc 1)) refl
  where
    odd : x % 2 ≡ 1 → Lowest bits place x
    odd e =
        let y = bit_and x (x - 1) in
        let half : (x - 1) / 2 ≡ x / 2 = omega arith in
        let low : min (x % 2) ((x - 1) % 2) ≡ 0 = omega arith in
        let is : y ≡ x / 2 * 2 + 0 = and_step x (x - 1) ∙ ap₂ (λ u v. u * 2 + v) (ap (bit_and (x / 2)) half ∙ and_self (x / 2)) low in
        let p : y % 2 ≡ 0 = omega arith in
        let q : y / 2 ≡ x / 2 = omega arith in
        ap (λ r. split bits place r (x / 2)) e
        ∙ ap₂ (λ u v. u ∷ v) (sym (ap (λ r. place + under r (count_trailing_zeros bits (x / 2))) e ∙ add-zero place)) (sym (ap₂ (split bits place) p q))

    even : (0 < x / 2 → marked_places bits (place + 1) (x / 2) ≡ (place + 1 + count_trailing_zeros bits (x / 2)) ∷ marked_places bits (place + 1) (bit_and (x / 2) (x / 2 - 1)))
        → x % 2 ≡ 0 → Lowest bits place x
    even below e =
        let y = bit_and x (x - 1) in
        let half : (x - 1) / 2 ≡ x / 2 - 1 = omega arith in
        let low : min (x % 2) ((x - 1) % 2) ≡ 0 = omega arith in
        let z = bit_and (x / 2) (x / 2 - 1) in
        let is : y ≡ z * 2 + 0 = and_step x (x - 1) ∙ ap₂ (λ u v. u * 2 + v) (ap (bit_and (x / 2)) half) low in
        let p : y % 2 ≡ 0 = omega arith in
        let q : y / 2 ≡ z = omega arith in
        let t = count_trailing_zeros bits (x / 2) in
        let next : place + 1 + t ≡ place + suc t = omega arith in
        ap (λ r. split bits place r (x / 2)) e ∙ below (omega arith)
        ∙ ap₂ (λ u v. u ∷ v) (next ∙ sym (ap (λ r. place + under r t) e)) (sym (ap₂ (split bits place) p q))

bit_of : (b : Bool) → (cond {A = ℕ} b 1 0 == 1) ≡ b
bit_of true = refl
bit_of false = refl

-- where the bits are those of the newlines, their places are the starts
pub marked_places-newlines : (bytes : List ℕ) (place mask : ℕ) → ((k : ℕ) → k < length bytes → bit_at mask k ≡ cond (get_or bytes k 0 == 10) 1 0)
    → marked_places (length bytes) (place + 1) mask ≡ places_after_newlines place bytes
unfolding marked_places
marked_places-newlines [] place mask marks = refl
marked_places-newlines (byte ∷ bytes) place mask marks =
    let first : (mask % 2 == 1) ≡ (byte == 10) = ap (λ n. n == 1) (sym (bit_at_lowest mask) ∙ marks 0 (omega arith)) ∙ bit_of (byte == 10) in
    let rest = marked_places-newlines bytes (place + 1) (mask / 2) (λ k lt. sym (bit_at-suc mask k) ∙ marks (suc k) (omega arith)) in
    ap₂ (λ b l. cond b ((place + 1) ∷ l) l) first rest

cons_first : (b : Bool) (x : ℕ) (xs ys : List ℕ) → cond b (x ∷ (xs ++ ys)) (xs ++ ys) ≡ cond b (x ∷ xs) xs ++ ys
cons_first true x xs ys = refl
cons_first false x xs ys = refl

pub places_after_newlines-append : (place : ℕ) (xs ys : List ℕ)
    → places_after_newlines place (xs ++ ys) ≡ places_after_newlines place xs ++ places_after_newlines (place + length xs) ys
places_after_newlines-append place [] ys = ap (λ p. places_after_newlines p ys) (sym (add-zero place))
places_after_newlines-append place (x ∷ xs) ys =
    let next : place + 1 + length xs ≡ place + length (x ∷ xs) = omega arith in
    let more = places_after_newlines-append (place + 1) xs ys ∙ ap (λ p. places_after_newlines (place + 1) xs ++ places_after_newlines p ys) next in
    ap (λ l. cond (x == 10) ((place + 1) ∷ l) l) more ∙ cons_first (x == 10) (place + 1) (places_after_newlines (place + 1) xs) _

-- the starts of one more byte
one_more : (bytes : List ℕ) (at : ℕ) → at < length bytes
    → line_start_places (take (at + 1) bytes) ≡ line_start_places (take at bytes) ++ cond (get_or bytes at 0 == 10) ((at + 1) ∷ []) []
one_more bytes at lt =
    let long = length-take-le at bytes (omega arith) in
    ap line_start_places (take_more bytes at 0 lt)
    ∙ ap (λ l. 0 ∷ l) (places_after_newlines-append 0 (take at bytes) (get_or bytes at 0 ∷ []))
    ∙ ap (λ p. 0 ∷ (places_after_newlines 0 (take at bytes) ++ places_after_newlines p (get_or bytes at 0 ∷ []))) (zero-add _ ∙ long)

-- which is a newline
pub newline_more : (bytes : List ℕ) (at : ℕ) → at < length bytes → get_or bytes at 0 ≡ 10 → line_start_places (take (at + 1) bytes) ≡ line_start_places (take at bytes) ++ (at + 1) ∷ []
newline_more bytes at lt is = one_more bytes at lt ∙ ap (λ l. line_start_places (take at bytes) ++ l) (cond-true _ _ _ (eq-eqb _ _ is))

-- which is none
pub other_more : (bytes : List ℕ) (at : ℕ) → at < length bytes → get_or bytes at 0 ≢ 10 → line_start_places (take (at + 1) bytes) ≡ line_start_places (take at bytes)
other_more bytes at lt other =
    one_more bytes at lt ∙ ap (λ l. line_start_places (take at bytes) ++ l) (cond-false _ _ _ (ne_eqb _ _ other)) ∙ append-nil (line_start_places (take at bytes))

-- the starts of 64 more bytes, whose mask marks the newlines
pub block_more : (bytes : List ℕ) (at mask : ℕ) → at + 64 ≤ length bytes → ((k : ℕ) → k < 64 → bit_at mask k ≡ cond (get_or bytes (at + k) 0 == 10) 1 0)
    → line_start_places (take (at + 64) bytes) ≡ line_start_places (take at bytes) ++ marked_places 64 (at + 1) mask
block_more bytes at mask room marks =
    let block = take 64 (drop at bytes) in
    let long : length block ≡ 64 = length-chunk at 64 bytes room in
    let before = length-take-le at bytes (omega arith) in
    let found = marked_places-newlines block at mask (λ k lt. marks k (omega (arith, long)) ∙ ap (λ x. cond (x == 10) 1 0) (sym (get_or-chunk at 64 bytes k 0 (omega (arith, long))))) in
    ap line_start_places (take-add at 64 bytes)
    ∙ ap (λ l. 0 ∷ l) (places_after_newlines-append 0 (take at bytes) block)
    ∙ ap (λ p. 0 ∷ (places_after_newlines 0 (take at bytes) ++ places_after_newlines p block)) (zero-add _ ∙ before)
    ∙ ap (λ l. line_start_places (take at bytes) ++ l) (sym found ∙ ap (λ n. marked_places n (at + 1) mask) long)

rising-cons : (x y : ℕ) (ys : List ℕ) → x < y → IsStrictlyIncreasing (y ∷ ys) → IsStrictlyIncreasing (x ∷ y ∷ ys)
rising-cons x y ys lt rising zero short = lt
rising-cons x y ys lt rising (suc k) short =
    let e : suc (k + 1) ≡ suc k + 1 = omega arith in
    subst (λ j. get_or (y ∷ ys) k 0 < get_or (x ∷ y ∷ ys) j 0) e (rising k (omega arith))

rising_after : (x place : ℕ) (bytes : List ℕ) → x ≤ place → IsStrictlyIncreasing (x ∷ places_after_newlines place bytes)
rising_after x place [] le = λ k short. let no : ⊥ = omega arith in absurd no
rising_after x place (byte ∷ bytes) le =
    cond_both (byte == 10) _ _ (λ l. IsStrictlyIncreasing (x ∷ l))
    (λ _. rising-cons x (place + 1) _ (omega arith) (rising_after (place + 1) (place + 1) bytes (omega arith)))
    (λ _. rising_after x (place + 1) bytes (omega arith))

-- the starts of all the bytes
pub all_taken : (bytes : List ℕ) (n : ℕ) → length bytes ≤ n → line_start_places (take n bytes) ≡ line_start_places bytes
all_taken bytes n le = ap line_start_places (take_all n bytes le)

-- the starts rise
pub line_start_places-rising : (bytes : List ℕ) → IsStrictlyIncreasing (line_start_places bytes)
line_start_places-rising bytes = rising_after 0 0 bytes (omega arith)

within-cons : (n x : ℕ) (xs : List ℕ) → x ≤ n → All (λ y. y ≤ n) xs → All (λ y. y ≤ n) (x ∷ xs)
within-cons n x xs le all zero d lt = le
within-cons n x xs le all (suc k) d lt = all k d (omega arith)

within_after : (n place : ℕ) (bytes : List ℕ) → place + length bytes ≤ n → All (λ y. y ≤ n) (places_after_newlines place bytes)
within_after n place [] le = λ k d lt. let no : ⊥ = omega arith in absurd no
within_after n place (byte ∷ bytes) le =
    let rest = within_after n (place + 1) bytes (omega arith) in
    cond_both (byte == 10) _ _ (All (λ y. y ≤ n)) (λ _. within-cons n (place + 1) _ (omega arith) rest) (λ _. rest)

-- no start is past the end
pub line_start_places-within : (bytes : List ℕ) → All (λ y. y ≤ length bytes) (line_start_places bytes)
line_start_places-within bytes = within-cons (length bytes) 0 _ (omega arith) (within_after (length bytes) 0 bytes (omega arith))

length-places_after_newlines : (place : ℕ) (bytes : List ℕ) → length (places_after_newlines place bytes) ≤ length bytes
length-places_after_newlines place [] = omega arith
length-places_after_newlines place (byte ∷ bytes) =
    let rest = length-places_after_newlines (place + 1) bytes in
    cond_both (byte == 10) _ _ (λ l. length l ≤ length (byte ∷ bytes)) (λ _. omega arith) (λ _. omega arith)

-- there are at most one more starts than bytes
pub length-line_start_places : (bytes : List ℕ) → length (line_start_places bytes) ≤ length bytes + 1
length-line_start_places bytes = omega (arith, length-places_after_newlines 0 bytes)
