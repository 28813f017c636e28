-- Stores of the lowest bit's place, again and again: as many as there are bits give the places of the bits.
use Rattle.std.proofs.Common.{◌≡◌, ℕ, zero, suc, ◌+◌, ◌-◌, ◌/◌, ◌%◌, ◌^◌, ◌<◌, ◌≤◌, inl, inr, cond, ◌==◌, List, [], ◌∷◌, ◌++◌, length, take, refl, sym, ap, ◌∙◌, arith, mod-lt, zero-lt-suc, pow-suc, add-one, slice_set, bit_and}
use Rattle.std.specs.Int.Count.{count_trailing_zeros}
use lib.Count.{ones, ones_step}
use Rattle.std.proofs.lemmas.Bool.{cases_lt}
use Rattle.std.proofs.lemmas.Nat.{and_le_l}
use Rattle.std.proofs.lemmas.List.{take-take, take_more_set, append_assoc}
use Rattle.std.proofs.Math.Seq.{take-append-add}
use Rattle.byte_lanes.specs.Mask.{marked_places}
use Rattle.byte_lanes.proofs.LineLemmas.{marked_places-zero, marked_places-lowest, two_cases}

-- a mask without its lowest bit, and 0 where it has none
abbrev pub cleared : ℕ → ℕ
cleared x = bit_and x ((x + (2 ^ 64 - 1)) % 2 ^ 64)

-- without its n lowest bits
abbrev pub cleared_times : ℕ → ℕ → ℕ
cleared_times zero x = x
cleared_times (suc n) x = cleared_times n (cleared x)

-- what n stores write
abbrev pub stores : ℕ → ℕ → ℕ → List ℕ
stores zero base x = []
stores (suc n) base x = (base + count_trailing_zeros 64 x) ∷ stores n base (cleared x)

pub cleared_times-more : (n x : ℕ) → cleared_times (suc n) x ≡ cleared (cleared_times n x)
cleared_times-more zero x = refl
cleared_times-more (suc n) x = cleared_times-more n (cleared x)

pub stores-more : (n base x : ℕ) → stores (suc n) base x ≡ stores n base x ++ (base + count_trailing_zeros 64 (cleared_times n x)) ∷ []
stores-more zero base x = refl
stores-more (suc n) base x = ap (λ l. (base + count_trailing_zeros 64 x) ∷ l) (stores-more n base (cleared x))

pub length-marked_places : (bits place x : ℕ) → x < 2 ^ bits → length (marked_places bits place x) ≡ ones x
unfolding marked_places ones
length-marked_places zero place x small = let e : 0 ≡ x = omega arith in ap ones e
length-marked_places (suc bits) place x small =
    let rest = marked_places bits (place + 1) (x / 2) in
    two_cases (λ r. length (cond (r == 1) (place ∷ rest) rest) ≡ r + length rest) (omega arith) (omega arith) (x % 2) (mod-lt x (zero-lt-suc 1))
    ∙ ap (λ n. x % 2 + n) (length-marked_places bits (place + 1) (x / 2) (omega (arith, pow-suc 2 bits))) ∙ sym (ones_step x)

abbrev Begins : ℕ → ℕ → ℕ → Type 0
Begins n base x = take (length (marked_places 64 base x)) (stores n base x) ≡ marked_places 64 base x

none_begin : (n base x : ℕ) → x ≤ 0 → Begins n base x
none_begin n base x none =
    let zero_mask : x ≡ 0 = omega arith in
    let e : marked_places 64 base x ≡ [] = ap (marked_places 64 base) zero_mask ∙ marked_places-zero 64 base in
    ap (λ l. take (length l) (stores n base x)) e ∙ sym e

-- enough stores begin with the places of the bits
pub stores_begin : (n base x : ℕ) → x < 2 ^ 64 → length (marked_places 64 base x) ≤ n → Begins n base x
stores_begin zero base x small few =
    elim (cases_lt 0 x) [
      | inl some ↦ (let no : ⊥ = omega (arith, ap length (marked_places-lowest 64 base x some small)) in absurd no)
      | inr none ↦ none_begin zero base x none
    ]
stores_begin (suc n) base x small few =
    let next = bit_and x (x - 1) in
    let rest = stores_begin n base next (omega (arith, and_le_l x (x - 1))) in
    elim (cases_lt 0 x) [
      | inl some ↦
          let e = marked_places-lowest 64 base x some small in
          let less : (x + (2 ^ 64 - 1)) % 2 ^ 64 ≡ x - 1 = omega arith in
          ap (λ l. take (length l) (stores (suc n) base x)) e
          ∙ ap (λ l. (base + count_trailing_zeros 64 x) ∷ l) (ap (λ y. take (length (marked_places 64 base next)) (stores n base (bit_and x y))) less ∙ rest (omega (arith, ap length e)))
          ∙ sym e
      | inr none ↦ none_begin (suc n) base x none
    ]

-- of a list whose front ends with enough stores, the places of the bits are read
pub bits_of_stores : (front out : List ℕ) (count bits n base x : ℕ) → length front ≡ count → x < 2 ^ 64 → bits ≡ ones x → bits ≤ n
    → take (count + n) out ≡ front ++ stores n base x → take (count + bits) out ≡ front ++ marked_places 64 base x
bits_of_stores front out count bits n base x long small counted few stored =
    let e : bits ≡ length (marked_places 64 base x) = counted ∙ sym (length-marked_places 64 base x small) in
    sym (take-take (count + bits) (count + n) out (omega arith))
    ∙ ap (take (count + bits)) stored
    ∙ ap (λ m. take (m + bits) (front ++ stores n base x)) (sym long)
    ∙ take-append-add front (stores n base x) bits
    ∙ ap (λ l. front ++ l) (ap (λ m. take m (stores n base x)) e ∙ stores_begin n base x small (omega (arith, e)))

-- one more store
pub one_store : (front out : List ℕ) (count lane base x left : ℕ) → left ≡ cleared_times lane x → count + lane < length out
    → take (count + lane) out ≡ front ++ stores lane base x
    → take (count + (lane + 1)) (slice_set out (count + lane) (base + count_trailing_zeros 64 left)) ≡ front ++ stores (lane + 1) base x
one_store front out count lane base x left is room stored =
    let place = base + count_trailing_zeros 64 left in
    let at : count + (lane + 1) ≡ count + lane + 1 = omega arith in
    ap (λ n. take n (slice_set out (count + lane) place)) at
    ∙ take_more_set out (count + lane) place room
    ∙ ap (λ l. l ++ place ∷ []) stored
    ∙ append_assoc front (stores lane base x) (place ∷ [])
    ∙ ap (λ l. front ++ l) (ap (λ y. stores lane base x ++ (base + count_trailing_zeros 64 y) ∷ []) is ∙ sym (stores-more lane base x) ∙ ap (λ n. stores n base x) (sym (add-one lane)))

-- and the bits that are left
pub one_cleared : (lane x left : ℕ) → left ≡ cleared_times lane x → cleared left ≡ cleared_times (lane + 1) x
one_cleared lane x left is = ap cleared is ∙ sym (cleared_times-more lane x) ∙ ap (λ n. cleared_times n x) (sym (add-one lane))
