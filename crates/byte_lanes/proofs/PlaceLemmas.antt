-- What a mask of 64 lanes says of the bytes from a place on.
use Rattle.std.proofs.Common.{◌≡◌, ℕ, ◌+◌, ◌-◌, ◌<◌, ◌≤◌, zero, suc, Bool, true, false, cond, eqb, ltb, leb, not, ◌∷◌, [], List, length, get_or, inl, inr, refl, sym, ap, subst, add-one, ◌∙◌, arith}
use Rattle.std.specs.Int.{bit_at}
use Rattle.std.proofs.lemmas.Bool.{cases_lt, leb-true, leb-false, lt-leb, eqb-true, eqb-false, eq-eqb, lt-ltb, le-ltb, cond-true, cond-false, not-true, not-false}
use Rattle.std.proofs.lemmas.Nat.Bits.{bit_at-zero}
use Rattle.byte_lanes.specs.Ascii.{ascii_prefix_len}
use Rattle.byte_lanes.specs.Difference.{IsFirstDifference}
use Rattle.byte_lanes.specs.Mask.{Marks}

clear_bit : (b : Bool) → cond {A = ℕ} b 1 0 ≡ 0 → b ≡ false
clear_bit true e = let no : ⊥ = omega arith in absurd no
clear_bit false e = refl

set_bit : (b : Bool) → cond {A = ℕ} b 1 0 ≡ 1 → b ≡ true
set_bit true e = refl
set_bit false e = let no : ⊥ = omega arith in absurd no

module _ (test : ℕ → Bool) (at mask : ℕ) (marks : Marks (λ k. test (at + k)) mask) (before : (k : ℕ) → k < at → test k ≡ false) where
  -- no bit below n is set, so the test fails before at + n
  pub clear_below : (n : ℕ) → n ≤ 64 → ((k : ℕ) → k < n → bit_at mask k ≡ 0) → (k : ℕ) → k < at + n → test k ≡ false
  clear_below n few clear k lt =
      elim (cases_lt k at) [
        | inl early ↦ before k early
        | inr late ↦
            let back : at + (k - at) ≡ k = omega arith in
            let lane : k - at < n = omega arith in
            subst (λ j. test j ≡ false) back (clear_bit (test (at + (k - at))) (sym (marks (k - at) (omega arith)) ∙ clear (k - at) lane))
      ]

  -- no bit is set, so the test fails in all 64 lanes
  pub clear : mask ≡ 0 → (k : ℕ) → k < at + 64 → test k ≡ false
  clear none = clear_below 64 (omega arith) (λ k _. ap (λ m. bit_at m k) none ∙ bit_at-zero k)

  -- a bit that is set, so the test holds there
  pub set : (k : ℕ) → k < 64 → bit_at mask k ≡ 1 → test (at + k) ≡ true
  set k lt one = set_bit (test (at + k)) (sym (marks k lt) ∙ one)

-- where two lists are equal so far
abbrev pub SameBelow : List ℕ → List ℕ → ℕ → Type 0
SameBelow a b n = (k : ℕ) → k < n → get_or a k 0 ≡ get_or b k 0

abbrev differs : List ℕ → List ℕ → ℕ → Bool
differs a b k = not (eqb (get_or a k 0) (get_or b k 0))

same_is : (x y : ℕ) → x ≡ y → not (eqb x y) ≡ false
same_is x y e = ap not (eq-eqb x y e)

pub same_block : (a b : List ℕ) (at mask : ℕ) → Marks (λ k. differs a b (at + k)) mask → SameBelow a b at → mask ≡ 0 → SameBelow a b (at + 64)
same_block a b at mask marks before none k lt =
    eqb-true _ _ (not-false _ (clear (differs a b) at mask marks (λ j early. same_is _ _ (before j early)) none k lt))

pub first_in_block : (a b : List ℕ) (at mask lane : ℕ) → Marks (λ k. differs a b (at + k)) mask → SameBelow a b at → at + 64 ≤ length a → at + 64 ≤ length b
    → lane < 64 → bit_at mask lane ≡ 1 → ((k : ℕ) → k < lane → bit_at mask k ≡ 0) → IsFirstDifference a b (at + lane)
first_in_block a b at mask lane marks before room_a room_b lt one below =
    let old = λ (j : ℕ) (early : j < at). same_is (get_or a j 0) (get_or b j 0) (before j early) in
    record {
      in_first = omega arith;
      in_second = omega arith;
      before = λ k early. eqb-true _ _ (not-false _ (clear_below (differs a b) at mask marks old lane (omega arith) below k early));
      at = eqb-false _ _ (not-true _ (set (differs a b) at mask marks old lane lt one));
    }

-- the bytes are ASCII so far
abbrev pub AsciiBelow : List ℕ → ℕ → Type 0
AsciiBelow bytes n = (k : ℕ) → k < n → get_or bytes k 0 < 128

abbrev beyond : List ℕ → ℕ → Bool
beyond bytes k = leb 128 (get_or bytes k 0)

pub ascii_lanes : (bytes : List ℕ) (at mask lanes : ℕ) → Marks (λ k. beyond bytes (at + k)) mask → AsciiBelow bytes at → lanes ≤ 64
    → ((k : ℕ) → k < lanes → bit_at mask k ≡ 0) → AsciiBelow bytes (at + lanes)
ascii_lanes bytes at mask lanes marks before few below k lt =
    leb-false 128 _ (clear_below (beyond bytes) at mask marks (λ j early. lt-leb 128 _ (before j early)) lanes few below k lt)

pub ascii_block : (bytes : List ℕ) (at mask : ℕ) → Marks (λ k. beyond bytes (at + k)) mask → AsciiBelow bytes at → mask ≡ 0 → AsciiBelow bytes (at + 64)
ascii_block bytes at mask marks before none =
    ascii_lanes bytes at mask 64 marks before (omega arith) (λ k _. ap (λ m. bit_at m k) none ∙ bit_at-zero k)

-- the bytes before a place are ASCII, and so are those from it up to the next
pub ascii_then : (bytes : List ℕ) (at next : ℕ) → AsciiBelow bytes at → ((k : ℕ) → at ≤ k → k < next → get_or bytes k 0 < 128) → AsciiBelow bytes next
ascii_then bytes at next before after k lt = elim (cases_lt k at) [ inl early ↦ before k early | inr late ↦ after k late lt ]

pub beyond_at : (bytes : List ℕ) (at mask lane : ℕ) → Marks (λ k. beyond bytes (at + k)) mask → AsciiBelow bytes at → lane < 64 → bit_at mask lane ≡ 1 → 128 ≤ get_or bytes (at + lane) 0
beyond_at bytes at mask lane marks before lt one =
    leb-true 128 _ (set (beyond bytes) at mask marks (λ j early. lt-leb 128 _ (before j early)) lane lt one)

-- the number of bytes before the first one that is not ASCII is the length of the prefix
pub is_ascii_prefix_len : (bytes : List ℕ) (n : ℕ) → n ≤ length bytes → AsciiBelow bytes n → (n < length bytes → 128 ≤ get_or bytes n 0) → n ≡ ascii_prefix_len bytes
is_ascii_prefix_len [] n within ascii stops = omega arith
is_ascii_prefix_len (byte ∷ bytes) zero within ascii stops = sym (cond-false (ltb byte 128) _ _ (le-ltb byte 128 (stops (omega arith))))
is_ascii_prefix_len (byte ∷ bytes) (suc n) within ascii stops =
    let rest = is_ascii_prefix_len bytes n (omega arith) (λ k lt. ascii (suc k) (omega arith)) (λ lt. stops (omega arith)) in
    sym (cond-true (ltb byte 128) (ascii_prefix_len bytes + 1) 0 (lt-ltb byte 128 (ascii 0 (omega arith))) ∙ ap (λ k. k + 1) (sym rest) ∙ add-one n)
