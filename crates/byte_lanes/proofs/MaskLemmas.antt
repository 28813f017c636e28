-- The mask of a comparison of 64 lanes, bit by bit.
use Rattle.std.proofs.Common.{◌≡◌, ℕ, ◌+◌, ◌%◌, ◌^◌, ◌<◌, ◌≤◌, Bool, false, cond, List, map, replicate, length, get_or, sym, ap, ap₂, ◌∙◌, arith, w8}
use Rattle.std.specs.Int.{bit_at}
use Rattle.std.specs.Simd.Lanes.{zip2, mask_l, top}
use Rattle.std.proofs.lemmas.Simd.{length-zip2, get_or-zip2, length-replicate, get_or-replicate, bit_mask_l, tops_compared, mask_l-mod, length-chunk, get_or-chunk}
use lib.Lanes.{chunk}

-- the mask that `to_bitmask` makes of the comparison t
abbrev pub compared : (ℕ → ℕ → Bool) → List ℕ → List ℕ → ℕ
compared t xs ys = mask_l (map (top 7) (zip2 (λ a b. cond (t a b) 255 0) xs ys)) % 2 ^ 64

pub bit_at-compared : (t : ℕ → ℕ → Bool) (xs ys : List ℕ) → length xs ≡ 64 → length ys ≡ 64 → (k : ℕ) → k < 64
    → bit_at (compared t xs ys) k ≡ cond (t (get_or xs k 0) (get_or ys k 0)) 1 0
bit_at-compared t xs ys p q k lt =
    let ms = zip2 t xs ys in
    let long : length ms ≡ 64 = length-zip2 t xs ys (p ∙ sym q) ∙ p in
    ap (λ l. bit_at (mask_l l % 2 ^ 64) k) (tops_compared w8 t xs ys)
    ∙ ap (λ m. bit_at m k) (mask_l-mod ms 64 (omega (arith, long)))
    ∙ bit_mask_l ms k
    ∙ ap (λ b. cond b 1 0) (get_or-zip2 t xs ys k 0 0 false (omega arith) (omega arith))

-- of two loads
pub of_two : (t : ℕ → ℕ → Bool) (a b : List ℕ) (at : ℕ) → at + 64 ≤ length a → at + 64 ≤ length b → (k : ℕ) → k < 64
    → bit_at (compared t (chunk at 64 a) (chunk at 64 b)) k ≡ cond (t (get_or a (at + k) 0) (get_or b (at + k) 0)) 1 0
of_two t a b at room_a room_b k lt =
    bit_at-compared t (chunk at 64 a) (chunk at 64 b) (length-chunk at 64 a room_a) (length-chunk at 64 b room_b) k lt
    ∙ ap₂ (λ x y. cond (t x y) 1 0) (get_or-chunk at 64 a k 0 lt) (get_or-chunk at 64 b k 0 lt)

-- of a load and a byte in each lane
pub of_byte : (t : ℕ → ℕ → Bool) (a : List ℕ) (at byte : ℕ) → at + 64 ≤ length a → (k : ℕ) → k < 64
    → bit_at (compared t (chunk at 64 a) (replicate 64 byte)) k ≡ cond (t (get_or a (at + k) 0) byte) 1 0
of_byte t a at byte room k lt =
    bit_at-compared t (chunk at 64 a) (replicate 64 byte) (length-chunk at 64 a room) (length-replicate 64 byte) k lt
    ∙ ap₂ (λ x y. cond (t x y) 1 0) (get_or-chunk at 64 a k 0 lt) (get_or-replicate 64 k byte 0 lt)

-- the same, the byte first
pub of_byte_first : (t : ℕ → ℕ → Bool) (a : List ℕ) (at byte : ℕ) → at + 64 ≤ length a → (k : ℕ) → k < 64
    → bit_at (compared t (replicate 64 byte) (chunk at 64 a)) k ≡ cond (t byte (get_or a (at + k) 0)) 1 0
of_byte_first t a at byte room k lt =
    bit_at-compared t (replicate 64 byte) (chunk at 64 a) (length-replicate 64 byte) (length-chunk at 64 a room) k lt
    ∙ ap₂ (λ x y. cond (t x y) 1 0) (get_or-replicate 64 k byte 0 lt) (get_or-chunk at 64 a k 0 lt)
