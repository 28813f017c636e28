-- The bytes of words.
use Rattle.std.proofs.Common.{◌≡◌, ℕ, zero, suc, ◌+◌, ◌*◌, ◌/◌, ◌%◌, ◌^◌, ◌<◌, ◌≤◌, List, [], ◌∷◌, length, take, drop, get_or, refl, sym, ap, ◌∙◌, subst, arith, length-take, length-drop}
use Rattle.std.proofs.lemmas.List.{get_or-take, get_or-drop, ext_get_or}
use native.Mathlib.Nat.{div-div-eq-div-mul, pow-suc}
use Rattle.mo_values.specs.Shapes.{Bytes}
use Rattle.wasm_tree.specs.Exec.{number_of}
use Rattle.memory_routines.specs.Heaps.{HoldsBytes}
use Rattle.heap_layout.specs.Words.{word_at, byte_at}
use Rattle.heap_layout.specs.Table.{StandsAt}

byte_of : (l : List ℕ) (k : ℕ) → ((j : ℕ) → j < length l → get_or l j 0 < 256) → k < length l → number_of l / 256 ^ k % 256 ≡ get_or l k 0
byte_of [] k h lt = absurd (omega (arith, lt))
byte_of (b ∷ l) zero h lt = let small : b < 256 = h 0 (omega arith) in omega (arith, small)
byte_of (b ∷ l) (suc k) h lt =
    let small : b < 256 = h 0 (omega arith) in
    let one : 256 ^ suc k ≡ 256 * 256 ^ k = pow-suc 256 k ∙ omega arith in
    let first : (b + 256 * number_of l) / 256 ≡ number_of l = omega (arith, small) in
    ap (λ d. (b + 256 * number_of l) / d % 256) one ∙ ap (λ x. x % 256) (sym (div-div-eq-div-mul (b + 256 * number_of l) 256 (256 ^ k)) ∙ ap (λ x. x / 256 ^ k) first)
    ∙ byte_of l k (λ j less. h (suc j) (omega (arith, less))) (omega (arith, lt))

word_byte : (m : List ℕ) (i k : ℕ) → HoldsBytes m → k < 8 → 8 * i + 8 ≤ length m → word_at m i / 256 ^ k % 256 ≡ get_or m (8 * i + k) 0
word_byte m i k h lt le = byte_of eight k small (omega (arith, lt, long)) ∙ at k lt
  where
    eight : List ℕ
    eight = take 8 (drop (8 * i) m)

    long : length (take 8 (drop (8 * i) m)) ≡ 8
    long = let t = length-take 8 (drop (8 * i) m) in let d = length-drop (8 * i) m in omega (arith, t, d, le)

    at : (j : ℕ) → j < 8 → get_or (take 8 (drop (8 * i) m)) j 0 ≡ get_or m (8 * i + j) 0
    at j less = get_or-take 8 (drop (8 * i) m) j 0 less ∙ get_or-drop (8 * i) m j 0

    small : (j : ℕ) → j < length (take 8 (drop (8 * i) m)) → get_or (take 8 (drop (8 * i) m)) j 0 < 256
    small j less = subst (λ x. x < 256) (sym (at j (omega (arith, less, long)))) (h (8 * i + j))

pub byte_is : (m : List ℕ) (i j : ℕ) → HoldsBytes m → 8 * (i + j / 8) + 8 ≤ length m → byte_at m i j ≡ get_or m (8 * i + j) 0
byte_is m i j h le = word_byte m (i + j / 8) (j % 8) h (omega arith) le ∙ ap (λ a. get_or m a 0) (omega arith)

-- What a text that stands in a memory has at a place, the memory has there.
stood_byte : (m : List ℕ) (a : ℕ) (t : Bytes) (j : ℕ) → j < length t → take (length t) (drop a m) ≡ t → get_or m (a + j) 0 ≡ get_or t j 0
stood_byte m a t j lt e = sym (get_or-take (length t) (drop a m) j 0 lt ∙ get_or-drop a m j 0) ∙ ap (λ l. get_or l j 0) e

-- The bytes of a text from a word on are those that stand there.
pub bytes_of_words : (m : List ℕ) (i : ℕ) (t : Bytes) → HoldsBytes m → 8 * i + 8 * ((length t + 7) / 8) ≤ length m → StandsAt m (8 * i) t → (j : ℕ) → j < length t → byte_at m i j ≡ get_or t j 0
bytes_of_words m i t h le at j lt = byte_is m i j h (omega (arith, le, lt)) ∙ stood_byte m (8 * i) t j lt at.bytes

pub words_of_bytes : (m : List ℕ) (i : ℕ) (t : Bytes) → HoldsBytes m → 8 * i + 8 * ((length t + 7) / 8) ≤ length m → ((j : ℕ) → j < length t → byte_at m i j ≡ get_or t j 0) → StandsAt m (8 * i) t
words_of_bytes m i t h le at = record { inside = inside; bytes = ext_get_or 0 (take (length t) (drop (8 * i) m)) t long each }
  where
    inside : 8 * i + length t ≤ length m
    inside = omega (arith, le)

    long : length (take (length t) (drop (8 * i) m)) ≡ length t
    long = let a = length-take (length t) (drop (8 * i) m) in let d = length-drop (8 * i) m in omega (arith, a, d, inside)

    each : (j : ℕ) → j < length (take (length t) (drop (8 * i) m)) → get_or (take (length t) (drop (8 * i) m)) j 0 ≡ get_or t j 0
    each j less =
        let lt : j < length t = omega (arith, less, long) in
        get_or-take (length t) (drop (8 * i) m) j 0 lt ∙ get_or-drop (8 * i) m j 0 ∙ sym (byte_is m i j h (omega (arith, le, lt))) ∙ at j lt
