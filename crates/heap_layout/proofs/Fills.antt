-- Blocks that are made at the end of the heap.
use Rattle.std.proofs.Common.{◌≡◌, ℕ, zero, suc, ◌+◌, ◌-◌, ◌*◌, ◌/◌, ◌<◌, ◌≤◌, ◌^◌, max, List, [], ◌∷◌, ◌++◌, length, take, drop, replicate, get_or, refl, ap, ◌∙◌, arith}
use Rattle.std.proofs.lemmas.List.{take-append-le}
use Rattle.wasm_tree.specs.Exec.{bytes_of}
use Rattle.module_laws.specs.Stored.{written}
use Rattle.module_laws.proofs.StoredBytes.{stored}
use Rattle.memory_routines.specs.Heaps.{IsHeap, HoldsBytes, heap_end, pages_for, enlarged}
use Rattle.memory_routines.specs.Laws.{IsHeapStill}
use Rattle.memory_routines.proofs.Stays.{heaps_stay}
use Rattle.heap_layout.specs.Words.{word_at}
use Rattle.heap_layout.specs.Fills.{filled, with_words}
use Rattle.heap_layout.proofs.Written.{word_here, word_other, word_larger}

-- ---- bytes

joined : (l r : List ℕ) → HoldsBytes l → HoldsBytes r → HoldsBytes (l ++ r)
joined [] r p q k = q k
joined (x ∷ l) r p q zero = p zero
joined (x ∷ l) r p q (suc k) = joined l r (λ k. p (suc k)) q k

no_bytes : HoldsBytes []
no_bytes k = omega arith

taken : (n : ℕ) (l : List ℕ) → HoldsBytes l → HoldsBytes (take n l)
taken zero l h k = no_bytes k
taken (suc n) [] h k = no_bytes k
taken (suc n) (x ∷ l) h zero = h zero
taken (suc n) (x ∷ l) h (suc k) = taken n l (λ k. h (suc k)) k

dropped : (n : ℕ) (l : List ℕ) → HoldsBytes l → HoldsBytes (drop n l)
dropped zero l h k = h k
dropped (suc n) [] h k = no_bytes k
dropped (suc n) (x ∷ l) h k = dropped n l (λ k. h (suc k)) k

bytes_are : (count n : ℕ) → HoldsBytes (bytes_of count n)
bytes_are zero n k = no_bytes k
bytes_are (suc count) n zero = omega arith
bytes_are (suc count) n (suc k) = bytes_are count (n / 256) k

pub written_bytes : (memory : List ℕ) (a size v : ℕ) → HoldsBytes memory → HoldsBytes (written memory a size v)
written_bytes memory a size v h = joined (take a memory ++ bytes_of size v) (drop (a + size) memory) (joined (take a memory) (bytes_of size v) (taken a memory h) (bytes_are size v)) (dropped (a + size) memory h)

-- ---- words one behind the other

abbrev pub Small : List ℕ → Type 0
Small ws = (k : ℕ) → get_or ws k 0 < 2 ^ 64

pub filled_length : (memory : List ℕ) (i : ℕ) (ws : List ℕ) → 8 * i + 8 * length ws ≤ length memory → length (filled memory i ws) ≡ length memory
filled_length memory i [] h = refl
filled_length memory i (w ∷ ws) h =
    let one : length (written memory (8 * i) 8 w) ≡ length memory = (stored memory (8 * i) 8 w (omega (arith, h))).same_length in
    filled_length (written memory (8 * i) 8 w) (suc i) ws (omega (arith, h, one)) ∙ one

pub filled_below : (memory : List ℕ) (i : ℕ) (ws : List ℕ) (j : ℕ) → 8 * i + 8 * length ws ≤ length memory → j < i → word_at (filled memory i ws) j ≡ word_at memory j
filled_below memory i [] j h lt = refl
filled_below memory i (w ∷ ws) j h lt =
    let one : length (written memory (8 * i) 8 w) ≡ length memory = (stored memory (8 * i) 8 w (omega (arith, h))).same_length in
    filled_below (written memory (8 * i) 8 w) (suc i) ws j (omega (arith, h, one)) (omega (arith, lt)) ∙ word_other memory i j w (omega (arith, h)) (λ e. omega (arith, e, lt))

pub filled_here : (memory : List ℕ) (i : ℕ) (ws : List ℕ) (k : ℕ) → Small ws → 8 * i + 8 * length ws ≤ length memory → k < length ws → word_at (filled memory i ws) (i + k) ≡ get_or ws k 0
filled_here memory i [] k small h lt = absurd (omega arith)
filled_here memory i (w ∷ ws) zero small h lt =
    let one : length (written memory (8 * i) 8 w) ≡ length memory = (stored memory (8 * i) 8 w (omega (arith, h))).same_length in
    let first : w < 2 ^ 64 = small 0 in
    let at : i + 0 ≡ i = omega arith in
    ap (λ j. word_at (filled (written memory (8 * i) 8 w) (suc i) ws) j) at ∙ filled_below (written memory (8 * i) 8 w) (suc i) ws i (omega (arith, h, one)) (omega arith) ∙ word_here memory i w (omega (arith, h)) first
filled_here memory i (w ∷ ws) (suc k) small h lt =
    let one : length (written memory (8 * i) 8 w) ≡ length memory = (stored memory (8 * i) 8 w (omega (arith, h))).same_length in
    let at : i + suc k ≡ suc i + k = omega arith in
    ap (λ j. word_at (filled (written memory (8 * i) 8 w) (suc i) ws) j) at ∙ filled_here (written memory (8 * i) 8 w) (suc i) ws k (λ j. small (suc j)) (omega (arith, h, one)) (omega (arith, lt))

-- What stands before it is as it was.
written_before : (memory : List ℕ) (n a size v : ℕ) → n ≤ a → a + size ≤ length memory → take n (written memory a size v) ≡ take n memory
written_before memory n a size v le h = (stored memory a size v h).below 0 n (omega (arith, le))

pub filled_before : (memory : List ℕ) (n i : ℕ) (ws : List ℕ) → n ≤ 8 * i → 8 * i + 8 * length ws ≤ length memory → take n (filled memory i ws) ≡ take n memory
filled_before memory n i [] le h = refl
filled_before memory n i (w ∷ ws) le h =
    let one : length (written memory (8 * i) 8 w) ≡ length memory = (stored memory (8 * i) 8 w (omega (arith, h))).same_length in
    filled_before (written memory (8 * i) 8 w) n (suc i) ws (omega (arith, le)) (omega (arith, h, one)) ∙ written_before memory n (8 * i) 8 w le (omega (arith, h))

pub filled_bytes : (memory : List ℕ) (i : ℕ) (ws : List ℕ) → HoldsBytes memory → HoldsBytes (filled memory i ws)
filled_bytes memory i [] h = h
filled_bytes memory i (w ∷ ws) h = filled_bytes (written memory (8 * i) 8 w) (suc i) ws (written_bytes memory (8 * i) 8 w h)

-- ---- a block at the end of the heap

module _ (memory : List ℕ) (count top : ℕ) (ws : List ℕ) (is : IsHeap memory count (8 * top)) (short : 8 * top + 8 * length ws ≤ heap_end) where
  abbrev grown : List ℕ
  grown = enlarged memory count (8 * top + 8 * length ws)

  still : IsHeapStill memory grown count (8 * top) (8 * length ws)
  still = (heaps_stay memory count (8 * top) (8 * length ws) is short).0

  abbrev pub new_count : ℕ
  new_count = max count (pages_for (8 * top + 8 * length ws))

  room : 8 * top + 8 * length ws ≤ length grown
  room = still.is.inside

  pub after_length : length (with_words memory count top ws) ≡ length grown
  after_length = filled_length grown top ws room

  pub heap_after : IsHeap (with_words memory count top ws) new_count (8 * (top + length ws))
  heap_after = record { whole = after_length ∙ still.is.whole; few = still.is.few; inside = omega (arith, after_length, room) }

  pub word_before : (i : ℕ) → i < top → word_at (with_words memory count top ws) i ≡ word_at memory i
  word_before i lt = filled_below grown top ws i room lt ∙ word_larger memory (replicate (65536 * (pages_for (8 * top + 8 * length ws) - count)) 0) i (let h = is.inside in omega (arith, h, lt))

  pub word_new : Small ws → (k : ℕ) → k < length ws → word_at (with_words memory count top ws) (top + k) ≡ get_or ws k 0
  word_new small k lt = filled_here grown top ws k small room lt

  pub bytes_after : HoldsBytes memory → HoldsBytes (with_words memory count top ws)
  bytes_after h = filled_bytes grown top ws (still.bytes h)

  pub before_top : (n : ℕ) → n ≤ 8 * top → take n (with_words memory count top ws) ≡ take n memory
  before_top n le =
      filled_before grown n top ws le room ∙ take-append-le n memory (replicate (65536 * (pages_for (8 * top + 8 * length ws) - count)) 0) (let h = is.inside in omega (arith, h, le))
