-- The heap that a module begins with.
use Rattle.std.proofs.Common.{◌≡◌, ℕ, zero, suc, ◌+◌, ◌*◌, ◌-◌, ◌<◌, ◌≤◌, List, [], ◌∷◌, ◌++◌, length, take, drop, map, replicate, get_or, true, false, ◌&&◌, cond, nat_lt, nat_le, refl, sym, ap, ◌∙◌, arith, length-append}
use Rattle.std.specs.Prelude.{◌/◌, ◌^◌}
use Rattle.std.proofs.lemmas.Bool.Decides.{nat_tests}
use Rattle.std.proofs.lemmas.List.{length-replicate}
use Rattle.std.proofs.Math.Seq.{take-append_seam, drop-append-add}
use Rattle.mo_values.specs.Shapes.{Bytes}
use Rattle.wasm_tree.specs.Exec.{bytes_of, number_of}
use Rattle.core_ir.specs.Code.{CodeProgram}
use Rattle.memory_routines.specs.Heaps.{pages_for, HoldsBytes}
use Rattle.heap_layout.specs.Words.{word_at}
use Rattle.heap_layout.specs.Words as words
use Rattle.heap_layout.specs.Blocks.{text_words}
use Rattle.heap_layout.specs.Ghosts.{Free, Fixed, Inner}
use Rattle.heap_layout.proofs.Begins.{heaps_begin}
use Rattle.low_emit.specs.Texts.{texts_of, text_block, blocks, memory_of, words_from}
use Rattle.low_emit.specs.Modules.{Routine, plan, base, heap_begin}
use Rattle.low_emit.specs.Emittable.{is_emittable, is_treated_body, are_treated, are_treated_groups}
use Rattle.low_emit.specs.Modules.{link, hidden}
use Rattle.emitted_modules.proofs.Lists.{second}
use Rattle.linked_modules.specs.Begun.{first_owner}
use Rattle.linked_modules.specs.Laws.{MemoriesBegin}

-- ---- lengths

padded : (n : ℕ) → n + (8 * ((n + 7) / 8) - n) ≡ 8 * ((n + 7) / 8)
padded n = omega arith

eight : (count n : ℕ) → length (bytes_of count n) ≡ count
eight zero n = refl
eight (suc count) n = ap suc (eight count (n / 256))

block_length : (t : Bytes) → length (text_block t) ≡ 8 * text_words t
block_length t =
    let pad : List ℕ = replicate (8 * words.words_for (length t) - length t) 0 in
    let a = length-append (bytes_of 8 (length t)) (t ++ pad) in
    let b = length-append t pad in
    let c : length pad ≡ 8 * words.words_for (length t) - length t = length-replicate {A = ℕ} (8 * words.words_for (length t) - length t) 0 in
    let d = eight 8 (length t) in
    let e = padded (length t) in
    omega (arith, a, b, c, d, e)

blocks_length : (ts : List Bytes) (i : ℕ) → 8 * i + length (blocks ts) ≡ 8 * words_from i ts
blocks_length [] i = omega arith
blocks_length (t ∷ ts) i =
    let a = length-append (text_block t) (blocks ts) in
    let b = block_length t in
    let c = blocks_length ts (i + text_words t) in
    omega (arith, a, b, c)

memory_length : (ts : List Bytes) → length (memory_of ts) ≡ 8 * words_from 1 ts
memory_length ts = let a = blocks_length ts 1 in omega (arith, a)

-- ---- bytes and words behind the texts

abbrev zeros : ℕ → List ℕ
zeros n = replicate n 0

zero_at : (k i : ℕ) → get_or (zeros k) i 0 ≡ 0
zero_at zero zero = refl
zero_at zero (suc i) = refl
zero_at (suc k) zero = refl
zero_at (suc k) (suc i) = zero_at k i

still_bytes : (xs : List ℕ) (n : ℕ) → HoldsBytes xs → HoldsBytes (xs ++ zeros n)
still_bytes [] n h k = let e = zero_at n k in omega (arith, e)
still_bytes (x ∷ xs) n h zero = h 0
still_bytes (x ∷ xs) n h (suc k) = still_bytes xs n (λ k. h (suc k)) k

drop_zeros : (n i : ℕ) → drop i (zeros n) ≡ zeros (n - i)
drop_zeros zero zero = refl
drop_zeros zero (suc i) = let e : 0 ≡ zero - suc i = omega arith in ap zeros e
drop_zeros (suc n) zero = let e : suc n ≡ suc n - zero = omega arith in ap zeros e
drop_zeros (suc n) (suc i) = let e : n - i ≡ suc n - suc i = omega arith in drop_zeros n i ∙ ap zeros e

take_zeros : (k n : ℕ) → number_of (take k (zeros n)) ≡ 0
take_zeros zero zero = refl
take_zeros zero (suc n) = refl
take_zeros (suc k) zero = refl
take_zeros (suc k) (suc n) = ap (λ x. 0 + 256 * x) (take_zeros k n)

zero_word : (xs : List ℕ) (n i : ℕ) → length xs ≤ 8 * i → word_at (xs ++ zeros n) i ≡ 0
zero_word xs n i le =
    let at : 8 * i ≡ length xs + (8 * i - length xs) = omega (arith, le) in
    ap (λ j. number_of (take 8 (drop j (xs ++ zeros n)))) at
    ∙ ap (λ l. number_of (take 8 l)) (drop-append-add xs (zeros n) (8 * i - length xs) ∙ drop_zeros n (8 * i - length xs))
    ∙ take_zeros 8 (n - (8 * i - length xs))

-- ---- the heap

module _ (p : CodeProgram) (more : List Routine) (own : ℕ) (emits : is_emittable p more own ≡ true) where
  low_end : 8 * heap_begin p more own ≤ 2 ^ 31
  low_end = grind (arith, nat_tests, last)
    where
      last : nat_le (8 * heap_begin p more own) (2 ^ 31) ≡ true
      last =
          second (is_treated_body (plan p more own) (link p more own) (hidden p more own) p.start) (nat_le (8 * heap_begin p more own) (2 ^ 31))
          (second (are_treated (plan p more own) (link p more own) (hidden p more own) (map (λ m. m.body) p.methods)) (is_treated_body (plan p more own) (link p more own) (hidden p more own) p.start && nat_le (8 * heap_begin p more own) (2 ^ 31))
          (second (are_treated_groups (plan p more own) (link p more own) (hidden p more own) p.groups)
          (are_treated (plan p more own) (link p more own) (hidden p more own) (map (λ m. m.body) p.methods) && (is_treated_body (plan p more own) (link p more own) (hidden p more own) p.start && nat_le (8 * heap_begin p more own) (2 ^ 31))) emits))

  abbrev texts_now : List ℕ
  texts_now = memory_of (texts_of p)

  abbrev count : ℕ
  count = pages_for (8 * heap_begin p more own)

  long : length texts_now ≡ 8 * base p more own
  long = memory_length (texts_of p)

  abbrev behind : ℕ
  behind = 65536 * count - length texts_now

  first_length : length (texts_now ++ zeros behind) ≡ 65536 * count
  first_length =
      let a = length-append texts_now (zeros behind) in
      let b : length (zeros behind) ≡ behind = length-replicate {A = ℕ} behind 0 in
      let c = long in
      omega (arith, a, b, c)

  some : (ts : List Bytes) (i : ℕ) → i ≤ words_from i ts
  some [] i = omega arith
  some (t ∷ ts) i = let k = some ts (i + text_words t) in omega (arith, k)

  is_fixed : (i : ℕ) → i < base p more own → first_owner p more own i ≡ Fixed
  is_fixed i lt = let e : nat_lt i (base p more own) ≡ true = grind (arith, nat_tests, lt) in ap (λ b. cond b Fixed (cond (nat_lt i (heap_begin p more own)) Inner Free)) e

  is_free : (i : ℕ) → heap_begin p more own ≤ i → first_owner p more own i ≡ Free
  is_free i le =
      let e : nat_lt i (base p more own) ≡ false = grind (arith, nat_tests, le) in
      let f : nat_lt i (heap_begin p more own) ≡ false = grind (arith, nat_tests, le) in
      (λ j. cond (e j) Fixed (cond (f j) Inner Free))

pub memories_begin : MemoriesBegin
memories_begin p more own emits bytes entries exports =
    let low = low_end p more own emits in
    let long_is = long p more own emits in
    let whole = first_length p more own emits in
    let some_words = some p more own emits (texts_of p) 1 in
    record {
      holds =
          heaps_begin (plan p more own) (first_owner p more own) (texts_now p more own emits ++ zeros (behind p more own emits)) (count p more own emits) (heap_begin p more own) (omega (arith, some_words))
          (record { whole = whole; few = omega (arith, low); inside = omega (arith, whole) })
          (still_bytes (texts_now p more own emits) (behind p more own emits) bytes) (omega arith)
          (ap (λ n. take n (texts_now p more own emits ++ zeros (behind p more own emits))) (sym long_is) ∙ take-append_seam (texts_now p more own emits) (zeros (behind p more own emits)))
          (is_fixed p more own emits) (is_free p more own emits);
      globals = refl;
      table = refl;
      names = λ i le lt. zero_word (texts_now p more own emits) (behind p more own emits) i (omega (arith, long_is, le));
    }
