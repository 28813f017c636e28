-- Words that are stored behind the bytes that are read.
use Rattle.std.proofs.Common.{◌≡◌, ℕ, zero, suc, ◌+◌, ◌-◌, ◌/◌, ◌^◌, ◌<◌, ◌≤◌, List, [], ◌∷◌, ◌++◌, length, take, drop, get_or, refl, sym, ap, ◌∙◌, arith}
use Rattle.std.proofs.lemmas.List.{take-take}
use Rattle.module_laws.specs.Stored.{written}
use Rattle.module_laws.proofs.StoredBytes.{stored, number_back}
use Rattle.wasm_tree.specs.Exec.{number_of, bytes_of}
use Rattle.memory_routines.specs.Heaps.{HoldsBytes}
use Rattle.wire_numbers.specs.Readers.{bytes_between}
use Rattle.wire_numbers.proofs.Bytes.{Stand}
use Rattle.wire_numbers.proofs.Numbers.{Bytes}
use Rattle.wire_numbers.proofs.Words.{stand_taken}
use Rattle.wire_tables.specs.Tables.{IsBeside}

-- ---- bytes

both_hold : (l r : List ℕ) → HoldsBytes l → HoldsBytes r → HoldsBytes (l ++ r)
both_hold [] r p q k = q k
both_hold (x ∷ l) r p q zero = p zero
both_hold (x ∷ l) r p q (suc k) = both_hold l r (λ k. p (suc k)) q k

none_hold : HoldsBytes []
none_hold k = omega arith

taken : (n : ℕ) (l : List ℕ) → HoldsBytes l → HoldsBytes (take n l)
taken zero l h k = none_hold k
taken (suc n) [] h k = none_hold k
taken (suc n) (x ∷ l) h zero = h zero
taken (suc n) (x ∷ l) h (suc k) = taken n l (λ k. h (suc k)) k

dropped : (n : ℕ) (l : List ℕ) → HoldsBytes l → HoldsBytes (drop n l)
dropped zero l h k = h k
dropped (suc n) [] h k = none_hold k
dropped (suc n) (x ∷ l) h k = dropped n l (λ k. h (suc k)) k

stored_hold : (size v : ℕ) → HoldsBytes (bytes_of size v)
stored_hold zero v k = none_hold k
stored_hold (suc size) v zero = omega arith
stored_hold (suc size) v (suc k) = stored_hold size (v / 256) k

pub written_hold : (memory : List ℕ) (a size v : ℕ) → HoldsBytes memory → HoldsBytes (written memory a size v)
written_hold memory a size v h = both_hold (take a memory ++ bytes_of size v) (drop (a + size) memory) (both_hold (take a memory) (bytes_of size v) (taken a memory h) (stored_hold size v)) (dropped (a + size) memory h)

pub bytes_dropped : (n : ℕ) (bs : List ℕ) → Bytes bs → Bytes (drop n bs)
bytes_dropped zero bs all = all
bytes_dropped (suc n) [] all = tt
bytes_dropped (suc n) (b ∷ bs) all = bytes_dropped n bs all.1

-- ---- what lies below a place

pub get_below : (old new : List ℕ) (b k : ℕ) → take b new ≡ take b old → k < b → get_or new k 0 ≡ get_or old k 0
get_below old new b k e lt = sym (seen new b k lt) ∙ ap (λ l. get_or l k 0) e ∙ seen old b k lt
  where
    seen : (l : List ℕ) (b k : ℕ) → k < b → get_or (take b l) k 0 ≡ get_or l k 0
    seen l zero k lt = absurd (omega (arith, lt))
    seen [] (suc b) k lt = refl
    seen (x ∷ l) (suc b) zero lt = refl
    seen (x ∷ l) (suc b) (suc k) lt = seen l b k (omega (arith, lt))

pub stand_below : (old new : List ℕ) (b a : ℕ) (bs : List ℕ) → take b new ≡ take b old → a + length bs ≤ b → Stand old a bs → Stand new a bs
stand_below old new b a [] e le is = tt
stand_below old new b a (x ∷ bs) e le is = (get_below old new b a e (omega (arith, le)) ∙ is.0, stand_below old new b (suc a) bs e (omega (arith, le)) is.1)

pub between_is : (memory : List ℕ) (a end : ℕ) (bs : List ℕ) → a + length bs ≡ end → end ≤ length memory → Stand memory a bs → bytes_between memory a end ≡ bs
between_is memory a end bs long inside is =
    let n : end - a ≡ length bs = omega (arith, long) in
    ap (λ n. take n (drop a memory)) n ∙ stand_taken memory a (length bs) bs (omega (arith, long, inside)) (omega arith) is ∙ all bs
  where
    all : (bs : List ℕ) → take (length bs) bs ≡ bs
    all [] = refl
    all (b ∷ bs) = ap (λ l. b ∷ l) (all bs)

-- ---- regions

pub beside_none : (memory : List ℕ) (from size : ℕ) → HoldsBytes memory → IsBeside memory memory from size
beside_none memory from size h = record { same_length = refl; below = refl; above = refl; bytes = h }

pub beside_word : (memory : List ℕ) (a v size : ℕ) → a + 8 ≤ length memory → 8 ≤ size → HoldsBytes memory → IsBeside memory (written memory a 8 v) a size
beside_word memory a v size le few h =
    let is = stored memory a 8 v le in
    record { same_length = is.same_length; below = is.below 0 a (omega arith); above = is.above (a + size) (omega (arith, few)); bytes = written_hold memory a 8 v h }

-- a region and then one inside it
pub beside_more : (one two three : List ℕ) (from size inner less : ℕ) → IsBeside one two from size → IsBeside two three inner less → from ≤ inner → inner + less ≤ from + size → IsBeside one three from size
beside_more one two three from size inner less f g lo hi = record {
  same_length = g.same_length ∙ f.same_length;
  below = sym (take-take from inner three lo) ∙ ap (take from) g.below ∙ take-take from inner two lo ∙ f.below;
  above = later three ∙ ap (drop (from + size - (inner + less))) g.above ∙ sym (later two) ∙ f.above;
  bytes = g.bytes;
}
  where
    drop_twice : (l : List ℕ) (m n : ℕ) → drop (m + n) l ≡ drop n (drop m l)
    drop_twice l zero n = ap (λ k. drop k l) (let e : 0 + n ≡ n = omega arith in e)
    drop_twice [] (suc m) n = nothing (suc m + n) ∙ sym (nothing n)
      where
        nothing : (n : ℕ) → drop {A = ℕ} n [] ≡ []
        nothing zero = refl
        nothing (suc n) = refl
    drop_twice (x ∷ l) (suc m) n = ap (λ k. drop k (x ∷ l)) (let e : suc m + n ≡ suc (m + n) = omega arith in e) ∙ drop_twice l m n

    later : (l : List ℕ) → drop (from + size) l ≡ drop (from + size - (inner + less)) (drop (inner + less) l)
    later l = ap (λ k. drop k l) (let e : from + size ≡ inner + less + (from + size - (inner + less)) = omega (arith, hi) in e) ∙ drop_twice l (inner + less) (from + size - (inner + less))

-- a word that was stored
pub word_stored : (memory : List ℕ) (a v : ℕ) → a + 8 ≤ length memory → v < 2 ^ 64 → number_of (take 8 (drop a (written memory a 8 v))) ≡ v
word_stored memory a v le lt = ap number_of (stored memory a 8 v le).here ∙ number_back 8 v lt
