-- Variables, and parts of tuples: words of the heap that are read and written, and blocks that are made.
use Rattle.std.proofs.Common.{◌≡◌, ℕ, zero, suc, ◌+◌, ◌*◌, ◌<◌, ◌≤◌, ◌^◌, List, [], ◌∷◌, length, Option, Some, None, get_or, refl, sym, ap, ◌∙◌, subst, arith}
use Rattle.std.specs.Prelude.{slice_get}
use Rattle.mo_types.specs.Label.{label_id}
use Rattle.mo_values.specs.Shapes.{Bytes, Present, Tuple, Tag, Shapes, Made, NoShape, AShape, shapes, listed}
use Rattle.core_ir.specs.Values.{Handle, Value}
use Rattle.core_ir.specs.Worlds.{World}
use Rattle.low_ir.specs.Numbering.{upto}
use Rattle.memory_routines.specs.Heaps.{heap_end}
use Rattle.heap_layout.specs.Words.{word_at}
use Rattle.heap_layout.specs.Ghosts.{Ghost, Free, Fixed}
use Rattle.heap_layout.specs.Blocks.{shape_count}
use Rattle.heap_layout.specs.Fills.{PartsIn}
use Rattle.heap_layout.specs.Means.{Means, PartsMean, Rep, Reps}
use Rattle.heap_layout.specs.Heaps.{Plan, Holds}
use Rattle.heap_layout.specs.Laws.{IsRead, BlockIsMade, CellIsMade}
use Rattle.heap_layout.proofs.Fills.{Small}
use Rattle.heap_layout.proofs.Makes.{rep_small, rep_lengths, blocks_made}
use Rattle.heap_layout.proofs.NewCells.{cells_made}
use Rattle.heap_layout.proofs.Owners.{differ, words_read}

pub shapes_listed : (vs : List Value) → listed (shapes vs) ≡ vs
shapes_listed [] = refl
shapes_listed (v ∷ vs) = ap (λ l. v ∷ l) (shapes_listed vs)

pub shapes_count : (vs : List Value) → shape_count (shapes vs) ≡ length vs
shapes_count [] = refl
shapes_count (v ∷ vs) = let e = shapes_count vs in omega (arith, e)

upto_first : (s n : ℕ) → upto s (1 + n) ≡ s ∷ upto (suc s) n
upto_first s n = let e : 1 + n ≡ suc n = omega arith in ap (upto s) e

-- parts one behind the other
parts_from : (block ws : List ℕ) (s : ℕ) → ((k : ℕ) → k < length ws → (s + k < length block) × (get_or block (s + k) 0 ≡ get_or ws k 0)) → PartsIn block (upto s (length ws)) ws
parts_from block [] s h = tt
parts_from block (w ∷ ws) s h =
    let at : s + 0 ≡ s = omega arith in
    let first = h 0 (omega arith) in (
      let lt = first.0 in omega (arith, lt),
      ap (λ i. get_or block i 0) (sym at) ∙ first.1,
      parts_from block ws (suc s) (λ k lt. let next = h (suc k) (omega (arith, lt)) in let e : suc s + k ≡ s + suc k = omega arith in (let l = next.0 in omega (arith, l), ap (λ i. get_or block i 0) e ∙ next.1)),
    )

pub small_more : (n : ℕ) (ws : List ℕ) → n < 2 ^ 64 → Small ws → Small (n ∷ ws)
small_more n ws lt small zero = lt
small_more n ws lt small (suc k) = small k

abbrev or_this : Value → Option Value → Value
or_this u None = u
or_this u (Some v) = v

module _ (plan : Plan) (g : Ghost) (world : World) (memory : List ℕ) (count top : ℕ) (h : Holds plan g world memory count top) where
  -- `?v`
  pub option_made : (w : ℕ) (v : Value) → Rep g memory w v → 8 * top + 8 ≤ heap_end → BlockIsMade plan g world memory count top Present (AShape v NoShape) (w ∷ [])
  option_made w v r short = blocks_made plan g world memory count top h Present (AShape v NoShape) tt (w ∷ []) (r, tt) (w ∷ []) (rep_small g memory (w ∷ []) (v ∷ []) (r, tt)) tt (omega arith, refl, tt) (omega (arith, short))

  label_small : (l : Bytes) → label_id l < 2 ^ 64
  label_small l = omega arith

  -- `#l v`
  pub variant_made : (l : Bytes) (w : ℕ) (v : Value) → Rep g memory w v → 8 * top + 16 ≤ heap_end → BlockIsMade plan g world memory count top (Tag l) (AShape v NoShape) (label_id l ∷ w ∷ [])
  variant_made l w v r short =
      blocks_made plan g world memory count top h (Tag l) (AShape v NoShape) tt (w ∷ []) (r, tt) (label_id l ∷ w ∷ []) (small_more (label_id l) (w ∷ []) (label_small l) (rep_small g memory (w ∷ []) (v ∷ []) (r, tt))) (omega arith, refl, tt) (omega arith, refl, tt) (omega (arith, short))

  -- `(v, ..)`
  pub tuple_made : (v : Value) (vs : List Value) (ws : List ℕ) → Reps g memory ws (v ∷ vs) → 8 * top + 8 * (1 + length ws) ≤ heap_end → BlockIsMade plan g world memory count top Tuple (shapes (v ∷ vs)) (length ws ∷ ws)
  tuple_made v vs ws r short =
      let many : shape_count (shapes (v ∷ vs)) ≡ length ws = shapes_count (v ∷ vs) ∙ sym (rep_lengths g memory ws (v ∷ vs) r) in
      blocks_made plan g world memory count top h Tuple (shapes (v ∷ vs)) tt ws (subst (λ l. Reps g memory ws l) (sym (shapes_listed (v ∷ vs))) r) (length ws ∷ ws) (small_more (length ws) ws (omega (arith, short)) (rep_small g memory ws (v ∷ vs) r))
      (omega arith, sym many, tt)
      (subst (λ n. PartsIn (length ws ∷ ws) (upto 1 n) ws) (sym many) (parts_from (length ws ∷ ws) ws 1 (λ k lt. let e : 1 + k ≡ suc k = omega arith in (omega (arith, lt), ap (λ i. get_or (length ws ∷ ws) i 0) e)))) (omega (arith, short))

  -- a new variable
  pub cell_made : (w : ℕ) (v : Value) → Rep g memory w v → 8 * top + 16 ≤ heap_end → CellIsMade plan g world memory count top w v
  cell_made w v r short = cells_made plan g world memory count top h w v r (omega (arith, short))

  -- ---- what is read

  pub record Found (b i : ℕ) (v : Value) : Type 0 where
    pub below : b + i < top
    pub read : IsRead memory (b + i)
    pub rep : Rep g memory (word_at memory (b + i)) v

  fixed_found : (b i : ℕ) (v : Value) → g.own (b + i) ≡ Fixed → word_at memory (b + i) < 2 ^ 64 → Means g memory (word_at memory (b + i)) v → Found b i v
  fixed_found b i v own small means =
      let r = words_read plan g world memory count top h (b + i) (λ free. differ Free Fixed (λ k. omega (arith, k)) (sym free ∙ own)) in
      record { below = r.0; read = r.1; rep = record { small = small; means = means } }

  parts_found : (b s k : ℕ) (inside : Shapes Handle) (v : Value) → PartsMean g memory b (upto s (shape_count inside)) inside → slice_get (listed inside) k ≡ Some v → Found b (s + k) v
  parts_found b s k NoShape v p e = absurd (cc e)
  parts_found b s zero (AShape u us) v p e =
      let q : PartsMean g memory b (s ∷ upto (suc s) (shape_count us)) (AShape u us) = subst (λ os. PartsMean g memory b os (AShape u us)) (upto_first s (shape_count us)) p in
      let is : u ≡ v = ap (or_this u) e in
      let at : s ≡ s + 0 = omega arith in
      subst (λ i. Found b i v) at (fixed_found b s v q.0 q.1 (subst (λ v. Means g memory (word_at memory (b + s)) v) is q.2))
  parts_found b s (suc k) (AShape u us) v p e =
      let q : PartsMean g memory b (s ∷ upto (suc s) (shape_count us)) (AShape u us) = subst (λ os. PartsMean g memory b os (AShape u us)) (upto_first s (shape_count us)) p in
      let at : suc s + k ≡ s + suc k = omega arith in
      subst (λ i. Found b i v) at (parts_found b (suc s) k us v q.3 e)

  pub address_small : (b i : ℕ) → b + i < top → 8 * b < 2 ^ 32
  address_small b i lt = let a = h.heap.inside in let w = h.heap.whole in let f = h.heap.few in omega (arith, a, w, f, lt)

  -- part k of a tuple
  pub record PartFound (w k : ℕ) (v : Value) : Type 0 where
    pub b : ℕ
    pub is : w ≡ 8 * b
    pub found : Found b (1 + k) v

  pub part_found : (w k : ℕ) (inside : Shapes Handle) (v : Value) → Means g memory w (Made Tuple inside) → slice_get (listed inside) k ≡ Some v → PartFound w k v
  part_found w k NoShape v m e = absurd (cc e)
  part_found w k (AShape u us) v m e = record { b = m.0; is = m.1; found = parts_found m.0 1 k (AShape u us) v m.4 e }
