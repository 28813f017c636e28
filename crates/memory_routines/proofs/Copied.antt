-- The copy of bytes keeps its line.
use Rattle.std.proofs.Common.{◌≡◌, inl, inr, ℕ, zero, suc, ◌+◌, ◌-◌, ◌*◌, ◌^◌, ◌<◌, ◌≤◌, List, [], ◌∷◌, length, replicate, get_or, true, false, Some, refl, sym, ap, ◌∙◌, subst, arith, length-append}
use Rattle.std.proofs.lemmas.List.{length-replicate}
use Rattle.wasm_tree.specs.declared.types.ValueType.TheVariants.{I32}
use Rattle.wasm_tree.specs.declared.types.FunctionType.{FunctionType}
use Rattle.wasm_tree.specs.Numeric.{low, flag, equals_zero}
use Rattle.wasm_tree.specs.Exec.{Store}
use Rattle.module_laws.specs.Stored.{written}
use Rattle.module_laws.proofs.StoredBytes.{stored}
use Rattle.low_ir.specs.declared.op.Operand.TheVariants.{Local}
use Rattle.low_ir.specs.declared.op.Operation.TheVariants.{Copy}
use Rattle.low_ir.specs.Tree.{Code, Stop, Return, Set, Block, Loop, Module}
use Rattle.low_ir.specs.Frames.{kept}
use Rattle.low_rules.specs.Rule.{At, CodeEnd, CallEnd, Comes, Contracts, is_zero, is_inside, spend, after_block, after_call, ResultTo, Within, Before, begins, ends}
use Rattle.low_rules.proofs.Steps.{on_true, on_ok, low_is, nonzero, le_test, loads_byte}
use Rattle.memory_routines.specs.Heaps.{pages_for, heap, heap_end, enlarged, IsHeap, HoldsBytes}
use Rattle.memory_routines.specs.Allocation.{Allocates}
use Rattle.memory_routines.specs.Copying.{one_byte, copy_bytes, copying, placed, Copies}
use Rattle.memory_routines.proofs.Counting.{counted}
use Rattle.memory_routines.proofs.Placing.{placed_none, placed_more, written_bytes, grown_bytes}

-- The bytes of a memory that has grown for them.
pub grown_length : (memory : List ℕ) (count top n : ℕ) → length memory ≡ 65536 * count → length (enlarged memory count (top + n)) ≡ 65536 * count + 65536 * (pages_for (top + n) - count)
grown_length memory count top n whole =
    let grown : ℕ = 65536 * (pages_for (top + n) - count) in
    length-append memory (replicate grown 0) ∙ (λ i. whole i + length-replicate {A = ℕ} grown 0 i)

pub enough : (count top n : ℕ) → top + n ≤ 65536 * count + 65536 * (pages_for (top + n) - count)
enough count top n = omega arith

below : (count top n : ℕ) → count ≤ 65535 → top + n ≤ heap_end → 65536 * count + 65536 * (pages_for (top + n) - count) < 2 ^ 32
below count top n few short = omega (arith, few, short)

module _ {World : Type 0} (pages : ℕ) (m : Module) (does : Contracts World) (s : Store World) (others : List ℕ) where
  abbrev at : ℕ → List ℕ → ℕ → ℕ → ℕ → ℕ → ℕ → ℕ → At World
  at spent memory top a n new b x = record { spent = spent; store = heap s memory top others; locals = a ∷ n ∷ new ∷ b ∷ x ∷ [] }

  abbrev inner : (CodeEnd World → Type 0) → CodeEnd World → Type 0
  inner p = after_block (Before pages m does (Return (Some (Local 2))) p) p

  abbrev outer : (CodeEnd World → Type 0) → CodeEnd World → Type 0
  outer p = after_block (Before pages m does Stop (inner p)) (inner p)

  loop : (t : FunctionType) (q : CallEnd World → Type 0) (n a b new x top spent : ℕ) (memory : List ℕ) → length t.results ≡ 1 → a + n ≤ b → b + n ≤ length memory → length memory < 2 ^ 32 → HoldsBytes memory
      → ((cost : ℕ) → cost ≤ spent + (25 * n + 8) → q (Comes cost (heap s (placed memory a b n) top others) (Some new)))
      → Within (suc n) (Before pages m does one_byte) (outer (ends t q)) (at spent memory top a n new b x)
  loop t q zero a b new x top spent memory one under inside small bytes h =
      let value : kept (length t.results) (Some new) ≡ Some new = ap (λ k. kept k (Some new)) one in
      subst (λ v. q (Comes (spent + 1 + 3 + 2 + 2) (heap s memory top others) v)) (sym value)
      (subst (λ l. q (Comes (spent + 1 + 3 + 2 + 2) (heap s l top others) (Some new))) (placed_none memory a b) (h (spent + 1 + 3 + 2 + 2) (omega arith)))
  loop t q (suc n) a b new x top spent memory one under inside small bytes h =
      let v : ℕ = get_or memory a 0 in
      let next : ℕ = spent + 1 + 3 + 2 + 3 + 3 + 4 + 4 + 4 + 1 in
      let more : is_zero (suc n) ≡ false = nonzero (suc n) (omega arith) (omega (arith, inside, small)) in
      let goes : is_zero (equals_zero I32 (suc n)) ≡ true = ap (λ k. is_zero (flag k)) more in
      let place : low I32 b + 0 ≡ b = ap (λ k. k + 0) (low_is b (omega (arith, inside, small))) ∙ omega arith in
      let there : is_inside memory (low I32 b + 0) 1 ≡ true = ap (λ k. is_inside memory k 1) place ∙ le_test (b + 1) (length memory) (omega (arith, inside)) in
      let first : low I32 (a + 1) ≡ a + 1 = low_is (a + 1) (omega (arith, under, inside, small)) in
      let second : low I32 (b + 1) ≡ b + 1 = low_is (b + 1) (omega (arith, inside, small)) in
      let count = counted n (omega (arith, inside, small)) in
      let is = stored memory b 1 v (omega (arith, inside)) in
      on_true _ _ _ goes
      (on_ok _ _ _ v (loads_byte memory a (omega (arith, under, inside)) (omega (arith, under, inside, small)))
      (on_true _ _ _ there
      (subst (λ h. Within (suc n) (Before pages m does one_byte) (outer (ends t q)) h)
      (λ i. record { spent = next; store = heap s (written memory (sym place i) 1 v) top others; locals = sym first i ∷ sym count i ∷ new ∷ sym second i ∷ v ∷ [] })
      (loop t q n (a + 1) (b + 1) new v top next (written memory b 1 v) one (omega (arith, under)) (omega (arith, inside, is.same_length)) (omega (arith, small, is.same_length)) (written_bytes memory b v bytes)
      (λ cost le. subst (λ l. q (Comes cost (heap s l top others) (Some new))) (sym (placed_more memory a b n under inside (bytes a))) (h cost (omega (arith, le))))))))

  module _ (memory : List ℕ) (count top : ℕ) (is : IsHeap memory count top) (bytes : HoldsBytes memory) (t : FunctionType) (one : length t.results ≡ 1) (signature f : ℕ) (a n : ℕ) (under : a + n ≤ top)
      (q : CallEnd World → Type 0) (then : (end : CallEnd World) → Copies pages s memory count top others a n end → q end) where
    abbrev rest : Code
    rest = Set 3 (Copy (Local 2)) (Block (Loop one_byte Stop) (Return (Some (Local 2))))

    abbrev After : CallEnd World → Type 0
    After end = after_call (spend 2 (begins (copying signature f) (heap s memory top others) (a ∷ n ∷ []))) (ResultTo (Some 2) (Before pages m does rest (ends t q))) (ends t q) end

    after : (end : CallEnd World) → Allocates pages s memory count top others n end → After end
    after end (inl (cost, le, short, fits, e)) =
        let larger : List ℕ = enlarged memory count (top + n) in
        let long : length larger ≡ 65536 * count + 65536 * (pages_for (top + n) - count) = grown_length memory count top n is.whole in
        subst After (sym e) (
          suc n,
          loop t q n a top top 0 (top + n) (0 + 2 + cost + 1 + 2 + 1) larger one under
              (subst (λ k. top + n ≤ k) (sym long) (enough count top n))
              (subst (λ k. k < 2 ^ 32) (sym long) (below count top n is.few short))
              (grown_bytes memory (65536 * (pages_for (top + n) - count)) bytes)
              (λ all less. then _ (inl (all, omega (arith, less, le), short, fits, refl))),
        )
    after end (inr (cost, le, wants, e)) = subst After (sym e) (then _ (inr (0 + 2 + cost, omega (arith, le), wants, refl)))

    pub copies : ((r : CallEnd World → Type 0) → ((end : CallEnd World) → Allocates pages s memory count top others n end → r end) → does f (heap s memory top others) (n ∷ []) r)
        → Before pages m does (copy_bytes f) (ends t q) (begins (copying signature f) (heap s memory top others) (a ∷ n ∷ []))
    copies calls = calls After after
