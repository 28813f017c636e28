-- Allocation keeps its line.
use Rattle.std.proofs.Common.{◌≡◌, inl, inr, ℕ, ◌+◌, ◌-◌, ◌*◌, ◌/◌, ◌%◌, ◌^◌, ◌<◌, ◌≤◌, max, List, [], ◌∷◌, ◌++◌, length, replicate, Bool, true, false, ◌&&◌, nat_lt, nat_le, Option, Some, refl, sym, ap, ◌∙◌, subst, arith}
use Rattle.std.proofs.lemmas.List.{append-nil}
use Rattle.std.proofs.Math.Nat.{mod-eq_of_lt, add-mod_right}
use Rattle.wasm_tree.specs.declared.trap.Trap.TheVariants as trap
use Rattle.wasm_tree.specs.declared.types.ValueType.TheVariants.{I32}
use Rattle.wasm_tree.specs.declared.types.FunctionType.{FunctionType}
use Rattle.wasm_tree.specs.Numeric.{low, flag}
use Rattle.wasm_tree.specs.Exec.{Store, pages_of}
use Rattle.low_ir.specs.Tree.{Module}
use Rattle.low_ir.specs.Frames.{kept}
use Rattle.low_rules.specs.Rule.{CallEnd, Comes, Dies, Contracts, OnTest, is_zero, may_grow, refused, Before, begins, ends}
use Rattle.low_rules.proofs.Steps.{on_false, on_test, on_flag, le_test, not_le, le_true, le_false, lt_true, lt_false, low_is}
use Rattle.memory_routines.specs.Heaps.{pages_for, heap, heap_end, enlarged, IsHeap}
use Rattle.memory_routines.specs.Allocation.{allocate, allocation, Allocates}

counts : (memory : List ℕ) (count : ℕ) → length memory ≡ 65536 * count → pages_of memory ≡ count
counts memory count e = omega (arith, e)

first_true : (a b : Bool) → (a && b) ≡ true → a ≡ true
first_true true b e = refl
first_true false b e = absurd (cc)

second_false : (a b : Bool) → b ≡ false → (a && b) ≡ false
second_false true b e = e
second_false false b e = refl

most : (bytes : ℕ) → bytes ≤ heap_end → pages_for bytes ≤ 65535
most bytes h = omega (arith, h)

fails : (n pages : ℕ) → n ≤ 65535 → (nat_le n pages && nat_le n 65536) ≡ false → pages < n
fails n pages few e = by (nat_le n pages) refl e
  where
    small : nat_le n 65536 ≡ true
    small = le_test n 65536 (omega (arith, few))

    by : (t : Bool) → nat_le n pages ≡ t → (t && nat_le n 65536) ≡ false → pages < n
    by true same e = let no : true ≡ false = sym small ∙ e in absurd (cc no)
    by false same e = le_false n pages same

total : (k n : ℕ) → k < n → k + (n - k) ≡ n
total k n lt = omega arith

difference : (n k : ℕ) → k < n → n < 2 ^ 32 → low I32 (low I32 n + 2 ^ 32 - low I32 k) ≡ n - k
difference n k lt h =
    let e : n + 2 ^ 32 - k ≡ n - k + 2 ^ 32 = omega arith in
    (λ i. low I32 (low_is n (omega (arith, h)) i + 2 ^ 32 - low_is k (omega (arith, h, lt)) i)) ∙ ap (λ x. x % 2 ^ 32) e ∙ add-mod_right (n - k) (2 ^ 32) ∙ mod-eq_of_lt (omega (arith, h))

-- What the address of an end may still grow by.
spare : (top : ℕ) → top ≤ heap_end → low I32 (low I32 (heap_end + 2 ^ 32 - low I32 top)) ≡ heap_end - top
spare top h =
    let e : heap_end + 2 ^ 32 - top ≡ heap_end - top + 2 ^ 32 = omega (arith, h) in
    let once : low I32 (heap_end + 2 ^ 32 - low I32 top) ≡ heap_end - top = (λ i. low I32 (heap_end + 2 ^ 32 - low_is top (omega (arith, h)) i)) ∙ ap (λ x. x % 2 ^ 32) e ∙ add-mod_right (heap_end - top) (2 ^ 32) ∙ mod-eq_of_lt (omega (arith, h)) in
    ap (low I32) once ∙ low_is (heap_end - top) (omega (arith, h))

-- No memory grows by more than 65,536 pages.
never : (memory : List ℕ) (pages : ℕ) → may_grow pages memory (low I32 65537) ≡ false
never memory pages = second_false (nat_le (pages_of memory + 65537) pages) (nat_le (pages_of memory + 65537) 65536) (past (pages_of memory))
  where
    past : (n : ℕ) → nat_le (n + 65537) 65536 ≡ false
    past n = not_le (n + 65537) 65536 (omega arith)

within_max : (n pages count : ℕ) → n ≤ pages → n ≤ max pages count
within_max n pages count h = omega (arith, h)

other_max : (n pages count : ℕ) → n ≤ count → n ≤ max pages count
other_max n pages count h = omega (arith, h)

module _ {World : Type 0} (pages : ℕ) (m : Module) (does : Contracts World) (s : Store World) (memory : List ℕ) (count top size : ℕ) (others : List ℕ) (is : IsHeap memory count top) where
  -- The tests, of the new end, the pages for it, the pages that are there and the result.
  abbrev Grows : (CallEnd World → Type 0) → ℕ → ℕ → Option ℕ → Type 0
  Grows q by end value =
      OnTest (may_grow pages memory by) (q (Comes 49 (heap s (memory ++ replicate (65536 * by) 0) end others) value)) (q (Dies trap.Unreachable 44 (refused (heap s memory top others))))

  abbrev Way : (CallEnd World → Type 0) → ℕ → ℕ → ℕ → Option ℕ → Type 0
  Way q end n there value =
      OnTest (is_zero (flag (nat_lt (low I32 there) (low I32 n)))) (q (Comes 40 (heap s memory end others) value)) (Grows q (low I32 (low I32 (low I32 n + 2 ^ 32 - low I32 there))) end value)

  -- Of a size that may be an address's distance.
  fits : (t : FunctionType) (q : CallEnd World → Type 0) → length t.results ≡ 1 → top + size ≤ heap_end → ((end : CallEnd World) → Allocates pages s memory count top others size end → q end)
      → Way q (low I32 (top + size)) (low I32 (low I32 (low I32 (top + size) + 65535)) / 65536) (pages_of memory) (kept (length t.results) (Some top))
  fits t q one short then =
      let n : ℕ = pages_for (top + size) in
      let few : n ≤ 65535 = most (top + size) short in
      let e : low I32 (top + size) ≡ top + size = low_is (top + size) (omega (arith, short)) in
      let raised : low I32 (top + size + 65535) ≡ top + size + 65535 = low_is (top + size + 65535) (omega (arith, short)) in
      let needs : low I32 (low I32 (low I32 (top + size) + 65535)) / 65536 ≡ n = ap (λ x. low I32 (low I32 (x + 65535)) / 65536) e ∙ ap (λ x. low I32 x / 65536) raised ∙ ap (λ x. x / 65536) raised in
      let there : pages_of memory ≡ count = counts memory count is.whole in
      let value : kept (length t.results) (Some top) ≡ Some top = ap (λ k. kept k (Some top)) one in
      let low_n : low I32 n ≡ n = low_is n (omega (arith, few)) in
      let low_count : low I32 count ≡ count = low_is count (omega (arith, is.few)) in
      subst (λ x. Way q (low I32 (top + size)) x (pages_of memory) (kept (length t.results) (Some top))) (sym needs)
      (subst (λ x. Way q (low I32 (top + size)) n x (kept (length t.results) (Some top))) (sym there)
      (subst (λ x. Way q x n count (kept (length t.results) (Some top))) (sym e)
      (subst (λ x. Way q (top + size) n count x) (sym value)
      (on_flag _ _ (nat_lt (low I32 count) (low I32 n))
      (λ c.
      let le : n ≤ count = lt_false count n (sym (λ i. nat_lt (low_count i) (low_n i)) ∙ c) in
      let none : n - count ≡ 0 = omega (arith, le) in
      let same : enlarged memory count (top + size) ≡ memory = ap (λ k. memory ++ replicate (65536 * k) 0) none ∙ append-nil memory in
      then _ (inl (40, omega arith, short, other_max n pages count le, ap (λ m. Comes 40 (heap s m (top + size) others) (Some top)) (sym same))))
      (λ c.
      let lt : count < n = lt_true count n (sym (λ i. nat_lt (low_count i) (low_n i)) ∙ c) in
      let diff : low I32 (low I32 (low I32 n + 2 ^ 32 - low I32 count)) ≡ n - count = ap (low I32) (difference n count lt (omega (arith, few))) ∙ low_is (n - count) (omega (arith, few)) in
      let sum : pages_of memory + (n - count) ≡ n = ap (λ k. k + (n - count)) there ∙ total count n lt in
      subst (λ x. Grows q x (top + size) (Some top)) (sym diff)
      (on_test _ _ (may_grow pages memory (n - count))
      (λ c. then _ (inl (49, omega arith, short, within_max n pages count (le_true n pages (first_true (nat_le n pages) (nat_le n 65536) (sym (ap (λ x. nat_le x pages && nat_le x 65536) sum) ∙ c))), refl)))
      (λ c. then _ (inr (44, omega arith, inr (fails n pages few (sym (ap (λ x. nat_le x pages && nat_le x 65536) sum) ∙ c)), refl)))))))))

  pub allocates : (t : FunctionType) (signature : ℕ) (q : CallEnd World → Type 0) → length t.results ≡ 1 → size < 2 ^ 32 → ((end : CallEnd World) → Allocates pages s memory count top others size end → q end)
      → Before pages m does allocate (ends t q) (begins (allocation signature) (heap s memory top others) (size ∷ []))
  allocates t signature q one word then =
      let inside : top ≤ heap_end = omega (arith, is.inside, is.whole, is.few) in
      let spared : low I32 (low I32 (heap_end + 2 ^ 32 - low I32 top)) ≡ heap_end - top = spare top inside in
      let same : nat_lt (low I32 (low I32 (heap_end + 2 ^ 32 - low I32 top))) (low I32 size) ≡ nat_lt (heap_end - top) size = λ i. nat_lt (spared i) (low_is size word i) in
      on_flag _ _ (nat_lt (low I32 (low I32 (heap_end + 2 ^ 32 - low I32 top))) (low I32 size))
      (λ c. fits t q one (let le : size ≤ heap_end - top = lt_false (heap_end - top) size (sym same ∙ c) in omega (arith, le, inside)) then)
      (λ c. on_false _ _ (may_grow pages memory (low I32 65537)) (never memory pages) (then _ (inr (18, omega arith, inl (let lt : heap_end - top < size = lt_true (heap_end - top) size (sym same ∙ c) in omega (arith, lt)), refl))))
