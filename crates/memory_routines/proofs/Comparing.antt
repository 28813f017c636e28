-- The comparison of texts keeps its line.
use Rattle.std.proofs.Common.{◌≡◌, ℕ, zero, suc, ◌+◌, ◌*◌, ◌<◌, ◌≤◌, List, [], ◌∷◌, length, take, drop, get_or, Bool, true, false, not, ◌&&◌, nat_eq, Some, refl, sym, ap, ◌∙◌, subst, arith, drop-cons, pos}
use Rattle.wasm_tree.specs.declared.types.ValueType.TheVariants.{I32}
use Rattle.wasm_tree.specs.declared.op.Comparison.TheVariants.{Ne}
use Rattle.wasm_tree.specs.declared.types.FunctionType.{FunctionType}
use Rattle.wasm_tree.specs.Numeric.{low, flag, equals_zero, compare}
use Rattle.wasm_tree.specs.Exec.{Store}
use Rattle.low_ir.specs.declared.op.Operand.TheVariants.{Word}
use Rattle.low_ir.specs.Tree.{Stop, Return, Module}
use Rattle.low_ir.specs.Frames.{kept}
use Rattle.low_rules.specs.Rule.{At, CodeEnd, CallEnd, Comes, Contracts, is_zero, after_block, Within, Before, begins, ends}
use Rattle.low_rules.proofs.Steps.{on_true, on_test, on_ok, low_is, nonzero, loads_byte}
use Rattle.memory_routines.specs.Texts.{same_texts, text_eq, one_pair, compare_texts, comparison, AreTexts}
use Rattle.memory_routines.proofs.Counting.{counted}

splits : (memory : List ℕ) (a b n : ℕ) → a < length memory → b < length memory → same_texts memory a b (suc n) ≡ (nat_eq (get_or memory a 0) (get_or memory b 0) && same_texts memory (a + 1) (b + 1) n)
splits memory a b n p q =
    let x : drop a memory ≡ get_or memory a 0 ∷ drop (suc a) memory = drop-cons memory a 0 p in
    let y : drop b memory ≡ get_or memory b 0 ∷ drop (suc b) memory = drop-cons memory b 0 q in
    let s : suc a ≡ a + 1 = omega arith in
    let t : suc b ≡ b + 1 = omega arith in
    (λ i. text_eq (take (suc n) (x i)) (take (suc n) (y i))) ∙ (λ i. nat_eq (get_or memory a 0) (get_or memory b 0) && text_eq (take n (drop (s i) memory)) (take n (drop (t i) memory)))

compared_as : (t : Bool) → is_zero (flag (not t)) ≡ t
compared_as true = refl
compared_as false = refl

compared : (u v : ℕ) → u < 256 → v < 256 → is_zero (compare I32 Ne u v) ≡ nat_eq u v
compared u v p q = let x = low_is u (omega (arith, p)) in let y = low_is v (omega (arith, q)) in (λ i. is_zero (flag (not (nat_eq (x i) (y i))))) ∙ compared_as (nat_eq u v)

module _ {World : Type 0} (pages : ℕ) (m : Module) (does : Contracts World) (store : Store World) where
  abbrev at : ℕ → ℕ → ℕ → ℕ → ℕ → ℕ → At World
  at spent a b n x y = record { spent = spent; store = store; locals = a ∷ b ∷ n ∷ x ∷ y ∷ [] }

  abbrev inner : (CodeEnd World → Type 0) → CodeEnd World → Type 0
  inner p = after_block (Before pages m does (Return (Some (Word (pos 1)))) p) p

  abbrev outer : (CodeEnd World → Type 0) → CodeEnd World → Type 0
  outer p = after_block (Before pages m does Stop (inner p)) (inner p)

  loop : (t : FunctionType) (q : CallEnd World → Type 0) (n a b x y spent : ℕ) → length t.results ≡ 1 → AreTexts store.memory a b n → ((cost : ℕ) → cost ≤ spent + (31 * n + 8) → q (Comes cost store (Some (flag (same_texts store.memory a b n)))))
      → Within (suc n) (Before pages m does one_pair) (outer (ends t q)) (at spent a b n x y)
  loop t q zero a b x y spent one g h =
      let value : kept (length t.results) (Some 1) ≡ Some 1 = ap (λ k. kept k (Some 1)) one in
      subst (λ v. q (Comes (spent + 1 + 3 + 2 + 2) store v)) (sym value) (h (spent + 1 + 3 + 2 + 2) (omega arith))
  loop t q (suc n) a b x y spent one g h =
      let memory : List ℕ = store.memory in
      let u : ℕ = get_or memory a 0 in
      let v : ℕ = get_or memory b 0 in
      let next : ℕ = spent + 1 + 3 + 2 + 3 + 3 + 4 + 2 + 4 + 4 + 4 + 1 in
      let more : is_zero (suc n) ≡ false = nonzero (suc n) (omega arith) (omega (arith, g.first, g.small)) in
      let goes : is_zero (equals_zero I32 (suc n)) ≡ true = ap (λ k. is_zero (flag k)) more in
      let split = splits memory a b n (omega (arith, g.first)) (omega (arith, g.second)) in
      let tests : is_zero (compare I32 Ne u v) ≡ nat_eq u v = compared u v (g.bytes a) (g.bytes b) in
      on_true _ _ _ goes
      (on_ok _ _ _ u (loads_byte memory a (omega (arith, g.first)) (omega (arith, g.first, g.small)))
      (on_ok _ _ _ v (loads_byte memory b (omega (arith, g.second)) (omega (arith, g.second, g.small)))
      (on_test _ _ _
      (λ e.
      let same : same_texts memory a b (suc n) ≡ same_texts memory (a + 1) (b + 1) n = split ∙ ap (λ t. t && same_texts memory (a + 1) (b + 1) n) (sym tests ∙ e) in
      let first : low I32 (a + 1) ≡ a + 1 = low_is (a + 1) (omega (arith, g.first, g.small)) in
      let second : low I32 (b + 1) ≡ b + 1 = low_is (b + 1) (omega (arith, g.second, g.small)) in
      let count = counted n (omega (arith, g.first, g.small)) in
      subst (λ l. Within (suc n) (Before pages m does one_pair) (outer (ends t q)) (record { spent = next; store = store; locals = l }))
      (λ i. sym first i ∷ sym second i ∷ sym count i ∷ compare I32 Ne u v ∷ v ∷ [])
      (loop t q n (a + 1) (b + 1) (compare I32 Ne u v) v next one
      (record { first = omega (arith, g.first); second = omega (arith, g.second); small = g.small; bytes = g.bytes })
      (λ cost le. subst (λ b. q (Comes cost store (Some (flag b)))) same (h cost (omega (arith, le))))))
      (λ e.
      let differs : same_texts memory a b (suc n) ≡ false = split ∙ ap (λ t. t && same_texts memory (a + 1) (b + 1) n) (sym tests ∙ e) in
      let value : Some (flag (same_texts memory a b (suc n))) ≡ kept (length t.results) (Some 0) = ap (λ b. Some (flag b)) differs ∙ sym (ap (λ k. kept k (Some 0)) one) in
      subst (λ o. q (Comes (spent + 1 + 3 + 2 + 3 + 3 + 4 + 2 + 2) store o)) value (h (spent + 1 + 3 + 2 + 3 + 3 + 4 + 2 + 2) (omega arith))))))

  -- The whole routine, with its three arguments.
  pub compares : (t : FunctionType) (signature a b n : ℕ) (q : CallEnd World → Type 0) → length t.results ≡ 1 → AreTexts store.memory a b n → ((cost : ℕ) → cost ≤ 31 * n + 9 → q (Comes cost store (Some (flag (same_texts store.memory a b n)))))
      → Before pages m does compare_texts (ends t q) (begins (comparison signature) store (a ∷ b ∷ n ∷ []))
  compares t signature a b n q one g h = (suc n, loop t q n a b 0 0 1 one g (λ cost le. h cost (omega (arith, le))))
