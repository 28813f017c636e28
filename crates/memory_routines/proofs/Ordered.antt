-- The order of texts keeps its line.
use Rattle.std.proofs.Common.{◌≡◌, ℕ, zero, suc, ◌+◌, ◌*◌, ◌<◌, ◌≤◌, List, [], ◌∷◌, length, take, drop, get_or, true, false, nat_lt, cond, Some, refl, sym, ap, ◌∙◌, subst, arith, drop-cons, pos}
use Rattle.wasm_tree.specs.declared.types.ValueType.TheVariants.{I32}
use Rattle.wasm_tree.specs.declared.types.FunctionType.{FunctionType}
use Rattle.wasm_tree.specs.Numeric.{low, flag, equals_zero}
use Rattle.wasm_tree.specs.Exec.{Store}
use Rattle.low_ir.specs.declared.op.Operand.TheVariants.{Word}
use Rattle.low_ir.specs.Tree.{Return, Module}
use Rattle.low_ir.specs.Frames.{kept}
use Rattle.low_rules.specs.Rule.{At, CodeEnd, CallEnd, Comes, Contracts, is_zero, after_block, Within, Before, begins, ends}
use Rattle.low_rules.proofs.Steps.{on_true, on_flag, on_ok, low_is, nonzero, loads_byte}
use Rattle.memory_routines.specs.Order.{one_order, order_texts, ordering, text_order, order_of, AreBoth}
use Rattle.memory_routines.proofs.Counting.{counted}

there : (memory : List ℕ) (a n : ℕ) → a < length memory → take (suc n) (drop a memory) ≡ get_or memory a 0 ∷ take n (drop (a + 1) memory)
there memory a n lt =
    let s : suc a ≡ a + 1 = omega arith in
    ap (take (suc n)) (drop-cons memory a 0 lt) ∙ ap (λ k. get_or memory a 0 ∷ take n (drop k memory)) s

splits : (memory : List ℕ) (a n b k : ℕ) → a < length memory → b < length memory
    → order_of memory a (suc n) b (suc k) ≡ cond (nat_lt (get_or memory a 0) (get_or memory b 0)) 0 (cond (nat_lt (get_or memory b 0) (get_or memory a 0)) 2 (order_of memory (a + 1) n (b + 1) k))
splits memory a n b k p q = λ i. text_order (there memory a n p i) (there memory b k q i)

tests : (u v : ℕ) → u < 256 → v < 256 → nat_lt (low I32 u) (low I32 v) ≡ nat_lt u v
tests u v p q = let x = low_is u (omega (arith, p)) in let y = low_is v (omega (arith, q)) in λ i. nat_lt (x i) (y i)

module _ {World : Type 0} (pages : ℕ) (m : Module) (does : Contracts World) (store : Store World) where
  abbrev at : ℕ → ℕ → ℕ → ℕ → ℕ → ℕ → ℕ → ℕ → At World
  at spent a n b k x y z = record { spent = spent; store = store; locals = a ∷ n ∷ b ∷ k ∷ x ∷ y ∷ z ∷ [] }

  abbrev outer : (CodeEnd World → Type 0) → CodeEnd World → Type 0
  outer p = after_block (Before pages m does (Return (Some (Word (pos 1)))) p) p

  -- What is given where the order is known.
  gives : (t : FunctionType) (q : CallEnd World → Type 0) (cost given order : ℕ) → length t.results ≡ 1 → order ≡ given → q (Comes cost store (Some order)) → q (Comes cost store (kept (length t.results) (Some given)))
  gives t q cost given order one e h = subst (λ v. q (Comes cost store v)) (ap Some e ∙ sym (ap (λ k. kept k (Some given)) one)) h

  loop : (t : FunctionType) (q : CallEnd World → Type 0) (n k a b x y z spent : ℕ) → length t.results ≡ 1 → AreBoth store.memory a n b k → ((cost : ℕ) → cost ≤ spent + (46 * n + 11) → q (Comes cost store (Some (order_of store.memory a n b k))))
      → Within (suc n) (Before pages m does one_order) (outer (ends t q)) (at spent a n b k x y z)
  loop t q zero zero a b x y z spent one g h = gives t q (spent + 1 + 3 + 2 + 3 + 2) 1 _ one refl (h (spent + 1 + 3 + 2 + 3 + 2) (omega arith))
  loop t q zero (suc k) a b x y z spent one g h =
      let memory : List ℕ = store.memory in
      let more : is_zero (suc k) ≡ false = nonzero (suc k) (omega arith) (omega (arith, g.second, g.small)) in
      let given : equals_zero I32 (suc k) ≡ 0 = ap flag more in
      let order : order_of memory a 0 b (suc k) ≡ equals_zero I32 (suc k) = ap (text_order []) (there memory b k (omega (arith, g.second))) ∙ sym given in
      gives t q (spent + 1 + 3 + 2 + 3 + 2) (equals_zero I32 (suc k)) _ one order (h (spent + 1 + 3 + 2 + 3 + 2) (omega arith))
  loop t q (suc n) zero a b x y z spent one g h =
      let memory : List ℕ = store.memory in
      let more : is_zero (suc n) ≡ false = nonzero (suc n) (omega arith) (omega (arith, g.first, g.small)) in
      let goes : is_zero (equals_zero I32 (suc n)) ≡ true = ap (λ k. is_zero (flag k)) more in
      let order : order_of memory a (suc n) b 0 ≡ 2 = ap (λ l. text_order l []) (there memory a n (omega (arith, g.first))) in
      on_true _ _ _ goes (gives t q (spent + 1 + 3 + 2 + 3 + 2 + 2) 2 _ one order (h (spent + 1 + 3 + 2 + 3 + 2 + 2) (omega arith)))
  loop t q (suc n) (suc k) a b x y z spent one g h =
      let memory : List ℕ = store.memory in
      let u : ℕ = get_or memory a 0 in
      let v : ℕ = get_or memory b 0 in
      let later : ℕ = order_of memory (a + 1) n (b + 1) k in
      let next : ℕ = spent + 1 + 3 + 2 + 3 + 2 + 3 + 3 + 4 + 2 + 4 + 2 + 4 + 4 + 4 + 4 + 1 in
      let more : is_zero (suc n) ≡ false = nonzero (suc n) (omega arith) (omega (arith, g.first, g.small)) in
      let goes : is_zero (equals_zero I32 (suc n)) ≡ true = ap (λ k. is_zero (flag k)) more in
      let others : is_zero (suc k) ≡ false = nonzero (suc k) (omega arith) (omega (arith, g.second, g.small)) in
      let too : is_zero (equals_zero I32 (suc k)) ≡ true = ap (λ k. is_zero (flag k)) others in
      let split = splits memory a n b k (omega (arith, g.first)) (omega (arith, g.second)) in
      let less : nat_lt (low I32 u) (low I32 v) ≡ nat_lt u v = tests u v (g.bytes a) (g.bytes b) in
      let greater : nat_lt (low I32 v) (low I32 u) ≡ nat_lt v u = tests v u (g.bytes b) (g.bytes a) in
      on_true _ _ _ goes
      (on_true _ _ _ too
      (on_ok _ _ _ u (loads_byte memory a (omega (arith, g.first)) (omega (arith, g.first, g.small)))
      (on_ok _ _ _ v (loads_byte memory b (omega (arith, g.second)) (omega (arith, g.second, g.small)))
      (on_flag _ _ (nat_lt (low I32 u) (low I32 v))
      (λ c.
      let not_less = sym less ∙ c in
      on_flag _ _ (nat_lt (low I32 v) (low I32 u))
      (λ d.
      let same : order_of memory a (suc n) b (suc k) ≡ later = split ∙ ap (λ t. cond t 0 (cond (nat_lt v u) 2 later)) not_less ∙ ap (λ t. cond t 2 later) (sym greater ∙ d) in
      let first : low I32 (a + 1) ≡ a + 1 = low_is (a + 1) (omega (arith, g.first, g.small)) in
      let second : low I32 (b + 1) ≡ b + 1 = low_is (b + 1) (omega (arith, g.second, g.small)) in
      let left = counted n (omega (arith, g.first, g.small)) in
      let right = counted k (omega (arith, g.second, g.small)) in
      let test : ℕ = flag (nat_lt (low I32 v) (low I32 u)) in
      subst (λ l. Within (suc n) (Before pages m does one_order) (outer (ends t q)) (record { spent = next; store = store; locals = l }))
      (λ i. sym first i ∷ sym left i ∷ sym second i ∷ sym right i ∷ u ∷ v ∷ test ∷ [])
      (loop t q n k (a + 1) (b + 1) u v test next one
      (record { first = omega (arith, g.first); second = omega (arith, g.second); small = g.small; bytes = g.bytes })
      (λ cost le. subst (λ o. q (Comes cost store (Some o))) same (h cost (omega (arith, le))))))
      (λ d.
      let order : order_of memory a (suc n) b (suc k) ≡ 2 = split ∙ ap (λ t. cond t 0 (cond (nat_lt v u) 2 later)) not_less ∙ ap (λ t. cond t 2 later) (sym greater ∙ d) in
      gives t q (spent + 1 + 3 + 2 + 3 + 2 + 3 + 3 + 4 + 2 + 4 + 2 + 2) 2 _ one order (h (spent + 1 + 3 + 2 + 3 + 2 + 3 + 3 + 4 + 2 + 4 + 2 + 2) (omega arith))))
      (λ c.
      let order : order_of memory a (suc n) b (suc k) ≡ 0 = split ∙ ap (λ t. cond t 0 (cond (nat_lt v u) 2 later)) (sym less ∙ c) in
      gives t q (spent + 1 + 3 + 2 + 3 + 2 + 3 + 3 + 4 + 2 + 2) 0 _ one order (h (spent + 1 + 3 + 2 + 3 + 2 + 3 + 3 + 4 + 2 + 2) (omega arith)))))))

  -- The whole routine, with its four arguments.
  pub orders : (t : FunctionType) (signature a n b k : ℕ) (q : CallEnd World → Type 0) → length t.results ≡ 1 → AreBoth store.memory a n b k → ((cost : ℕ) → cost ≤ 46 * n + 12 → q (Comes cost store (Some (order_of store.memory a n b k))))
      → Before pages m does order_texts (ends t q) (begins (ordering signature) store (a ∷ n ∷ b ∷ k ∷ []))
  orders t signature a n b k q one g h = (suc n, loop t q n k a b 0 0 0 0 one g (λ cost le. h cost (omega (arith, le))))
