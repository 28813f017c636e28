-- Numbers of so many bytes are read.
use Rattle.std.proofs.Common.{◌≡◌, ℕ, ◌+◌, ◌-◌, ◌%◌, ◌^◌, ◌<◌, ◌≤◌, List, [], ◌∷◌, length, take, drop, get_or, true, false, cond, nat_lt, pos, Ok, Err, refl, sym, ap, ◌∙◌, subst, arith}
use Rattle.std.proofs.Math.Nat.{mod-eq_of_lt, add-mod_right}
use Rattle.std.proofs.lemmas.List.{length-drop}
use Rattle.mo_types.specs.declared.datum.Datum.{Datum}
use Rattle.candid_header.specs.declared.fault.Fault.TheVariants.{Short}
use Rattle.exact_reading.specs.Reading.{made}
use Rattle.candid_read.specs.Parts.{low_at}
use Rattle.wasm_tree.specs.declared.trap.Trap.TheVariants as trap
use Rattle.wasm_tree.specs.declared.op.LoadKind.{LoadKind}
use Rattle.wasm_tree.specs.declared.types.ValueType.TheVariants.{I32}
use Rattle.wasm_tree.specs.Numeric.{low, flag}
use Rattle.wasm_tree.specs.Exec.{Store, load_size, extended, number_of}
use Rattle.low_ir.specs.Tree.{Module}
use Rattle.low_rules.specs.Rule.{CallEnd, Contracts, Before, loads, is_inside, ends}
use Rattle.low_rules.proofs.Steps.{on_flag, on_ok, low_is, le_test, lt_false}
use Rattle.wire_numbers.specs.Readers.{read_fixed, word_of}
use Rattle.wire_numbers.proofs.Bytes.{Stand}
use Rattle.wire_numbers.proofs.Scanned.{point}
use Rattle.wire_numbers.proofs.Numbers.{Bytes, mapped}
use Rattle.wire_numbers.proofs.Words.{stand_taken, low_of, low_is_number, power, number_below}
use Rattle.wire_numbers.proofs.Took.{gives_word, Answers, done_is, refuses}

-- how many bytes there are between two places
distance : (a end : ℕ) → a ≤ end → end < 2 ^ 32 → low I32 (low I32 end + 2 ^ 32 - low I32 a) ≡ end - a
distance a end le lt =
    let e : end + 2 ^ 32 - a ≡ end - a + 2 ^ 32 = omega (arith, le) in
    (λ i. low I32 (low_is end lt i + 2 ^ 32 - low_is a (omega (arith, le, lt)) i)) ∙ ap (λ n. n % 2 ^ 32) e ∙ add-mod_right (end - a) (2 ^ 32) ∙ mod-eq_of_lt (omega (arith, lt))

loads_some : (memory : List ℕ) (of : LoadKind) (size a : ℕ) → load_size of ≡ size → a + size ≤ length memory → a < 2 ^ 32 → loads memory of (low I32 a + 0) ≡ Ok (extended of (number_of (take size (drop a memory))))
loads_some memory of size a e inside small =
    let at : low I32 a + 0 ≡ a = ap (λ n. n + 0) (low_is a small) ∙ omega arith in
    ap (loads memory of) at ∙ ap (λ size. cond (is_inside memory a size) (Ok (extended of (number_of (take size (drop a memory))))) (Err trap.Bounds)) e
    ∙ ap (λ t. cond t (Ok (extended of (number_of (take size (drop a memory))))) (Err trap.Bounds)) (le_test (a + size) (length memory) inside)

module _ {World : Type 0} (pages : ℕ) (m : Module) (does : Contracts World) (store : Store World) (small : length store.memory < 2 ^ 32) (bytes : (k : ℕ) → get_or store.memory k 0 < 256) (end to : ℕ) (far : end ≤ length store.memory) (place : to + 8 ≤ length store.memory) (q : CallEnd World → Type 0) where
  pub fixed_reads : (size : ℕ) (of : LoadKind) (value : ℕ → Datum) → size ≤ 8 → load_size of ≡ size → ((n : ℕ) → n < power size → extended of n ≡ word_of (value n)) → (a : ℕ) (bs : List ℕ) → a + length bs ≡ end → Stand store.memory a bs → Bytes bs
      → Answers pages m does store small bytes end to far place q (made value (low_at size) bs) → Before pages m does (read_fixed (pos size) of) (ends gives_word q) (point pages m does store small bytes end to far [] (ends gives_word q) 0 a 0 0 0 0 0)
  fixed_reads size of value few sized words a bs long is all h =
      let h : Answers pages m does store small bytes end to far place q (mapped value (low_of size bs)) = subst (λ r. Answers pages m does store small bytes end to far place q (mapped value r)) (low_is_number size bs all) h in
      let left : ℕ = low I32 (low I32 end + 2 ^ 32 - low I32 a) in
      let left_is : left ≡ length bs = distance a end (omega (arith, long)) (omega (arith, far, small)) ∙ omega (arith, long) in
      let test : nat_lt (low I32 left) (low I32 size) ≡ nat_lt (length bs) size = (λ i. nat_lt (low I32 (left_is i)) (low_is size (omega (arith, few)) i)) ∙ ap (λ n. nat_lt n size) (low_is (length bs) (omega (arith, long, far, small))) in
      on_flag _ _ (nat_lt (low I32 left) (low I32 size))
      (λ c.
      let enough : nat_lt (length bs) size ≡ false = sym test ∙ c in
      let le : size ≤ length bs = lt_false (length bs) size enough in
      let n : ℕ = number_of (take size bs) in
      let h : Answers pages m does store small bytes end to far place q (Ok (value n, drop size bs)) = subst (λ t. Answers pages m does store small bytes end to far place q (mapped value (cond t (Err Short) (Ok (number_of (take size bs), drop size bs))))) enough h in
      let is_there : extended of (number_of (take size (drop a store.memory))) ≡ word_of (value n) = ap (λ l. extended of (number_of l)) (stand_taken store.memory a size bs (omega (arith, long, far)) le is) ∙ words n (number_below size bs all) in
      let next : low I32 (a + size) ≡ end - length (drop size bs) = low_is (a + size) (omega (arith, long, le, far, small)) ∙ omega (arith, long, le, length-drop size bs) in
      on_ok _ _ _ (extended of (number_of (take size (drop a store.memory)))) (loads_some store.memory of size a sized (omega (arith, long, le, far)) (omega (arith, long, far, small)))
      (done_is pages m does store small bytes end to far place q (0 + 4 + 4 + 2 + 3 + 4) (low I32 (a + size)) (extended of (number_of (take size (drop a store.memory)))) 0 0 (flag (nat_lt (low I32 left) (low I32 size))) 0 (word_of (value n)) (value n) (drop size bs) h next is_there refl (omega arith)))
      (λ c.
      let short : nat_lt (length bs) size ≡ true = sym test ∙ c in
      let h : Answers pages m does store small bytes end to far place q (Err Short) = subst (λ t. Answers pages m does store small bytes end to far place q (mapped value (cond t (Err Short) (Ok (number_of (take size bs), drop size bs))))) short h in
      refuses pages m does store small bytes end to far place q Short h (0 + 4 + 4 + 2 + 2) (a ∷ end ∷ to ∷ 0 ∷ 0 ∷ 0 ∷ flag (nat_lt (low I32 left) (low I32 size)) ∷ 0 ∷ []) (omega arith))
