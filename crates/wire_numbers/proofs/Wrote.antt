-- The routines write what the definition has.
use Rattle.std.proofs.Common.{◌≡◌, ℕ, zero, suc, ◌+◌, ◌-◌, ◌/◌, ◌%◌, ◌^◌, ◌<◌, ◌≤◌, List, [], ◌∷◌, ◌++◌, length, take, drop, Bool, true, false, cond, nat_lt, Some, Ok, ℤ, pos, negsuc, ◌≤ℤ◌, refl, sym, ap, ◌∙◌, subst, arith}
use Rattle.std.proofs.Math.Nat.{mod-eq_of_lt, add-mod_right}
use Rattle.std.specs.Prelude.{int_lt}
use Rattle.std.specs.Int.{w64, cast_signed}
use Rattle.std.proofs.lemmas.Int.{ints, to_z-of_z, to_z_pos}
use Rattle.wasm_tree.specs.declared.types.ValueType.TheVariants.{I32, I64}
use Rattle.wasm_tree.specs.declared.types.FunctionType.{FunctionType}
use Rattle.wasm_tree.specs.declared.op.BinaryOperator.TheVariants.{Sub}
use Rattle.wasm_tree.specs.declared.op.StoreKind.{StoreKind}
use Rattle.wasm_tree.specs.Numeric.{low, flag, signed}
use Rattle.wasm_tree.specs.Exec.{Store, bits64, bytes_of, store_size}
use Rattle.module_laws.specs.Stored.{written}
use Rattle.module_laws.proofs.StoredBytes.{bytes_length}
use Rattle.low_ir.specs.declared.op.Operand.TheVariants.{Local, Long}
use Rattle.low_ir.specs.declared.op.Operation.TheVariants.{Copy, Binary}
use Rattle.low_ir.specs.Tree.{Return, Stop, Loop, Module}
use Rattle.low_rules.specs.Rule.{CodeEnd, CallEnd, Comes, Contracts, Within, Before, after_block, is_inside, ends}
use Rattle.low_rules.proofs.Steps.{on_true, on_flag, low_is, le_test}
use Rattle.memory_routines.specs.Laws.{word_of}
use Rattle.memory_routines.specs.Numerals.{with_memory, between}
use Rattle.mo_coding.specs.Numbers.{leb_by, leb, positive_by, negative_by, sleb}
use Rattle.wire_numbers.specs.Writers.{marked, put_digit, write_natural, write_integer, write_fixed, MayWrite, IsWritten}
use Rattle.wire_numbers.proofs.Bytes.{long_is}
use Rattle.wire_numbers.proofs.Spelled.{spelled, enough_room, spot, spells}

abbrev pub place_of : FunctionType
place_of = word_of (I32 ∷ I64 ∷ [])

-- one of two, by a test
abbrev chosen : {A : Type 0} → Bool → A → A → A
chosen t a b = elim t [ true ↦ a | false ↦ b ]

chosen_is : {A : Type 0} (t : Bool) (a b : A) → chosen t a b ≡ cond t a b
chosen_is true a b = refl
chosen_is false a b = refl

less : (a n : ℕ) → n ≤ a → a < 2 ^ 64 → low I64 (low I64 a + 2 ^ 64 - low I64 n) ≡ a - n
less a n le lt =
    let e : a + 2 ^ 64 - n ≡ a - n + 2 ^ 64 = omega (arith, le) in
    (λ i. low I64 (long_is a lt i + 2 ^ 64 - long_is n (omega (arith, le, lt)) i)) ∙ ap (λ k. k % 2 ^ 64) e ∙ add-mod_right (a - n) (2 ^ 64) ∙ mod-eq_of_lt (omega (arith, lt))

signed_low : (n : ℕ) → n < 2 ^ 63 → signed I64 n ≡ pos n
signed_low n h = ap (cast_signed w64) (mod-eq_of_lt (omega (arith, h))) ∙ to_z_pos w64 n h

signed_high : (n : ℕ) → n < 2 ^ 63 → signed I64 (2 ^ 64 - 1 - n) ≡ negsuc n
signed_high n h =
    let e : 2 ^ 64 - 1 - n ≡ 2 ^ 64 - suc n = omega (arith, h) in
    ap (cast_signed w64) (mod-eq_of_lt (omega (arith, h)) ∙ e) ∙ to_z-of_z w64 (negsuc n) (record { sfits = h })

not_negative : (n : ℕ) → int_lt (pos n) (pos 0) ≡ false
not_negative n = by (int_lt (pos n) (pos 0)) refl
  where
    by : (t : Bool) → int_lt (pos n) (pos 0) ≡ t → int_lt (pos n) (pos 0) ≡ false
    by false e = e
    by true e = absurd (omega (arith, ints, e))

natural_same : (f n : ℕ) → leb_by f n ≡ spelled 128 (λ n. n) (λ x. x + 128) f n
natural_same zero n = refl
natural_same (suc f) n = chosen_is (nat_lt n 128) (n ∷ []) ((n % 128 + 128) ∷ leb_by f (n / 128)) ∙ ap (λ l. cond (nat_lt n 128) (n ∷ []) ((n % 128 + 128) ∷ l)) (natural_same f (n / 128))

positive_same : (f n : ℕ) → positive_by f n ≡ spelled 64 (λ n. n) (λ x. x + 128) f n
positive_same zero n = refl
positive_same (suc f) n = chosen_is (nat_lt n 64) (n ∷ []) ((n % 128 + 128) ∷ positive_by f (n / 128)) ∙ ap (λ l. cond (nat_lt n 64) (n ∷ []) ((n % 128 + 128) ∷ l)) (positive_same f (n / 128))

negative_same : (f n : ℕ) → negative_by f n ≡ spelled 64 (λ n. 127 - n) (λ x. 255 - x) f n
negative_same zero n = refl
negative_same (suc f) n = chosen_is (nat_lt n 64) ((127 - n) ∷ []) ((255 - n % 128) ∷ negative_by f (n / 128)) ∙ ap (λ l. cond (nat_lt n 64) ((127 - n) ∷ []) ((255 - n % 128) ∷ l)) (negative_same f (n / 128))

module _ {World : Type 0} (pages : ℕ) (m : Module) (does : Contracts World) (store : Store World) (at : ℕ) (may : MayWrite store.memory at) (q : CallEnd World → Type 0) where
  abbrev p : CodeEnd World → Type 0
  p = ends place_of q

  abbrev Asked : List ℕ → Type 0
  Asked text = (e : CallEnd World) → IsWritten store at text e → q e

  abbrev outer : CodeEnd World → Type 0
  outer = after_block (Before pages m does (Loop (put_digit (pos 64) (Copy (Local 1)) marked) (Return (Some (Local 0)))) p) p

  pub natural_writes : (n : ℕ) → n < 2 ^ 63 → Asked (leb n) → Before pages m does write_natural p (spot pages m does store 0 store.memory at n 0 0)
  natural_writes n lt h =
      let h : Asked (spelled 128 (λ n. n) (λ x. x + 128) n n) = subst Asked (natural_same n n) h in (
        9,
        spells pages m does store (pos 128) 128 refl (omega arith) (Copy (Local 1)) marked (λ n. n) (λ x. x + 128) (omega arith) (omega arith) (λ spent memory a n x t lt. refl) (λ spent memory a n x t lt. ap Ok (long_is (x + 128) (omega (arith, lt)))) (λ n lt. omega (arith, lt)) (λ x lt. omega (arith, lt))
            (after_block (Before pages m does (Return (Some (Local 0))) p) p) 8 n 0 store.memory at n 0 0 (omega (arith, lt)) (omega (arith, lt)) (enough_room 128 n (omega arith)) (omega (arith, may.inside)) may.small
            (λ spent locals le. h _ (spent, omega (arith, le), refl)),
      )

  pub integer_writes : (z : ℤ) → negsuc (2 ^ 63 - 1) ≤ℤ z → z ≤ℤ pos (2 ^ 63 - 1) → Asked (sleb z) → Before pages m does write_integer p (spot pages m does store 0 store.memory at (bits64 z) 0 0)
  integer_writes (pos n) least most h =
      let h : Asked (spelled 64 (λ n. n) (λ x. x + 128) n n) = subst Asked (positive_same n n) h in
      let lt : n < 2 ^ 63 = omega (arith, ints, most) in
      on_flag _ _ (int_lt (signed I64 n) (signed I64 0))
      (λ c. (
        10,
        spells pages m does store (pos 64) 64 refl (omega arith) (Copy (Local 1)) marked (λ n. n) (λ x. x + 128) (omega arith) (omega arith) (λ spent memory a n x t lt. refl) (λ spent memory a n x t lt. ap Ok (long_is (x + 128) (omega (arith, lt)))) (λ n lt. omega (arith, lt)) (λ x lt. omega (arith, lt))
            (after_block (Before pages m does (Return (Some (Local 0))) p) p) 9 n (0 + 4 + 2) store.memory at n 0 (flag (int_lt (signed I64 n) (signed I64 0))) (omega (arith, lt)) (omega (arith, lt)) (enough_room 64 n (omega arith)) (omega (arith, may.inside)) may.small
            (λ spent locals le. h _ (spent, omega (arith, le), refl)),
      ))
      (λ c. absurd (cc (sym c ∙ (λ i. int_lt (signed_low n lt i) (signed_low 0 (omega arith) i)) ∙ not_negative n)))
  integer_writes (negsuc n) least most h =
      let h : Asked (spelled 64 (λ n. 127 - n) (λ x. 255 - x) n n) = subst Asked (negative_same n n) h in
      let lt : n < 2 ^ 63 = omega (arith, ints, least) in
      let back : low I64 (low I64 (2 ^ 64 - 1) + 2 ^ 64 - low I64 (2 ^ 64 - 1 - n)) ≡ n = less (2 ^ 64 - 1) (2 ^ 64 - 1 - n) (omega arith) (omega arith) ∙ omega (arith, lt) in
      let f : ℕ = flag (int_lt (signed I64 (2 ^ 64 - 1 - n)) (signed I64 0)) in
      on_flag _ _ (int_lt (signed I64 (2 ^ 64 - 1 - n)) (signed I64 0))
      (λ c. absurd (cc (sym (ap (λ z. int_lt z (signed I64 0)) (signed_high n lt)) ∙ c)))
      (λ c. (
        10,
        subst (λ n. Within 10 (Before pages m does (put_digit (pos 64) (Binary I64 Sub (Long (pos 127)) (Local 1)) (Binary I64 Sub (Long (pos 255)) (Local 2)))) (after_block (Before pages m does Stop outer) outer) (spot pages m does store (0 + 4 + 2 + 4) store.memory at n 0 f)) (sym back)
            (spells pages m does store (pos 64) 64 refl (omega arith) (Binary I64 Sub (Long (pos 127)) (Local 1)) (Binary I64 Sub (Long (pos 255)) (Local 2)) (λ n. 127 - n) (λ x. 255 - x) (omega arith) (omega arith) (λ spent memory a n x t lt. ap Ok (less 127 n (omega (arith, lt)) (omega arith))) (λ spent memory a n x t lt. ap Ok (less 255 x (omega (arith, lt)) (omega arith))) (λ n lt. omega (arith, lt)) (λ x lt. omega (arith, lt))
            (after_block (Before pages m does Stop outer) outer) 9 n (0 + 4 + 2 + 4) store.memory at n 0 f (omega (arith, lt)) (omega (arith, lt)) (enough_room 64 n (omega arith)) (omega (arith, may.inside)) may.small
            (λ spent locals le. h _ (spent, omega (arith, le), refl))),
      ))

  pub fixed_writes : (size : ℕ) (to : StoreKind) (value : ℕ) (text : List ℕ) → size ≤ 8 → store_size to ≡ size → bytes_of size value ≡ text → Asked text → Before pages m does (write_fixed (pos size) to) p (spot pages m does store 0 store.memory at value 0 0)
  fixed_writes size to value text few sized same h =
      let memory : List ℕ = store.memory in
      let address : low I32 at + 0 ≡ at = ap (λ k. k + 0) (low_is at (omega (arith, may.inside, may.small))) ∙ omega arith in
      let next : low I32 (at + size) ≡ at + size = low_is (at + size) (omega (arith, may.inside, may.small, few)) in
      let long : size ≡ length text = sym (bytes_length size value) ∙ ap length same in
      let there : is_inside memory (low I32 at + 0) (store_size to) ≡ true = (λ i. is_inside memory (address i) (sized i)) ∙ le_test (at + size) (length memory) (omega (arith, may.inside, few)) in
      let after : written memory (low I32 at + 0) (store_size to) value ≡ between memory at text (at + length text) = (λ i. written memory (address i) (sized i) value) ∙ (λ i. (take at memory ++ same i) ++ drop (at + long i) memory) in
      on_true _ _ (is_inside memory (low I32 at + 0) (store_size to)) there
      (subst (λ (e : CallEnd World). q e) (λ i. Comes (0 + 3 + 4 + 2) (with_memory store (sym after i)) (Some ((ap (λ k. at + k) (sym long) ∙ sym next) i))) (h _ (0 + 3 + 4 + 2, omega arith, refl)))
