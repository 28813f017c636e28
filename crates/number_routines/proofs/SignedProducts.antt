-- Products of numbers of 64 bits with signs.
use Rattle.std.proofs.Common.{◌≡◌, ◌⊎◌, inl, inr, ℕ, suc, ◌+◌, ◌-◌, ◌*◌, ◌/◌, ◌<◌, ◌≤◌, ◌^◌, List, [], ◌∷◌, Bool, true, false, nat_lt, nat_eq, cond, Some, Result, Ok, Err, ℤ, pos, negsuc, ◌*ℤ◌, ◌<ℤ◌, refl, sym, ap, ◌∙◌, subst, arith}
use Rattle.std.specs.Prelude.{int_lt}
use Rattle.std.proofs.lemmas.Int.{ints}
use Rattle.mo_num.specs.declared.operator.NumTrap.{NumTrap}
use Rattle.mo_num.specs.declared.operator.NumTrap.TheVariants.{Overflow}
use Rattle.wasm_tree.specs.declared.trap.Trap.TheVariants.{DivideByZero as NoDivisor}
use Rattle.wasm_tree.specs.declared.types.ValueType.TheVariants.{I32, I64}
use Rattle.wasm_tree.specs.declared.op.Comparison.TheVariants.{Ne}
use Rattle.wasm_tree.specs.declared.op.Conversion.TheVariants.{ExtendU}
use Rattle.wasm_tree.specs.declared.op.BinaryOperator.TheVariants as binary_op
use Rattle.wasm_tree.specs.Numeric.{low, flag, signed, binary}
use Rattle.wasm_tree.specs.Exec.{Store, Host, bits64}
use Rattle.low_ir.specs.declared.op.Operand.TheVariants.{Local, Long}
use Rattle.low_ir.specs.declared.op.Operation.TheVariants.{Copy, Compare, Binary, Convert}
use Rattle.low_ir.specs.Tree.{Code, Stop, Return, Set, If, Module}
use Rattle.low_ir.specs.Numbering.{host_trap}
use Rattle.low_rules.specs.Rule.{At, CodeEnd, CallEnd, Contracts, after_block, Before, ends}
use Rattle.low_rules.specs.Lines.{host_end}
use Rattle.low_rules.proofs.Steps.{on_ok, on_flag, lt_true, lt_false}
use Rattle.number_routines.specs.declared.places.TrapPlaces.{TrapPlaces}
use Rattle.number_routines.specs.Codes.{product_within, signed_product}
use Rattle.number_routines.specs.Lines.{long_of, Answers}
use Rattle.number_routines.proofs.Wide.{Wide, long_is, signed_back}
use Rattle.number_routines.proofs.Signs.{Between, between_is_wide, product_word}
use Rattle.number_routines.proofs.Naturals.{not_zero, is_zero, quotient_below, product_most, product_above}
use Rattle.number_routines.proofs.Runs.{tested, gives, dies}

abbrev pub sign : ℤ → Bool
sign (pos n) = false
sign (negsuc n) = true

pub sign_is : (a : ℤ) → Wide a → int_lt (signed I64 (bits64 a)) (signed I64 0) ≡ sign a
sign_is (pos n) w = ap (λ z. int_lt z (signed I64 0)) (signed_back (pos n) w) ∙ none n
  where
    none : (n : ℕ) → int_lt (pos n) (pos 0) ≡ false
    none n = by (int_lt (pos n) (pos 0)) refl
      where
        by : (t : Bool) → int_lt (pos n) (pos 0) ≡ t → int_lt (pos n) (pos 0) ≡ false
        by true e = absurd (omega (arith, ints, e))
        by false e = e
sign_is (negsuc n) w = ap (λ z. int_lt z (signed I64 0)) (signed_back (negsuc n) w)

-- the size of a negative number
pub size_is : (n : ℕ) → n < 2 ^ 63 → low I64 (low I64 0 + 2 ^ 64 - low I64 (2 ^ 64 - 1 - n)) ≡ suc n
size_is n lt =
    let word : low I64 (2 ^ 64 - 1 - n) ≡ 2 ^ 64 - 1 - n = long_is (2 ^ 64 - 1 - n) (omega arith) in
    let e : 2 ^ 64 - (2 ^ 64 - 1 - n) ≡ suc n = omega (arith, lt) in
    ap (λ k. low I64 (2 ^ 64 - k)) word ∙ ap (low I64) e ∙ long_is (suc n) (omega (arith, lt))

module _ {World : Type 0} (pages : ℕ) (m : Module) (host : Host World) (does : Contracts World) (traps : (store : Store World) (args : List ℕ) (q : CallEnd World → Type 0) → q (host_end store (host host_trap args store.memory store.world)) → does host_trap store args q) (at : TrapPlaces) (store : Store World) (q : CallEnd World → Type 0) where
  abbrev point : ℕ → ℕ → ℕ → ℕ → ℕ → ℕ → ℕ → ℕ → At World
  point spent a b r x y c d = record { spent = spent; store = store; locals = a ∷ b ∷ r ∷ x ∷ y ∷ c ∷ d ∷ [] }

  abbrev result : Code
  result = Return (Some (Local 2))

  abbrev end : CodeEnd World → Type 0
  end = ends (long_of (I64 ∷ I64 ∷ [])) q

  abbrev multiplies : Code
  multiplies = Set 2 (Binary I64 binary_op.Mul (Local 0) (Local 1)) result

  abbrev checks : Code
  checks = product_within at 2 3 4 5 6 (Local 2) (Local 3) (Local 4) multiplies

  -- what follows the tests of the signs
  abbrev sized : Code
  sized =
      Set 3 (Copy (Local 0))
      (If (Local 5) (Set 3 (Binary I64 binary_op.Sub (Long (pos 0)) (Local 0)) Stop) Stop
      (Set 4 (Copy (Local 1))
      (If (Local 6) (Set 4 (Binary I64 binary_op.Sub (Long (pos 0)) (Local 1)) Stop) Stop
      (Set 5 (Compare I32 Ne (Local 5) (Local 6))
      (Set 2 (Convert ExtendU (Local 5))
      (Set 2 (Binary I64 binary_op.Add (Local 2) (Long (pos (2 ^ 63 - 1))))
      checks))))))

  module _ (a b : ℤ) (wa : Wide a) (wb : Wide b) (answer : Result ℤ NumTrap) (then : (end : CallEnd World) → Answers host at store 60 answer end → q end) where
    multiplied : (spent r x y c d : ℕ) → spent ≤ 54 → Wide (a *ℤ b) → answer ≡ Ok (a *ℤ b) → Before pages m does multiplies end (point spent (bits64 a) (bits64 b) r x y c d)
    multiplied spent r x y c d le wide e = gives pages m host does traps at store 60 answer q then (a *ℤ b) (low I64 (bits64 a * bits64 b)) (spent + 4 + 2) e (product_word a b wa wb wide) (omega (arith, le))

    -- the sizes are known, and what their product may be
    checked : (spent most u v c d : ℕ) → spent ≤ 36 → u < 2 ^ 64 → v < 2 ^ 64 → most < 2 ^ 64 → (u * v ≤ most → Wide (a *ℤ b) × (answer ≡ Ok (a *ℤ b))) → (most < u * v → answer ≡ Err Overflow)
        → Before pages m does checks end (point spent (bits64 a) (bits64 b) most u v c d)
    checked spent most u v c d le lu lv few fits not_fits =
        let none : Bool = nat_eq (low I64 u) 0 in
        let none_is : none ≡ nat_eq u 0 = λ i. nat_eq (long_is u lu i) 0 in
        on_flag _ _ none
        (λ e.
        let more : 0 < u = not_zero u (sym none_is ∙ e) in
        let quotient : binary I64 binary_op.DivU most u ≡ Ok (most / u) = ap (λ t. cond t (Err NoDivisor) (Ok (low I64 most / low I64 u))) e ∙ (λ i. Ok (long_is most few i / long_is u lu i)) in
        let less_than : most / u < 2 ^ 64 = omega (arith, few, quotient_below most u) in
        let test : Bool = nat_lt (low I64 (most / u)) (low I64 v) in
        let test_is : test ≡ nat_lt (most / u) v = λ i. nat_lt (long_is (most / u) less_than i) (long_is v lv i) in
        on_ok _ _ _ (most / u) quotient
        (tested pages m host does traps at q (after_block (Before pages m does multiplies end) end) (λ cause spent store k. k) 5 Overflow Stop (point (spent + 3 + 2 + 4 + 4) (bits64 a) (bits64 b) (most / u) u v (flag test) d) test refl
        (λ k. let f = fits (product_most most u v (lt_false (most / u) v (sym test_is ∙ k))) in multiplied (spent + 3 + 2 + 4 + 4 + 2) (most / u) u v (flag test) d (omega (arith, le)) f.0 f.1)
        (λ k. dies pages m host does traps at store 60 answer q then Overflow (spent + 3 + 2 + 4 + 4 + 2 + 3 + 0) (not_fits (product_above most u v more (lt_true (most / u) v (sym test_is ∙ k)))) (omega (arith, le)))))
        (λ e. let f = fits (nothing u v most (is_zero u (sym none_is ∙ e))) in multiplied (spent + 3 + 2) most u v (flag none) d (omega (arith, le)) f.0 f.1)
      where
        nothing : (u v most : ℕ) → u ≡ 0 → u * v ≤ most
        nothing u v most e = subst (λ u. u * v ≤ most) (sym e) (omega arith)

  abbrev Fits : ℤ → ℤ → Result ℤ NumTrap → Type 0
  Fits a b answer = (Between (a *ℤ b) (2 ^ 63) → answer ≡ Ok (a *ℤ b)) × ((pos (2 ^ 63 - 1) <ℤ (a *ℤ b)) ⊎ ((a *ℤ b) <ℤ negsuc (2 ^ 63 - 1)) → answer ≡ Err Overflow)

  sized_runs : (a b : ℤ) → Wide a → Wide b → (answer : Result ℤ NumTrap) → ((end : CallEnd World) → Answers host at store 60 answer end → q end) → Fits a b answer → Before pages m does sized end (point (0 + 4 + 4) (bits64 a) (bits64 b) 0 0 0 (flag (sign a)) (flag (sign b)))
  sized_runs (pos u) (pos v) wa wb answer then f =
      checked (pos u) (pos v) wa wb answer then 27 (2 ^ 63 - 1) u v 0 0 (omega arith) (omega (arith, wa)) (omega (arith, wb)) (omega arith)
      (λ le. (omega (arith, le), f.0 (omega (arith, ints), omega (arith, ints, le)))) (λ lt. f.1 (inl (omega (arith, ints, lt))))
  sized_runs (pos u) (negsuc v) wa wb answer then f =
      subst (λ y. Before pages m does checks end (point 31 u (2 ^ 64 - 1 - v) (2 ^ 63) u y 1 1)) (sym (size_is v wb))
      (checked (pos u) (negsuc v) wa wb answer then 31 (2 ^ 63) u (suc v) 1 1 (omega arith) (omega (arith, wa)) (omega (arith, wb)) (omega arith)
      (λ le. let b : Between (pos u *ℤ negsuc v) (2 ^ 63) = (omega (arith, ints, le), omega (arith, ints)) in (between_is_wide (pos u *ℤ negsuc v) (2 ^ 63) (omega arith) (omega arith) b, f.0 b)) (λ lt. f.1 (inr (omega (arith, ints, lt)))))
  sized_runs (negsuc u) (pos v) wa wb answer then f =
      subst (λ x. Before pages m does checks end (point 31 (2 ^ 64 - 1 - u) v (2 ^ 63) x v 1 0)) (sym (size_is u wa))
      (checked (negsuc u) (pos v) wa wb answer then 31 (2 ^ 63) (suc u) v 1 0 (omega arith) (omega (arith, wa)) (omega (arith, wb)) (omega arith)
      (λ le. let b : Between (negsuc u *ℤ pos v) (2 ^ 63) = (omega (arith, ints, le), omega (arith, ints)) in (between_is_wide (negsuc u *ℤ pos v) (2 ^ 63) (omega arith) (omega arith) b, f.0 b)) (λ lt. f.1 (inr (omega (arith, ints, lt)))))
  sized_runs (negsuc u) (negsuc v) wa wb answer then f =
      subst (λ x. Before pages m does checks end (point 35 (2 ^ 64 - 1 - u) (2 ^ 64 - 1 - v) (2 ^ 63 - 1) x (low I64 (low I64 0 + 2 ^ 64 - low I64 (2 ^ 64 - 1 - v))) 0 1)) (sym (size_is u wa))
      (subst (λ y. Before pages m does checks end (point 35 (2 ^ 64 - 1 - u) (2 ^ 64 - 1 - v) (2 ^ 63 - 1) (suc u) y 0 1)) (sym (size_is v wb))
      (checked (negsuc u) (negsuc v) wa wb answer then 35 (2 ^ 63 - 1) (suc u) (suc v) 0 1 (omega arith) (omega (arith, wa)) (omega (arith, wb)) (omega arith)
      (λ le. (omega (arith, le), f.0 (omega (arith, ints), omega (arith, ints, le)))) (λ lt. f.1 (inl (omega (arith, ints, lt))))))

  pub signed_product_runs : (a b : ℤ) → Wide a → Wide b → (answer : Result ℤ NumTrap) → ((end : CallEnd World) → Answers host at store 60 answer end → q end) → Fits a b answer
      → Before pages m does (signed_product at 2 3 4 5 6 (Local 0) (Local 1) result) end (point 0 (bits64 a) (bits64 b) 0 0 0 0 0)
  signed_product_runs a b wa wb answer then f =
      subst (λ s. Before pages m does sized end (point (0 + 4 + 4) (bits64 a) (bits64 b) 0 0 0 (flag s) (flag (int_lt (signed I64 (bits64 b)) (signed I64 0))))) (sym (sign_is a wa))
      (subst (λ t. Before pages m does sized end (point (0 + 4 + 4) (bits64 a) (bits64 b) 0 0 0 (flag (sign a)) (flag t))) (sym (sign_is b wb)) (sized_runs a b wa wb answer then f))
