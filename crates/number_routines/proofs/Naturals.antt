-- Natural numbers: exact results up to a greatest one, said once for all widths.
use Rattle.std.proofs.Common.{◌≡◌, ℕ, ◌+◌, ◌-◌, ◌*◌, ◌/◌, ◌%◌, ◌<◌, ◌≤◌, ◌^◌, List, [], ◌∷◌, Bool, true, false, nat_lt, nat_le, nat_eq, cond, Some, Result, Ok, Err, ℤ, pos, refl, sym, ap, ◌∙◌, subst, arith}
use Rattle.std.proofs.lemmas.Bool.Decides.{nat_tests}
use Rattle.std.proofs.lemmas.Nat.{mul-le, div-add-mod', le-div}
use Rattle.std.proofs.Math.Nat.{mod-eq_of_lt, add-mod_right}
use native.Mathlib.Nat.{div-le_self}
use Rattle.mo_num.specs.declared.operator.NumTrap.{NumTrap}
use Rattle.mo_num.specs.declared.operator.NumTrap.TheVariants.{Overflow, DivideByZero}
use Rattle.wasm_tree.specs.declared.trap.Trap.{Trap}
use Rattle.wasm_tree.specs.declared.trap.Trap.TheVariants.{DivideByZero as DivideByZeroSo}
use Rattle.wasm_tree.specs.declared.types.ValueType.TheVariants.{I64}
use Rattle.wasm_tree.specs.declared.op.BinaryOperator.{BinaryOperator}
use Rattle.wasm_tree.specs.declared.op.BinaryOperator.TheVariants as binary_op
use Rattle.wasm_tree.specs.Numeric.{low, flag, binary}
use Rattle.wasm_tree.specs.Exec.{Store, Host, bits64}
use Rattle.low_ir.specs.declared.op.Operand.TheVariants.{Local}
use Rattle.low_ir.specs.declared.op.Operation.TheVariants.{Binary}
use Rattle.low_ir.specs.Tree.{Code, Stop, Return, Set, Module}
use Rattle.low_ir.specs.Numbering.{host_trap}
use Rattle.low_rules.specs.Rule.{At, CodeEnd, Stops, CallEnd, Dies, Contracts, after_block, Before, ends}
use Rattle.low_rules.specs.Lines.{host_end}
use Rattle.low_rules.proofs.Steps.{on_ok, on_flag, lt_true, lt_false}
use Rattle.number_routines.specs.declared.places.TrapPlaces.{TrapPlaces}
use Rattle.number_routines.specs.Codes.{natural, wide_sum, less, naturals_divided, wide_product}
use Rattle.number_routines.specs.Lines.{long_of, Answers}
use Rattle.number_routines.proofs.Wide.{long_is}
use Rattle.number_routines.proofs.Runs.{tested, gives, dies}

pub not_zero : (n : ℕ) → nat_eq n 0 ≡ false → 0 < n
not_zero n e = grind (arith, nat_tests, e)

pub is_zero : (n : ℕ) → nat_eq n 0 ≡ true → n ≡ 0
is_zero n e = grind (arith, nat_tests, e)

pub quotient_below : (n d : ℕ) → n / d ≤ n
quotient_below n d = div-le_self n d

-- What is at most a quotient.
pub product_most : (most a b : ℕ) → b ≤ most / a → a * b ≤ most
product_most most a b le =
    let part : b * a ≤ most / a * a = mul-le b a (most / a) a le (omega arith) in
    let whole = div-add-mod' most a in
    let turned : a * b ≡ b * a = omega (arith) in
    omega (arith, part, whole, turned)

pub product_above : (most a b : ℕ) → 0 < a → most / a < b → most < a * b
product_above most a b more lt = by (nat_le (a * b) most) refl
  where
    by : (t : Bool) → nat_le (a * b) most ≡ t → most < a * b
    by true e =
        let le : a * b ≤ most = grind (arith, nat_tests, e) in
        let turned : a * b ≡ b * a = omega (arith) in
        let no : b ≤ most / a = le-div b most a more (omega (arith, le, turned)) in
        absurd (omega (arith, no, lt))
    by false e = grind (arith, nat_tests, e)

module _ {World : Type 0} (pages : ℕ) (m : Module) (host : Host World) (does : Contracts World) (traps : (store : Store World) (args : List ℕ) (q : CallEnd World → Type 0) → q (host_end store (host host_trap args store.memory store.world)) → does host_trap store args q) (at : TrapPlaces) (store : Store World) (q : CallEnd World → Type 0) where
  abbrev point : ℕ → ℕ → ℕ → ℕ → ℕ → ℕ → ℕ → ℕ → At World
  point spent a b r x y c d = record { spent = spent; store = store; locals = a ∷ b ∷ r ∷ x ∷ y ∷ c ∷ d ∷ [] }

  abbrev result : Code
  result = Return (Some (Local 2))

  abbrev end : CodeEnd World → Type 0
  end = ends (long_of (I64 ∷ I64 ∷ [])) q

  stop : (cause : Trap) (spent : ℕ) (store : Store World) → q (Dies cause spent store) → end (Stops cause spent store)
  stop cause spent store k = k

  module _ (a b : ℕ) (answer : Result ℤ NumTrap) (then : (end : CallEnd World) → Answers host at store 60 answer end → q end) where
    abbrev Runs : Code → Type 0
    Runs code = Before pages m does code end (point 0 a b 0 0 0 0 0)

    abbrev within_block : CodeEnd World → Type 0
    within_block = after_block (Before pages m does (Set 2 (Binary I64 binary_op.Mul (Local 0) (Local 1)) result) end) end

    -- the product itself
    multiplied : (spent r c : ℕ) {most : ℕ} → spent ≤ 54 → a * b ≤ most → (a * b ≤ most → answer ≡ Ok (pos (a * b))) → most < 2 ^ 64 → Before pages m does (Set 2 (Binary I64 binary_op.Mul (Local 0) (Local 1)) result) end (point spent a b r 0 0 c 0)
    multiplied spent r c le within fits few = gives pages m host does traps at store 60 answer q then (pos (a * b)) (low I64 (a * b)) (spent + 4 + 2) (fits within) (long_is (a * b) (omega (arith, within, few))) (omega (arith, le))

    pub natural_runs : (o : BinaryOperator) (most n : ℕ) → binary I64 o a b ≡ Ok n → n < 2 ^ 64 → most < 2 ^ 63 → (n ≤ most → answer ≡ Ok (pos n)) → (most < n → answer ≡ Err Overflow) → Runs (natural at 2 3 4 5 6 o (pos most) (Local 0) (Local 1) result)
    natural_runs o most n is small few fits not_fits =
        let test : Bool = nat_lt (low I64 most) (low I64 n) in
        let same : test ≡ nat_lt most n = λ i. nat_lt (long_is most (omega (arith, few)) i) (long_is n small i) in
        on_ok _ _ _ n is
        (tested pages m host does traps at q end stop 5 Overflow result (point (0 + 4 + 4) a b n 0 0 (flag test) 0) test refl
        (λ c. let le : n ≤ most = lt_false most n (sym same ∙ c) in gives pages m host does traps at store 60 answer q then (pos n) n (0 + 4 + 4 + 2 + 2) (fits le) refl (omega arith))
        (λ c. let lt : most < n = lt_true most n (sym same ∙ c) in dies pages m host does traps at store 60 answer q then Overflow (0 + 4 + 4 + 2 + 3 + 0) (not_fits lt) (omega arith)))

    -- a sum of 64 bits
    pub wide_sum_runs : a < 2 ^ 64 → b < 2 ^ 64 → (a + b < 2 ^ 64 → answer ≡ Ok (pos (a + b))) → (2 ^ 64 ≤ a + b → answer ≡ Err Overflow) → Runs (wide_sum at 2 3 4 5 6 (Local 0) (Local 1) result)
    wide_sum_runs la lb fits not_fits =
        let s : ℕ = low I64 (a + b) in
        let test : Bool = nat_lt (low I64 s) (low I64 a) in
        let same : test ≡ nat_lt s a = λ i. nat_lt (long_is s (omega arith) i) (long_is a la i) in
        tested pages m host does traps at q end stop 5 Overflow result (point (0 + 4 + 4) a b s 0 0 (flag test) 0) test refl
        (λ c.
        let le : a ≤ s = lt_false s a (sym same ∙ c) in
        let small : a + b < 2 ^ 64 = omega (arith, le, la, lb) in
        gives pages m host does traps at store 60 answer q then (pos (a + b)) s (0 + 4 + 4 + 2 + 2) (fits small) (long_is (a + b) small) (omega arith))
        (λ c.
        let lt : s < a = lt_true s a (sym same ∙ c) in
        dies pages m host does traps at store 60 answer q then Overflow (0 + 4 + 4 + 2 + 3 + 0) (not_fits (omega (arith, lt, la, lb))) (omega arith))

    -- a difference
    pub less_runs : (t : NumTrap) → a < 2 ^ 64 → b < 2 ^ 64 → (b ≤ a → answer ≡ Ok (pos (a - b))) → (a < b → answer ≡ Err t) → Runs (less at 2 3 4 5 6 t (Local 0) (Local 1) result)
    less_runs t la lb fits not_fits =
        let test : Bool = nat_lt (low I64 a) (low I64 b) in
        let same : test ≡ nat_lt a b = λ i. nat_lt (long_is a la i) (long_is b lb i) in
        tested pages m host does traps at q end stop 5 t (Set 2 (Binary I64 binary_op.Sub (Local 0) (Local 1)) result) (point (0 + 4) a b 0 0 0 (flag test) 0) test refl
        (λ c.
        let le : b ≤ a = lt_false a b (sym same ∙ c) in
        let more : a + 2 ^ 64 - b ≡ a - b + 2 ^ 64 = omega (arith, le) in
        let is : low I64 (low I64 a + 2 ^ 64 - low I64 b) ≡ a - b = (λ i. low I64 (long_is a la i + 2 ^ 64 - long_is b lb i)) ∙ ap (λ n. n % 2 ^ 64) more ∙ add-mod_right (a - b) (2 ^ 64) ∙ mod-eq_of_lt (omega (arith, la)) in
        gives pages m host does traps at store 60 answer q then (pos (a - b)) (low I64 (low I64 a + 2 ^ 64 - low I64 b)) (0 + 4 + 2 + 4 + 2) (fits le) is (omega arith))
        (λ c. dies pages m host does traps at store 60 answer q then t (0 + 4 + 2 + 3 + 0) (not_fits (lt_true a b (sym same ∙ c))) (omega arith))

    -- a division of words by a word that is not 0
    pub divided_runs : (o : BinaryOperator) → b < 2 ^ 64 → (b ≡ 0 → answer ≡ Err DivideByZero) → (0 < b → (n : ℕ) × (z : ℤ) × (binary I64 o a b ≡ Ok n) × (n ≡ bits64 z) × (answer ≡ Ok z)) → Runs (naturals_divided at 2 3 4 5 6 o (Local 0) (Local 1) result)
    divided_runs o lb none some =
        let test : Bool = nat_eq (low I64 b) 0 in
        let same : test ≡ nat_eq b 0 = λ i. nat_eq (long_is b lb i) 0 in
        tested pages m host does traps at q end stop 5 DivideByZero (Set 2 (Binary I64 o (Local 0) (Local 1)) result) (point (0 + 3) a b 0 0 0 (flag test) 0) test refl
        (λ c.
        let more : 0 < b = not_zero b (sym same ∙ c) in
        let r = some more in
        on_ok _ _ _ r.0 r.2 (gives pages m host does traps at store 60 answer q then r.1 r.0 (0 + 3 + 2 + 4 + 2) r.4 r.3 (omega arith)))
        (λ c. dies pages m host does traps at store 60 answer q then DivideByZero (0 + 3 + 2 + 3 + 0) (none (is_zero b (sym same ∙ c))) (omega arith))

    -- a product up to a number of 64 bits
    pub wide_product_runs : (most : ℕ) (word : ℤ) → bits64 word ≡ most → a < 2 ^ 64 → b < 2 ^ 64 → most < 2 ^ 64 → (a * b ≤ most → answer ≡ Ok (pos (a * b))) → (most < a * b → answer ≡ Err Overflow)
        → Runs (wide_product at 2 3 4 5 6 word (Local 0) (Local 1) result)
    wide_product_runs most word same la lb few fits not_fits =
        let none : Bool = nat_eq (low I64 a) 0 in
        let none_is : none ≡ nat_eq a 0 = λ i. nat_eq (long_is a la i) 0 in
        on_flag _ _ none
        (λ c.
        let more : 0 < a = not_zero a (sym none_is ∙ c) in
        let given : low I64 (bits64 word) ≡ most = ap (low I64) same ∙ long_is most few in
        let quotient : binary I64 binary_op.DivU (bits64 word) a ≡ Ok (most / a) = ap (λ t. cond t (Err DivideByZeroSo) (Ok (low I64 (bits64 word) / low I64 a))) c ∙ (λ i. Ok (given i / long_is a la i)) in
        let less_than : most / a < 2 ^ 64 = omega (arith, few, quotient_below most a) in
        let test : Bool = nat_lt (low I64 (most / a)) (low I64 b) in
        let test_is : test ≡ nat_lt (most / a) b = λ i. nat_lt (long_is (most / a) less_than i) (long_is b lb i) in
        on_ok _ _ _ (most / a) quotient
        (tested pages m host does traps at q within_block (λ cause spent store k. k) 5 Overflow Stop (point (0 + 3 + 2 + 4 + 4) a b (most / a) 0 0 (flag test) 0) test refl
        (λ d. let le : b ≤ most / a = lt_false (most / a) b (sym test_is ∙ d) in multiplied (0 + 3 + 2 + 4 + 4 + 2) (most / a) (flag test) (omega arith) (product_most most a b le) fits few)
        (λ d. let lt : most / a < b = lt_true (most / a) b (sym test_is ∙ d) in dies pages m host does traps at store 60 answer q then Overflow (0 + 3 + 2 + 4 + 4 + 2 + 3 + 0) (not_fits (product_above most a b more lt)) (omega arith))))
        (λ c. let e : a ≡ 0 = is_zero a (sym none_is ∙ c) in multiplied (0 + 3 + 2) 0 (flag none) (omega arith) (nothing a b most e) fits few)
      where
        nothing : (a b most : ℕ) → a ≡ 0 → a * b ≤ most
        nothing a b most e = subst (λ a. a * b ≤ most) (sym e) (omega arith)
