-- Powers by squaring.
use Rattle.std.proofs.Common.{◌≡◌, ◌⊎◌, inl, inr, ℕ, zero, suc, ◌+◌, ◌*◌, ◌/◌, ◌%◌, ◌<◌, ◌≤◌, ◌^◌, List, [], ◌∷◌, Bool, nat_lt, nat_eq, cond, Ok, Err, bit_and, refl, sym, ap, ◌∙◌, subst, arith}
use Rattle.std.proofs.lemmas.Nat.{and_mask, mul-le, mul-pow, pow-add}
use Rattle.std.proofs.Math.Nat.{pow-suc, pow-zero, pow-le-pow_right, mul_assoc}
use Rattle.mo_num.specs.declared.operator.NumTrap.TheVariants.{Overflow}
use Rattle.wasm_tree.specs.declared.trap.Trap.{Trap}
use Rattle.wasm_tree.specs.declared.trap.Trap.TheVariants.{DivideByZero as NoDivisor}
use Rattle.wasm_tree.specs.declared.types.ValueType.TheVariants.{I32, I64}
use Rattle.wasm_tree.specs.declared.op.BinaryOperator.TheVariants as binary_op
use Rattle.wasm_tree.specs.Numeric.{low, flag, binary}
use Rattle.wasm_tree.specs.Exec.{Store, Host}
use Rattle.low_ir.specs.declared.op.Operand.TheVariants.{Local}
use Rattle.low_ir.specs.declared.op.Operation.TheVariants.{IsZero, Binary}
use Rattle.low_ir.specs.Tree.{Code, Stop, Branch, Set, If, BranchIf, Module}
use Rattle.low_ir.specs.Numbering.{host_trap}
use Rattle.low_rules.specs.Rule.{At, CodeEnd, Stops, CallEnd, Dies, Contracts, after_block, after_turn, Within, Before}
use Rattle.low_rules.specs.Lines.{host_end}
use Rattle.low_rules.proofs.Steps.{on_ok, on_flag, lt_true, lt_false}
use Rattle.heap_layout.specs.Endings.{trap_end}
use Rattle.number_routines.specs.declared.places.TrapPlaces.{TrapPlaces}
use Rattle.number_routines.specs.Codes.{product_within}
use Rattle.number_routines.specs.Powers.{squares, multiplies, digit, raised}
use Rattle.number_routines.proofs.Wide.{long_is}
use Rattle.number_routines.proofs.Naturals.{not_zero, is_zero, quotient_below, product_most, product_above}
use Rattle.number_routines.proofs.Runs.{told, tested}

-- ---- powers

-- a base of 0, or a factor of 1 at least
abbrev Alive : ℕ → ℕ → Type 0
Alive x r = (x ≡ 0) ⊎ (1 ≤ r)

some_factor : (a b : ℕ) → 0 < a * b → (1 ≤ a) × (1 ≤ b)
some_factor zero b h = absurd (omega (arith, h))
some_factor (suc a) zero h = absurd (omega (arith, h))
some_factor (suc a) (suc b) h = (omega arith, omega arith)

first_power : (x : ℕ) → x ^ 1 ≡ x
first_power x = pow-suc x 0 ∙ ap (λ k. k * x) (pow-zero x) ∙ omega arith

grows : (x n : ℕ) → 1 ≤ x → 1 ≤ n → x ≤ x ^ n
grows x n more some = let h : x ^ 1 ≤ x ^ n = pow-le-pow_right more some in omega (arith, h, first_power x)

-- More than the bound is left, where a factor already is too large.
odd_over : (y r x n : ℕ) → 1 ≤ n → y < r * x → y < r * x ^ n
odd_over y r x n some over =
    let f = some_factor r x (omega (arith, over)) in
    let h : r * x ≤ r * x ^ n = mul-le r x r (x ^ n) (omega arith) (grows x n f.1 some) in
    omega (arith, h, over)

odd_step : (r x m : ℕ) → r * x ^ (2 * m + 1) ≡ r * x * x ^ (2 * m)
odd_step r x m =
    let next : 2 * m + 1 ≡ suc (2 * m) = omega arith in
    let turned : x ^ (2 * m) * x ≡ x * x ^ (2 * m) = omega arith in
    ap (λ k. r * x ^ k) next ∙ ap (λ k. r * k) (pow-suc x (2 * m)) ∙ ap (λ k. r * k) turned ∙ sym (mul_assoc r x (x ^ (2 * m)))

square_step : (x m : ℕ) → x ^ (2 * m) ≡ (x * x) ^ m
square_step x m = let twice : 2 * m ≡ m + m = omega arith in ap (λ k. x ^ k) twice ∙ pow-add x m m ∙ sym (mul-pow x x m)

square_over : (y r x m : ℕ) → 1 ≤ m → Alive x r → y < x * x → y < r * (x * x) ^ m
square_over y r x m some (inl none) over = let e : x * x ≡ 0 = subst (λ x. x * x ≡ 0) (sym none) (omega arith) in absurd (omega (arith, e, over))
square_over y r x m some (inr factor) over =
    let f = grows (x * x) m (omega (arith, over)) some in
    let h : 1 * (x * x) ≤ r * (x * x) ^ m = mul-le 1 (x * x) r ((x * x) ^ m) factor f in
    omega (arith, h, over)

alive_product : (r x : ℕ) → Alive x r → Alive x (r * x)
alive_product r zero h = inl refl
alive_product r (suc x) (inl e) = absurd (omega (arith, e))
alive_product r (suc x) (inr h) = let k : 1 * 1 ≤ r * suc x = mul-le 1 1 r (suc x) h (omega arith) in inr (omega (arith, k))

alive_square : (r x : ℕ) → Alive x r → Alive (x * x) r
alive_square r x (inl e) = inl (subst (λ x. x * x ≡ 0) (sym e) (omega arith))
alive_square r x (inr h) = inr h

pub two_cases : (v : ℕ) → v < 2 → (v ≡ 0) ⊎ (v ≡ 1)
two_cases zero h = inl refl
two_cases (suc zero) h = inr refl
two_cases (suc (suc v)) h = absurd (omega (arith, h))

no_more : (n : ℕ) → 1 ≤ n → n < 2 ^ 0 → ⊥
no_more n some few = omega (arith, some, few)

halved : (n k : ℕ) → n < 2 ^ suc k → n / 2 < 2 ^ k
halved n k h = let e = pow-suc 2 k in omega (arith, h, e)

-- the code behind the halving
abbrev tests : TrapPlaces → Code
tests at = Set 5 (IsZero I64 (Local 1)) (BranchIf (Local 5) 1 (product_within at 0 3 4 5 6 (Local 4) (Local 3) (Local 3) (Set 3 (Binary I64 binary_op.Mul (Local 3) (Local 3)) (Branch 0))))

module _ {World : Type 0} (pages : ℕ) (m : Module) (host : Host World) (does : Contracts World) (traps : (store : Store World) (args : List ℕ) (q : CallEnd World → Type 0) → q (host_end store (host host_trap args store.memory store.world)) → does host_trap store args q) (at : TrapPlaces) (store : Store World) (q : CallEnd World → Type 0) where
  abbrev point : ℕ → ℕ → ℕ → ℕ → ℕ → ℕ → ℕ → ℕ → At World
  point spent z n r x y c d = record { spent = spent; store = store; locals = z ∷ n ∷ r ∷ x ∷ y ∷ c ∷ d ∷ [] }

  abbrev Dying : ℕ → Type 0
  Dying limit = (cost : ℕ) → cost ≤ limit → q (trap_end store cost (told pages m host does traps at Overflow store))

  bounded : (p : CodeEnd World → Type 0) → ((cause : Trap) (spent : ℕ) (store : Store World) → q (Dies cause spent store) → p (Stops cause spent store)) → (limit : ℕ) (rest : Code) (spent z n r x y c d : ℕ) → r < 2 ^ 64 → x < 2 ^ 64 → y < 2 ^ 64 → spent + 18 ≤ limit
      → (y < r * x → Dying limit) → (r * x ≤ y → (spent' z' c' : ℕ) → spent' ≤ spent + 15 → Before pages m does rest p (point spent' z' n r x y c' d))
      → Before pages m does (product_within at 0 3 4 5 6 (Local 4) (Local 2) (Local 3) rest) p (point spent z n r x y c d)
  bounded p stops limit rest spent z n r x y c d lu lv few enough over under =
      let none : Bool = nat_eq (low I64 r) 0 in
      let none_is : none ≡ nat_eq r 0 = λ i. nat_eq (long_is r lu i) 0 in
      on_flag _ _ none
      (λ e.
      let more : 0 < r = not_zero r (sym none_is ∙ e) in
      let quotient : binary I64 binary_op.DivU y r ≡ Ok (y / r) = ap (λ t. cond t (Err NoDivisor) (Ok (low I64 y / low I64 r))) e ∙ (λ i. Ok (long_is y few i / long_is r lu i)) in
      let less_than : y / r < 2 ^ 64 = let b = quotient_below y r in omega (arith, few, b) in
      let test : Bool = nat_lt (low I64 (y / r)) (low I64 x) in
      let test_is : test ≡ nat_lt (y / r) x = λ i. nat_lt (long_is (y / r) less_than i) (long_is x lv i) in
      on_ok _ _ _ (y / r) quotient
      (tested pages m host does traps at q (after_block (Before pages m does rest p) p) stops 5 Overflow Stop (point (spent + 3 + 2 + 4 + 4) (y / r) n r x y (flag test) d) test refl
      (λ k. under (product_most y r x (lt_false (y / r) x (sym test_is ∙ k))) (spent + 3 + 2 + 4 + 4 + 2) (y / r) (flag test) (omega arith))
      (λ k. over (product_above y r x more (lt_true (y / r) x (sym test_is ∙ k))) (spent + 3 + 2 + 4 + 4 + 2 + 3 + 0) (omega (arith, enough)))))
      (λ e. under (nothing r x y (is_zero r (sym none_is ∙ e))) (spent + 3 + 2) z (flag none) (omega arith))
    where
      nothing : (u v y : ℕ) → u ≡ 0 → u * v ≤ y
      nothing u v y e = subst (λ u. u * v ≤ y) (sym e) (omega arith)

  bounded_square : (p : CodeEnd World → Type 0) → ((cause : Trap) (spent : ℕ) (store : Store World) → q (Dies cause spent store) → p (Stops cause spent store)) → (limit : ℕ) (rest : Code) (spent z n r x y c d : ℕ) → x < 2 ^ 64 → x < 2 ^ 64 → y < 2 ^ 64 → spent + 18 ≤ limit
      → (y < x * x → Dying limit) → (x * x ≤ y → (spent' z' c' : ℕ) → spent' ≤ spent + 15 → Before pages m does rest p (point spent' z' n r x y c' d))
      → Before pages m does (product_within at 0 3 4 5 6 (Local 4) (Local 3) (Local 3) rest) p (point spent z n r x y c d)
  bounded_square p stops limit rest spent z n r x y c d lu lv few enough over under =
      let none : Bool = nat_eq (low I64 x) 0 in
      let none_is : none ≡ nat_eq x 0 = λ i. nat_eq (long_is x lu i) 0 in
      on_flag _ _ none
      (λ e.
      let more : 0 < x = not_zero x (sym none_is ∙ e) in
      let quotient : binary I64 binary_op.DivU y x ≡ Ok (y / x) = ap (λ t. cond t (Err NoDivisor) (Ok (low I64 y / low I64 x))) e ∙ (λ i. Ok (long_is y few i / long_is x lu i)) in
      let less_than : y / x < 2 ^ 64 = let b = quotient_below y x in omega (arith, few, b) in
      let test : Bool = nat_lt (low I64 (y / x)) (low I64 x) in
      let test_is : test ≡ nat_lt (y / x) x = λ i. nat_lt (long_is (y / x) less_than i) (long_is x lv i) in
      on_ok _ _ _ (y / x) quotient
      (tested pages m host does traps at q (after_block (Before pages m does rest p) p) stops 5 Overflow Stop (point (spent + 3 + 2 + 4 + 4) (y / x) n r x y (flag test) d) test refl
      (λ k. under (product_most y x x (lt_false (y / x) x (sym test_is ∙ k))) (spent + 3 + 2 + 4 + 4 + 2) (y / x) (flag test) (omega arith))
      (λ k. over (product_above y x x more (lt_true (y / x) x (sym test_is ∙ k))) (spent + 3 + 2 + 4 + 4 + 2 + 3 + 0) (omega (arith, enough)))))
      (λ e. under (nothing x x y (is_zero x (sym none_is ∙ e))) (spent + 3 + 2) z (flag none) (omega arith))
    where
      nothing : (u v y : ℕ) → u ≡ 0 → u * v ≤ y
      nothing u v y e = subst (λ u. u * v ≤ y) (sym e) (omega arith)

  -- The loop, where a greatest result y and the power that is asked for are known, and what is owed where it is made.
  module _ (p : CodeEnd World → Type 0) (stops : (cause : Trap) (spent : ℕ) (store : Store World) → q (Dies cause spent store) → p (Stops cause spent store)) (rest : Code) (limit y d power : ℕ) (few : y < 2 ^ 64) (over : y < power → Dying limit)
      (out : power ≤ y → (spent z n x c : ℕ) → spent ≤ limit → Before pages m does rest p (point spent z n power x y c d)) where
    abbrev inside : CodeEnd World → Type 0
    inside = after_block (Before pages m does rest p) p

    abbrev around : CodeEnd World → Type 0
    around = after_block (Before pages m does Stop inside) inside

    abbrev Again : ℕ → At World → Type 0
    Again k h = Within k (Before pages m does (digit at)) around h

    abbrev then : ℕ → CodeEnd World → Type 0
    then k = after_turn (Again k) around

    abbrev Goes : ℕ → Type 0
    Goes k = (n r x z c spent : ℕ) → 1 ≤ n → n < 2 ^ k → n < 2 ^ 64 → r ≤ y → x < 2 ^ 64 → r * x ^ n ≡ power → Alive x r → spent + 58 * k ≤ limit → Again k (point spent z n r x y c d)

    -- a square, where the exponent was halved
    next : (k : ℕ) → Goes k → (n r x z c spent : ℕ) → 1 ≤ n → n < 2 ^ suc k → n < 2 ^ 64 → r ≤ y → x < 2 ^ 64 → r * x ^ (2 * (n / 2)) ≡ power → Alive x r → spent + 29 + 58 * k ≤ limit → Before pages m does (squares at) (then k) (point spent z n r x y c d)
    next k goes n r x z c spent some small word lr lx is alive enough =
        let half : low I64 n / 2 ≡ n / 2 = ap (λ n. n / 2) (long_is n word) in
        subst (λ v. Before pages m does (tests at) (then k) (point (spent + 4) z v r x y c d)) (sym half)
        (let m' : ℕ = n / 2 in
        let less : m' < 2 ^ 64 = omega (arith, word) in
        let done : Bool = nat_eq (low I64 m') 0 in
        let done_is : done ≡ nat_eq m' 0 = λ i. nat_eq (long_is m' less i) 0 in
        on_flag _ _ done
        (λ e.
        let more : 1 ≤ m' = not_zero m' (sym done_is ∙ e) in
        let again : r * (x * x) ^ m' ≡ power = ap (λ k. r * k) (sym (square_step x m')) ∙ is in
        bounded_square (then k) stops limit (Set 3 (Binary I64 binary_op.Mul (Local 3) (Local 3)) (Branch 0)) (spent + 4 + 3 + 2) z m' r x y (flag done) d (omega (arith, lx, few)) (omega (arith, lx, few)) few (omega (arith, enough))
        (λ too. over (subst (λ n. y < n) again (square_over y r x m' more alive too)))
        (λ le spent' z' c' cheap.
        let square : low I64 (x * x) ≡ x * x = long_is (x * x) (omega (arith, le, few)) in
        subst (λ v. Again k (point (spent' + 4 + 1) z' m' r v y c' d)) (sym square)
        (goes m' r (x * x) z' c' (spent' + 4 + 1) more (halved n k small) less lr (omega (arith, le, few)) again (alive_square r x alive) (omega (arith, cheap, enough)))))
        (λ e.
        let last : m' ≡ 0 = is_zero m' (sym done_is ∙ e) in
        let whole : r ≡ power = sym (one_factor r x) ∙ ap (λ k. r * x ^ (2 * k)) (sym last) ∙ is in
        subst (λ v. Before pages m does rest p (point (spent + 4 + 3 + 2) z m' v x y (flag done) d)) (sym whole)
        (out (subst (λ n. n ≤ y) whole lr) (spent + 4 + 3 + 2) z m' x (flag done) (omega (arith, enough)))))
      where
        one_factor : (r x : ℕ) → r * x ^ (2 * 0) ≡ r
        one_factor r x = ap (λ k. r * k) (pow-zero x) ∙ omega arith

    -- one digit, where those before it are known
    one : (k : ℕ) → Goes k → Goes (suc k)
    one k goes n r x z c spent some small word lr lx is alive enough =
        let bit : bit_and (low I64 n) (low I64 1) ≡ n % 2 = ap (λ n. bit_and n 1) (long_is n word) ∙ and_mask n 1 in
        subst (λ v. Before pages m does (If (Local 5) (multiplies at) Stop (squares at)) (then k) (point (spent + 1 + 4 + 3) v n r x y (low I32 v) d)) (sym bit) (by (n % 2) refl (two_cases (n % 2) (omega arith)))
      where
        even : n % 2 ≡ 0 → r * x ^ (2 * (n / 2)) ≡ power
        even e = let whole : 2 * (n / 2) ≡ n = omega (arith, e) in ap (λ k. r * x ^ k) whole ∙ is

        odd : n % 2 ≡ 1 → r * x * x ^ (2 * (n / 2)) ≡ power
        odd e = let whole : 2 * (n / 2) + 1 ≡ n = omega (arith, e) in sym (odd_step r x (n / 2)) ∙ ap (λ k. r * x ^ k) whole ∙ is

        first : n % 2 ≡ 0 → Before pages m does (If (Local 5) (multiplies at) Stop (squares at)) (then k) (point (spent + 1 + 4 + 3) 0 n r x y 0 d)
        first e = next k goes n r x 0 0 (spent + 1 + 4 + 3 + 2) some small word lr lx (even e) alive (omega (arith, enough))

        second : n % 2 ≡ 1 → Before pages m does (If (Local 5) (multiplies at) Stop (squares at)) (then k) (point (spent + 1 + 4 + 3) 1 n r x y 1 d)
        second e =
            bounded (after_block (Before pages m does (squares at) (then k)) (then k)) stops limit (Set 2 (Binary I64 binary_op.Mul (Local 2) (Local 3)) Stop) (spent + 1 + 4 + 3 + 2) 1 n r x y 1 d (omega (arith, lr, few)) (omega (arith, lx, few)) few (omega (arith, enough))
            (λ too. over (subst (λ n. y < n) is (odd_over y r x n some too)))
            (λ le spent' z' c' cheap.
            let product : low I64 (r * x) ≡ r * x = long_is (r * x) (omega (arith, le, few)) in
            subst (λ v. Before pages m does (squares at) (then k) (point (spent' + 4) z' n v x y c' d)) (sym product)
            (next k goes n (r * x) x z' c' (spent' + 4) some small word le lx (odd e) (alive_product r x alive) (omega (arith, cheap, enough))))

        by : (v : ℕ) → n % 2 ≡ v → (v ≡ 0) ⊎ (v ≡ 1) → Before pages m does (If (Local 5) (multiplies at) Stop (squares at)) (then k) (point (spent + 1 + 4 + 3) v n r x y (low I32 v) d)
        by v e (inl z) = subst (λ v. Before pages m does (If (Local 5) (multiplies at) Stop (squares at)) (then k) (point (spent + 1 + 4 + 3) v n r x y (low I32 v) d)) (sym z) (first (e ∙ z))
        by v e (inr z) = subst (λ v. Before pages m does (If (Local 5) (multiplies at) Stop (squares at)) (then k) (point (spent + 1 + 4 + 3) v n r x y (low I32 v) d)) (sym z) (second (e ∙ z))

    turns : (k : ℕ) → Goes k
    turns zero n r x z c spent some small word lr lx is alive enough = absurd (no_more n some small)
    turns (suc k) n r x z c spent some small word lr lx is alive enough = one k (turns k) n r x z c spent some small word lr lx is alive enough

    -- the whole, from the base's size and the exponent
    pub raised_runs : (spent z n r x c : ℕ) → n < 2 ^ 64 → x < 2 ^ 64 → 1 ≤ y → x ^ n ≡ power → spent + 58 * 64 + 20 ≤ limit → Before pages m does (raised at rest) p (point spent z n r x y c d)
    raised_runs spent z n r x c word lx most is enough =
        let none : Bool = nat_eq (low I64 n) 0 in
        let none_is : none ≡ nat_eq n 0 = λ i. nat_eq (long_is n word i) 0 in
        on_flag _ _ none
        (λ e. (64, turns 64 n 1 x z (flag none) (spent + 2 + 1 + 3 + 2) (not_zero n (sym none_is ∙ e)) word word most lx (let k : 1 * x ^ n ≡ x ^ n = omega arith in k ∙ is) (inr (omega arith)) (omega (arith, enough))))
        (λ e.
        let zero_power : n ≡ 0 = is_zero n (sym none_is ∙ e) in
        let one : 1 ≡ power = sym (pow-zero x) ∙ ap (λ k. x ^ k) (sym zero_power) ∙ is in
        subst (λ v. Before pages m does rest p (point (spent + 2 + 1 + 3 + 2) z n v x y (flag none) d)) (sym one)
        (out (subst (λ n. n ≤ y) one most) (spent + 2 + 1 + 3 + 2) z n x (flag none) (omega (arith, enough))))
