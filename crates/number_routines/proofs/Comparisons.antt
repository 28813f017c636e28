-- The order of numbers, and whether they are the same.
use Rattle.std.proofs.Common.{◌≡◌, ℕ, ◌+◌, ◌-◌, ◌<◌, ◌≤◌, ◌^◌, [], ◌∷◌, Bool, true, false, not, nat_lt, nat_le, nat_eq, Some, ℤ, pos, negsuc, refl, sym, ap, ◌∙◌, arith}
use Rattle.std.specs.Prelude.{int_lt}
use Rattle.std.specs.Ordering.{int_eq}
use Rattle.std.specs.Bool.{Decides}
use Rattle.std.proofs.lemmas.Bool.Decides.{nat_tests, Decides-int_eq}
use Rattle.mo_num.specs.declared.kind.Kind.{Kind}
use Rattle.mo_num.specs.declared.kind.Kind.TheVariants.{Nat, Int, Nat8, Nat16, Nat32, Nat64, Int8, Int16, Int32, Int64}
use Rattle.mo_num.specs.Kinds.{InRange}
use Rattle.mo_values.specs.declared.operation.Comparison.{Comparison}
use Rattle.mo_values.specs.declared.operation.Comparison.TheVariants.{Less, LessOrEqual, Greater, GreaterOrEqual}
use Rattle.mo_values.specs.Numbers.{compared}
use Rattle.wasm_tree.specs.declared.types.ValueType.TheVariants.{I32, I64}
use Rattle.wasm_tree.specs.declared.op.Comparison as numeric
use Rattle.wasm_tree.specs.declared.op.Comparison.TheVariants.{Eq}
use Rattle.wasm_tree.specs.Numeric.{low, flag, signed, compare}
use Rattle.wasm_tree.specs.Exec.{Store, Host, bits64}
use Rattle.low_ir.specs.declared.op.Operand.TheVariants.{Local}
use Rattle.low_ir.specs.Tree.{Code, Return, Module}
use Rattle.low_rules.specs.Rule.{At, CodeEnd, CallEnd, Comes, Contracts, Before, ends}
use Rattle.number_routines.specs.Codes.{told, signed_test, unsigned_test, test_of, order, sameness}
use Rattle.number_routines.specs.Lines.{long_of, Tells}
use Rattle.number_routines.proofs.Wide.{Wide, long_is, signed_back, bits_small}
use Rattle.number_routines.proofs.Signs.{between_is_wide}
use Rattle.number_routines.proofs.KindRuns.{IsNatural, IsSigned, up_to, none_below, ranged}

as_long : (t : Bool) → low I32 (flag t) ≡ flag t
as_long true = refl
as_long false = refl

signed_order : (o : Comparison) (a b : ℤ) → Wide a → Wide b → compare I64 (signed_test o) (bits64 a) (bits64 b) ≡ flag (compared o (int_lt a b) (int_lt b a))
signed_order Less a b p q = λ i. flag (int_lt (signed_back a p i) (signed_back b q i))
signed_order LessOrEqual a b p q = λ i. flag (not (int_lt (signed_back b q i) (signed_back a p i)))
signed_order Greater a b p q = λ i. flag (int_lt (signed_back b q i) (signed_back a p i))
signed_order GreaterOrEqual a b p q = λ i. flag (not (int_lt (signed_back a p i) (signed_back b q i)))

at_most : (a b : ℕ) → nat_le a b ≡ not (nat_lt b a)
at_most a b = by (nat_le a b) refl
  where
    by : (t : Bool) → nat_le a b ≡ t → nat_le a b ≡ not (nat_lt b a)
    by true e = let no : nat_lt b a ≡ false = grind (arith, nat_tests, e) in e ∙ sym (ap not no)
    by false e = let yes_it : nat_lt b a ≡ true = grind (arith, nat_tests, e) in e ∙ sym (ap not yes_it)

unsigned_order : (o : Comparison) (a b : ℕ) → a < 2 ^ 64 → b < 2 ^ 64 → compare I64 (unsigned_test o) a b ≡ flag (compared o (int_lt (pos a) (pos b)) (int_lt (pos b) (pos a)))
unsigned_order Less a b p q = λ i. flag (nat_lt (long_is a p i) (long_is b q i))
unsigned_order LessOrEqual a b p q = (λ i. flag (nat_le (long_is a p i) (long_is b q i))) ∙ ap flag (at_most a b)
unsigned_order Greater a b p q = λ i. flag (nat_lt (long_is b q i) (long_is a p i))
unsigned_order GreaterOrEqual a b p q = (λ i. flag (nat_le (long_is b q i) (long_is a p i))) ∙ ap flag (at_most b a)

natural_wide : (k : Kind) (most : ℕ) → IsNatural k most → most < 2 ^ 63 → (a : ℤ) → InRange k a → Wide a
natural_wide k most is few (negsuc a) r = absurd (none_below k most is a r)
natural_wide k most is few (pos a) r = let u = up_to k most is a r in omega (arith, u, few)

signed_wide : (k : Kind) (h : ℕ) → IsSigned k h → h ≤ 2 ^ 63 → (a : ℤ) → InRange k a → Wide a
signed_wide k h is few a r = between_is_wide a h few is.some (ranged k h is a r)

order_is : (o : Comparison) (k : Kind) (a b : ℤ) → InRange k a → InRange k b → compare I64 (test_of k o) (bits64 a) (bits64 b) ≡ flag (compared o (int_lt a b) (int_lt b a))
order_is o Nat a b r s = signed_order o a b (natural_wide Nat (2 ^ 63 - 1) (record { first = refl; last = refl }) (omega arith) a r) (natural_wide Nat (2 ^ 63 - 1) (record { first = refl; last = refl }) (omega arith) b s)
order_is o Int a b r s = signed_order o a b (signed_wide Int (2 ^ 63) (record { first = refl; last = refl; some = omega arith }) (omega arith) a r) (signed_wide Int (2 ^ 63) (record { first = refl; last = refl; some = omega arith }) (omega arith) b s)
order_is o Nat8 a b r s = signed_order o a b (natural_wide Nat8 (2 ^ 8 - 1) (record { first = refl; last = refl }) (omega arith) a r) (natural_wide Nat8 (2 ^ 8 - 1) (record { first = refl; last = refl }) (omega arith) b s)
order_is o Nat16 a b r s = signed_order o a b (natural_wide Nat16 (2 ^ 16 - 1) (record { first = refl; last = refl }) (omega arith) a r) (natural_wide Nat16 (2 ^ 16 - 1) (record { first = refl; last = refl }) (omega arith) b s)
order_is o Nat32 a b r s = signed_order o a b (natural_wide Nat32 (2 ^ 32 - 1) (record { first = refl; last = refl }) (omega arith) a r) (natural_wide Nat32 (2 ^ 32 - 1) (record { first = refl; last = refl }) (omega arith) b s)
order_is o Nat64 (negsuc a) b r s = absurd (none_below Nat64 (2 ^ 64 - 1) (record { first = refl; last = refl }) a r)
order_is o Nat64 (pos a) (negsuc b) r s = absurd (none_below Nat64 (2 ^ 64 - 1) (record { first = refl; last = refl }) b s)
order_is o Nat64 (pos a) (pos b) r s = unsigned_order o a b (let u = up_to Nat64 (2 ^ 64 - 1) (record { first = refl; last = refl }) a r in omega (arith, u)) (let u = up_to Nat64 (2 ^ 64 - 1) (record { first = refl; last = refl }) b s in omega (arith, u))
order_is o Int8 a b r s = signed_order o a b (signed_wide Int8 (2 ^ 7) (record { first = refl; last = refl; some = omega arith }) (omega arith) a r) (signed_wide Int8 (2 ^ 7) (record { first = refl; last = refl; some = omega arith }) (omega arith) b s)
order_is o Int16 a b r s = signed_order o a b (signed_wide Int16 (2 ^ 15) (record { first = refl; last = refl; some = omega arith }) (omega arith) a r) (signed_wide Int16 (2 ^ 15) (record { first = refl; last = refl; some = omega arith }) (omega arith) b s)
order_is o Int32 a b r s = signed_order o a b (signed_wide Int32 (2 ^ 31) (record { first = refl; last = refl; some = omega arith }) (omega arith) a r) (signed_wide Int32 (2 ^ 31) (record { first = refl; last = refl; some = omega arith }) (omega arith) b s)
order_is o Int64 a b r s = signed_order o a b (signed_wide Int64 (2 ^ 63) (record { first = refl; last = refl; some = omega arith }) (omega arith) a r) (signed_wide Int64 (2 ^ 63) (record { first = refl; last = refl; some = omega arith }) (omega arith) b s)

-- Words are the same only of one number.
same_is : (a b : ℤ) → bits64 a < 2 ^ 64 → bits64 b < 2 ^ 64 → (bits64 a ≡ bits64 b → a ≡ b) → compare I64 Eq (bits64 a) (bits64 b) ≡ flag (int_eq a b)
same_is a b p q one = ap flag ((λ i. nat_eq (long_is (bits64 a) p i) (long_is (bits64 b) q i)) ∙ decide (int_eq a b) (Decides-int_eq a b))
  where
    equal_number : (i : ℕ) → nat_eq i i ≡ true
    equal_number i = grind (arith, nat_tests)

    apart : (i j : ℕ) → (i ≡ j → ⊥) → nat_eq i j ≡ false
    apart i j ne = by (nat_eq i j) refl
      where
        same : (i j : ℕ) → nat_eq i j ≡ true → i ≡ j
        same i j e = grind (arith, nat_tests, e)

        by : (t : Bool) → nat_eq i j ≡ t → nat_eq i j ≡ false
        by true e = absurd (ne (same i j e))
        by false e = e

    decide : (t : Bool) → Decides t (a ≡ b) → nat_eq (bits64 a) (bits64 b) ≡ t
    decide true e = ap (λ b. nat_eq (bits64 a) (bits64 b)) (sym (e.0 refl)) ∙ equal_number (bits64 a)
    decide false e = apart (bits64 a) (bits64 b) (λ k. let no : false ≡ true = e.1 (one k) in absurd (cc no))

wide_one : (a b : ℤ) → Wide a → Wide b → bits64 a ≡ bits64 b → a ≡ b
wide_one a b p q e = sym (signed_back a p) ∙ ap (signed I64) e ∙ signed_back b q

sameness_is : (k : Kind) (a b : ℤ) → InRange k a → InRange k b → compare I64 Eq (bits64 a) (bits64 b) ≡ flag (int_eq a b)
sameness_is Nat a b r s = let p : Wide a = natural_wide Nat (2 ^ 63 - 1) (record { first = refl; last = refl }) (omega arith) a r in let q : Wide b = natural_wide Nat (2 ^ 63 - 1) (record { first = refl; last = refl }) (omega arith) b s in same_is a b (bits_small a p) (bits_small b q) (wide_one a b p q)
sameness_is Int a b r s = let p : Wide a = signed_wide Int (2 ^ 63) (record { first = refl; last = refl; some = omega arith }) (omega arith) a r in let q : Wide b = signed_wide Int (2 ^ 63) (record { first = refl; last = refl; some = omega arith }) (omega arith) b s in same_is a b (bits_small a p) (bits_small b q) (wide_one a b p q)
sameness_is Nat8 a b r s = let p : Wide a = natural_wide Nat8 (2 ^ 8 - 1) (record { first = refl; last = refl }) (omega arith) a r in let q : Wide b = natural_wide Nat8 (2 ^ 8 - 1) (record { first = refl; last = refl }) (omega arith) b s in same_is a b (bits_small a p) (bits_small b q) (wide_one a b p q)
sameness_is Nat16 a b r s = let p : Wide a = natural_wide Nat16 (2 ^ 16 - 1) (record { first = refl; last = refl }) (omega arith) a r in let q : Wide b = natural_wide Nat16 (2 ^ 16 - 1) (record { first = refl; last = refl }) (omega arith) b s in same_is a b (bits_small a p) (bits_small b q) (wide_one a b p q)
sameness_is Nat32 a b r s = let p : Wide a = natural_wide Nat32 (2 ^ 32 - 1) (record { first = refl; last = refl }) (omega arith) a r in let q : Wide b = natural_wide Nat32 (2 ^ 32 - 1) (record { first = refl; last = refl }) (omega arith) b s in same_is a b (bits_small a p) (bits_small b q) (wide_one a b p q)
sameness_is Nat64 (negsuc a) b r s = absurd (none_below Nat64 (2 ^ 64 - 1) (record { first = refl; last = refl }) a r)
sameness_is Nat64 (pos a) (negsuc b) r s = absurd (none_below Nat64 (2 ^ 64 - 1) (record { first = refl; last = refl }) b s)
sameness_is Nat64 (pos a) (pos b) r s = same_is (pos a) (pos b) (let u = up_to Nat64 (2 ^ 64 - 1) (record { first = refl; last = refl }) a r in omega (arith, u)) (let u = up_to Nat64 (2 ^ 64 - 1) (record { first = refl; last = refl }) b s in omega (arith, u)) (λ e. ap pos e)
sameness_is Int8 a b r s = let p : Wide a = signed_wide Int8 (2 ^ 7) (record { first = refl; last = refl; some = omega arith }) (omega arith) a r in let q : Wide b = signed_wide Int8 (2 ^ 7) (record { first = refl; last = refl; some = omega arith }) (omega arith) b s in same_is a b (bits_small a p) (bits_small b q) (wide_one a b p q)
sameness_is Int16 a b r s = let p : Wide a = signed_wide Int16 (2 ^ 15) (record { first = refl; last = refl; some = omega arith }) (omega arith) a r in let q : Wide b = signed_wide Int16 (2 ^ 15) (record { first = refl; last = refl; some = omega arith }) (omega arith) b s in same_is a b (bits_small a p) (bits_small b q) (wide_one a b p q)
sameness_is Int32 a b r s = let p : Wide a = signed_wide Int32 (2 ^ 31) (record { first = refl; last = refl; some = omega arith }) (omega arith) a r in let q : Wide b = signed_wide Int32 (2 ^ 31) (record { first = refl; last = refl; some = omega arith }) (omega arith) b s in same_is a b (bits_small a p) (bits_small b q) (wide_one a b p q)
sameness_is Int64 a b r s = let p : Wide a = signed_wide Int64 (2 ^ 63) (record { first = refl; last = refl; some = omega arith }) (omega arith) a r in let q : Wide b = signed_wide Int64 (2 ^ 63) (record { first = refl; last = refl; some = omega arith }) (omega arith) b s in same_is a b (bits_small a p) (bits_small b q) (wide_one a b p q)

module _ {World : Type 0} (pages : ℕ) (m : Module) (host : Host World) (does : Contracts World) (store : Store World) (q : CallEnd World → Type 0) where
  abbrev point : ℕ → ℕ → At World
  point a b = record { spent = 0; store = store; locals = a ∷ b ∷ 0 ∷ 0 ∷ 0 ∷ 0 ∷ 0 ∷ [] }

  abbrev result : Code
  result = Return (Some (Local 2))

  abbrev end : CodeEnd World → Type 0
  end = ends (long_of (I64 ∷ I64 ∷ [])) q

  told_runs : (test : numeric.Comparison) (a b : ℕ) (t : Bool) → compare I64 test a b ≡ flag t → ((end : CallEnd World) → Tells store 60 t end → q end) → Before pages m does (told 2 5 test (Local 0) (Local 1) result) end (point a b)
  told_runs test a b t e then = then (Comes (0 + 4 + 3 + 2) store (Some (low I32 (compare I64 test a b)))) (0 + 4 + 3 + 2, omega arith, ap (λ w. Comes (0 + 4 + 3 + 2) store (Some w)) (ap (low I32) e ∙ as_long t))

  pub order_runs : (o : Comparison) (k : Kind) (a b : ℤ) → InRange k a → InRange k b → ((end : CallEnd World) → Tells store 60 (compared o (int_lt a b) (int_lt b a)) end → q end) → Before pages m does (order 2 5 o k (Local 0) (Local 1) result) end (point (bits64 a) (bits64 b))
  order_runs o k a b r s then = told_runs (test_of k o) (bits64 a) (bits64 b) (compared o (int_lt a b) (int_lt b a)) (order_is o k a b r s) then

  pub sameness_runs : (k : Kind) (a b : ℤ) → InRange k a → InRange k b → ((end : CallEnd World) → Tells store 60 (int_eq a b) end → q end) → Before pages m does (sameness 2 5 (Local 0) (Local 1) result) end (point (bits64 a) (bits64 b))
  sameness_runs k a b r s then = told_runs Eq (bits64 a) (bits64 b) (int_eq a b) (sameness_is k a b r s) then
