-- Arithmetic at a kind, by the form of its range.
use Rattle.std.proofs.Common.{◌≡◌, ◌⊎◌, inl, inr, ℕ, zero, suc, ◌+◌, ◌-◌, ◌*◌, ◌/◌, ◌%◌, ◌<◌, ◌≤◌, ◌^◌, List, [], ◌∷◌, false, nat_eq, cond, Some, Result, Ok, Err, ℤ, pos, negsuc, ◌+ℤ◌, ◌-ℤ◌, ◌*ℤ◌, ◌<ℤ◌, refl, sym, ap, ◌∙◌, subst, arith}
use Rattle.std.specs.Prelude.{int_div, int_rem, unsigned_abs}
use Rattle.std.specs.Int.{w64}
use Rattle.std.proofs.lemmas.Bool.Decides.{nat_tests}
use Rattle.std.proofs.lemmas.Int.{ints, fits_signed_mul}
use Rattle.std.proofs.lemmas.Nat.{mul-le, div-add-mod'}
use native.Mathlib.Nat.{div-le_self}
use mir.Val.{SFits}
use Rattle.mo_num.specs.declared.kind.Kind.{Kind}
use Rattle.mo_num.specs.declared.operator.Operator.TheVariants as operator
use Rattle.mo_num.specs.declared.operator.NumTrap.{NumTrap}
use Rattle.mo_num.specs.declared.operator.NumTrap.TheVariants.{Overflow, DivideByZero}
use Rattle.mo_num.specs.Kinds.{least, greatest, InRange}
use Rattle.mo_num.specs.Arith.{Arith, within, below, divided}
use Rattle.wasm_tree.specs.declared.trap.Trap.TheVariants.{DivideByZero as NoDivisor}
use Rattle.wasm_tree.specs.declared.types.ValueType.TheVariants.{I64}
use Rattle.wasm_tree.specs.declared.op.BinaryOperator.TheVariants as binary_op
use Rattle.wasm_tree.specs.Numeric.{low, binary}
use Rattle.wasm_tree.specs.Exec.{Store, Host, bits64}
use Rattle.low_ir.specs.declared.op.Operand.TheVariants.{Local}
use Rattle.low_ir.specs.Tree.{Code, Return, Module}
use Rattle.low_ir.specs.Numbering.{host_trap}
use Rattle.low_rules.specs.Rule.{At, CodeEnd, CallEnd, Contracts, Before, ends}
use Rattle.low_rules.specs.Lines.{host_end}
use Rattle.number_routines.specs.declared.places.TrapPlaces.{TrapPlaces}
use Rattle.number_routines.specs.Codes.{natural, narrow, wide_sum, signed_sum, signed_difference, less, wide_product, naturals_divided, signed_quotient, signed_product}
use Rattle.number_routines.specs.Lines.{long_of, Answers}
use Rattle.number_routines.proofs.Wide.{Wide, long_is, bits_small, wide_between, between_wide, within_range, within_above, within_under}
use Rattle.number_routines.proofs.Turns.{turned_exact, sum_turned, difference_word}
use Rattle.number_routines.proofs.Signs.{Between, between_is_wide, zero_word, remainder_between, remainder_word, product_word}
use Rattle.number_routines.proofs.Naturals.{natural_runs, wide_sum_runs, less_runs, divided_runs, wide_product_runs}
use Rattle.number_routines.proofs.SignedProducts.{signed_product_runs}
use Rattle.number_routines.proofs.SignedRuns.{narrow_runs, signed_sum_runs, signed_difference_runs, signed_quotient_runs}

-- The kind has the natural numbers up to one.
pub record IsNatural (k : Kind) (most : ℕ) : Type 0 where
  pub first : least k ≡ pos 0
  pub last : greatest k ≡ pos most

-- The kind has so many numbers below 0, and as many others.
pub record IsSigned (k : Kind) (h : ℕ) : Type 0 where
  pub first : least k ≡ negsuc (h - 1)
  pub last : greatest k ≡ pos (h - 1)
  pub some : 0 < h

module _ (k : Kind) (most : ℕ) (is : IsNatural k most) where
  pub up_to : (a : ℕ) → InRange k (pos a) → a ≤ most
  up_to a r = let hi = r.1 in let e = is.last in omega (arith, ints, hi, e)

  pub none_below : (a : ℕ) → InRange k (negsuc a) → ⊥
  none_below a r = let lo = r.0 in let e = is.first in omega (arith, ints, lo, e)

  pub natural_fits : (t : NumTrap) (n : ℕ) → n ≤ most → within k t (pos n) ≡ Ok (pos n)
  natural_fits t n le = let e = is.first in let f = is.last in within_range k t (pos n) (omega (arith, ints, e)) (omega (arith, ints, f, le))

  pub natural_over : (t : NumTrap) (n : ℕ) → most < n → within k t (pos n) ≡ Err t
  natural_over t n lt = let f = is.last in within_above k t (pos n) (omega (arith, ints, f, lt))

  pub natural_under : (t : NumTrap) (z : ℤ) → z <ℤ pos 0 → within k t z ≡ Err t
  natural_under t z lt = let e = is.first in within_under k t z (omega (arith, ints, e, lt))

module _ (k : Kind) (h : ℕ) (is : IsSigned k h) where
  pub ranged : (a : ℤ) → InRange k a → Between a h
  ranged a r = let lo = r.0 in let hi = r.1 in let e = is.first in let f = is.last in (omega (arith, ints, lo, e), omega (arith, ints, hi, f))

  pub signed_fits : (t : NumTrap) (z : ℤ) → Between z h → within k t z ≡ Ok z
  signed_fits t z b = let lo = b.0 in let hi = b.1 in let e = is.first in let f = is.last in within_range k t z (omega (arith, ints, lo, e)) (omega (arith, ints, hi, f))

  pub signed_out : (t : NumTrap) (z : ℤ) → (pos (h - 1) <ℤ z) ⊎ (z <ℤ negsuc (h - 1)) → within k t z ≡ Err t
  signed_out t z (inl o) = let f = is.last in within_above k t z (omega (arith, ints, o, f))
  signed_out t z (inr o) = let e = is.first in within_under k t z (omega (arith, ints, o, e))

wide_of_fits : (z : ℤ) → SFits w64 z → Wide z
wide_of_fits (pos n) f = f.sfits
wide_of_fits (negsuc n) f = f.sfits

abs_below : (a : ℤ) (h : ℕ) → 0 < h → Between a h → unsigned_abs a ≤ h
abs_below (pos n) h more b = let k = b.1 in omega (arith, ints, k)
abs_below (negsuc n) h more b = let k = b.0 in omega (arith, ints, k, more)

divided_other : (b : ℤ) (answer : Result ℤ NumTrap) → (b ≡ pos 0 → ⊥) → divided b answer ≡ answer
divided_other (pos zero) answer ne = absurd (ne refl)
divided_other (pos (suc n)) answer ne = refl
divided_other (negsuc n) answer ne = refl

not_zero : (n : ℕ) → 0 < n → nat_eq n 0 ≡ false
not_zero n lt = grind (arith, nat_tests)

quotient_of : (a b : ℕ) → 0 < b → a < 2 ^ 64 → b < 2 ^ 64 → binary I64 binary_op.DivU a b ≡ Ok (a / b)
quotient_of a b more la lb = ap (λ t. cond t (Err NoDivisor) (Ok (low I64 a / low I64 b))) (not_zero (low I64 b) (subst (λ n. 0 < n) (sym (long_is b lb)) more)) ∙ (λ i. Ok (long_is a la i / long_is b lb i))

remainder_of : (a b : ℕ) → 0 < b → a < 2 ^ 64 → b < 2 ^ 64 → binary I64 binary_op.RemU a b ≡ Ok (a % b)
remainder_of a b more la lb = ap (λ t. cond t (Err NoDivisor) (Ok (low I64 a % low I64 b))) (not_zero (low I64 b) (subst (λ n. 0 < n) (sym (long_is b lb)) more)) ∙ (λ i. Ok (long_is a la i % long_is b lb i))

module _ {World : Type 0} (pages : ℕ) (m : Module) (host : Host World) (does : Contracts World) (traps : (store : Store World) (args : List ℕ) (q : CallEnd World → Type 0) → q (host_end store (host host_trap args store.memory store.world)) → does host_trap store args q) (at : TrapPlaces) (store : Store World) (q : CallEnd World → Type 0) where
  abbrev point : ℕ → ℕ → At World
  point a b = record { spent = 0; store = store; locals = a ∷ b ∷ 0 ∷ 0 ∷ 0 ∷ 0 ∷ 0 ∷ [] }

  abbrev result : Code
  result = Return (Some (Local 2))

  abbrev end : CodeEnd World → Type 0
  end = ends (long_of (I64 ∷ I64 ∷ [])) q

  abbrev Owes : Result ℤ NumTrap → Type 0
  Owes answer = (end : CallEnd World) → Answers host at store 60 answer end → q end

  abbrev Runs : ℤ → ℤ → Code → Type 0
  Runs a b code = Before pages m does code end (point (bits64 a) (bits64 b))

  module _ (k : Kind) (most : ℕ) (is : IsNatural k most) where
    pub add_natural : most < 2 ^ 63 → (a b : ℤ) → InRange k a → InRange k b → Owes (Arith operator.Add k a b) → Runs a b (natural at 2 3 4 5 6 binary_op.Add (pos most) (Local 0) (Local 1) result)
    add_natural few (negsuc a) b r s then = absurd (none_below k most is a r)
    add_natural few (pos a) (negsuc b) r s then = absurd (none_below k most is b s)
    add_natural few (pos a) (pos b) r s then =
        let x : a ≤ most = up_to k most is a r in
        let y : b ≤ most = up_to k most is b s in
        natural_runs pages m host does traps at store q a b (Arith operator.Add k (pos a) (pos b)) then binary_op.Add most (a + b) (ap (λ n. Ok n) (long_is (a + b) (omega (arith, x, y, few)))) (omega (arith, x, y, few)) few (λ le. natural_fits k most is Overflow (a + b) le) (λ lt. natural_over k most is Overflow (a + b) lt)

    pub add_whole : most ≡ 2 ^ 64 - 1 → (a b : ℤ) → InRange k a → InRange k b → Owes (Arith operator.Add k a b) → Runs a b (wide_sum at 2 3 4 5 6 (Local 0) (Local 1) result)
    add_whole e (negsuc a) b r s then = absurd (none_below k most is a r)
    add_whole e (pos a) (negsuc b) r s then = absurd (none_below k most is b s)
    add_whole e (pos a) (pos b) r s then =
        let x : a ≤ most = up_to k most is a r in
        let y : b ≤ most = up_to k most is b s in
        wide_sum_runs pages m host does traps at store q a b (Arith operator.Add k (pos a) (pos b)) then (omega (arith, x, e)) (omega (arith, y, e)) (λ le. natural_fits k most is Overflow (a + b) (omega (arith, le, e))) (λ lt. natural_over k most is Overflow (a + b) (omega (arith, lt, e)))

    pub sub_natural : most < 2 ^ 64 → (a b : ℤ) → InRange k a → InRange k b → Owes (Arith operator.Sub k a b) → Runs a b (less at 2 3 4 5 6 (below k) (Local 0) (Local 1) result)
    sub_natural few (negsuc a) b r s then = absurd (none_below k most is a r)
    sub_natural few (pos a) (negsuc b) r s then = absurd (none_below k most is b s)
    sub_natural few (pos a) (pos b) r s then =
        let x : a ≤ most = up_to k most is a r in
        let y : b ≤ most = up_to k most is b s in
        less_runs pages m host does traps at store q a b (Arith operator.Sub k (pos a) (pos b)) then (below k) (omega (arith, x, few)) (omega (arith, y, few)) (λ le. let e : pos a -ℤ pos b ≡ pos (a - b) = omega (arith, ints, le) in ap (within k (below k)) e ∙ natural_fits k most is (below k) (a - b) (omega (arith, x)))
        (λ lt. natural_under k most is (below k) (pos a -ℤ pos b) (omega (arith, ints, lt)))

    pub mul_natural : most < 2 ^ 32 → (a b : ℤ) → InRange k a → InRange k b → Owes (Arith operator.Mul k a b) → Runs a b (natural at 2 3 4 5 6 binary_op.Mul (pos most) (Local 0) (Local 1) result)
    mul_natural few (negsuc a) b r s then = absurd (none_below k most is a r)
    mul_natural few (pos a) (negsuc b) r s then = absurd (none_below k most is b s)
    mul_natural few (pos a) (pos b) r s then =
        let x : a ≤ 2 ^ 32 - 1 = let u = up_to k most is a r in omega (arith, u, few) in
        let y : b ≤ 2 ^ 32 - 1 = let u = up_to k most is b s in omega (arith, u, few) in
        let small : a * b ≤ (2 ^ 32 - 1) * (2 ^ 32 - 1) = mul-le a b (2 ^ 32 - 1) (2 ^ 32 - 1) x y in
        natural_runs pages m host does traps at store q a b (Arith operator.Mul k (pos a) (pos b)) then binary_op.Mul most (a * b) (ap (λ n. Ok n) (long_is (a * b) (omega (arith, small)))) (omega (arith, small)) (omega (arith, few)) (λ le. natural_fits k most is Overflow (a * b) le) (λ lt. natural_over k most is Overflow (a * b) lt)

    pub mul_wide : (word : ℤ) → bits64 word ≡ most → most < 2 ^ 64 → (a b : ℤ) → InRange k a → InRange k b → Owes (Arith operator.Mul k a b) → Runs a b (wide_product at 2 3 4 5 6 word (Local 0) (Local 1) result)
    mul_wide word same few (negsuc a) b r s then = absurd (none_below k most is a r)
    mul_wide word same few (pos a) (negsuc b) r s then = absurd (none_below k most is b s)
    mul_wide word same few (pos a) (pos b) r s then =
        let x : a ≤ most = up_to k most is a r in
        let y : b ≤ most = up_to k most is b s in
        wide_product_runs pages m host does traps at store q a b (Arith operator.Mul k (pos a) (pos b)) then most word same (omega (arith, x, few)) (omega (arith, y, few)) few (λ le. natural_fits k most is Overflow (a * b) le) (λ lt. natural_over k most is Overflow (a * b) lt)

    pub div_natural : most < 2 ^ 64 → (a b : ℤ) → InRange k a → InRange k b → Owes (Arith operator.Div k a b) → Runs a b (naturals_divided at 2 3 4 5 6 binary_op.DivU (Local 0) (Local 1) result)
    div_natural few (negsuc a) b r s then = absurd (none_below k most is a r)
    div_natural few (pos a) (negsuc b) r s then = absurd (none_below k most is b s)
    div_natural few (pos a) (pos zero) r s then = divided_runs pages m host does traps at store q a 0 (Err DivideByZero) then binary_op.DivU (omega arith) (λ e. refl) (λ lt. absurd (omega (arith, lt)))
    div_natural few (pos a) (pos (suc b)) r s then =
        let x : a ≤ most = up_to k most is a r in
        let y : suc b ≤ most = up_to k most is (suc b) s in
        let below_it : a / suc b ≤ a = div-le_self a (suc b) in
        divided_runs pages m host does traps at store q a (suc b) (Arith operator.Div k (pos a) (pos (suc b))) then binary_op.DivU (omega (arith, y, few)) (λ e. absurd (omega (arith, e)))
        (λ lt. (a / suc b, pos (a / suc b), quotient_of a (suc b) lt (omega (arith, x, few)) (omega (arith, y, few)), refl, natural_fits k most is Overflow (a / suc b) (omega (arith, below_it, x))))

    pub rem_natural : most < 2 ^ 64 → (a b : ℤ) → InRange k a → InRange k b → Owes (Arith operator.Rem k a b) → Runs a b (naturals_divided at 2 3 4 5 6 binary_op.RemU (Local 0) (Local 1) result)
    rem_natural few (negsuc a) b r s then = absurd (none_below k most is a r)
    rem_natural few (pos a) (negsuc b) r s then = absurd (none_below k most is b s)
    rem_natural few (pos a) (pos zero) r s then = divided_runs pages m host does traps at store q a 0 (Err DivideByZero) then binary_op.RemU (omega arith) (λ e. refl) (λ lt. absurd (omega (arith, lt)))
    rem_natural few (pos a) (pos (suc b)) r s then =
        let x : a ≤ most = up_to k most is a r in
        let y : suc b ≤ most = up_to k most is (suc b) s in
        let whole = div-add-mod' a (suc b) in
        divided_runs pages m host does traps at store q a (suc b) (Arith operator.Rem k (pos a) (pos (suc b))) then binary_op.RemU (omega (arith, y, few)) (λ e. absurd (omega (arith, e)))
        (λ lt. (a % suc b, pos (a % suc b), remainder_of a (suc b) lt (omega (arith, x, few)) (omega (arith, y, few)), refl, natural_fits k most is Overflow (a % suc b) (omega (arith, whole, x))))

  module _ (k : Kind) (h : ℕ) (is : IsSigned k h) where
    pub add_narrow : h ≤ 2 ^ 31 → (a b : ℤ) → InRange k a → InRange k b → Owes (Arith operator.Add k a b) → Runs a b (narrow at 2 3 4 5 6 binary_op.Add (pos h) (pos (2 * h - 1)) (Local 0) (Local 1) result)
    add_narrow few a b r s then =
        let x : Between a h = ranged k h is a r in
        let y : Between b h = ranged k h is b s in
        let p = x.0 in let u = x.1 in let v = y.0 in let w = y.1 in
        let wide : Wide (a +ℤ b) = wide_between (a +ℤ b) (omega (arith, ints, p, v, few)) (omega (arith, ints, u, w, few)) in
        let more = is.some in
        narrow_runs pages m host does traps at store q a b (between_is_wide a h (omega (arith, few)) more x) (between_is_wide b h (omega (arith, few)) more y) (Arith operator.Add k a b) then binary_op.Add h (a +ℤ b) more (omega (arith, few)) wide
        (ap (λ n. Ok n) (turned_exact (a +ℤ b) (low I64 (bits64 a + bits64 b)) (sum_turned a b (between_is_wide a h (omega (arith, few)) more x) (between_is_wide b h (omega (arith, few)) more y)) wide))
        (λ f. signed_fits k h is Overflow (a +ℤ b) f) (λ o. signed_out k h is Overflow (a +ℤ b) o)

    pub sub_narrow : below k ≡ Overflow → h ≤ 2 ^ 31 → (a b : ℤ) → InRange k a → InRange k b → Owes (Arith operator.Sub k a b) → Runs a b (narrow at 2 3 4 5 6 binary_op.Sub (pos h) (pos (2 * h - 1)) (Local 0) (Local 1) result)
    sub_narrow cause few a b r s then =
        let x : Between a h = ranged k h is a r in
        let y : Between b h = ranged k h is b s in
        let p = x.0 in let u = x.1 in let v = y.0 in let w = y.1 in
        let wide : Wide (a -ℤ b) = wide_between (a -ℤ b) (omega (arith, ints, p, w, few)) (omega (arith, ints, u, v, few)) in
        let more = is.some in
        narrow_runs pages m host does traps at store q a b (between_is_wide a h (omega (arith, few)) more x) (between_is_wide b h (omega (arith, few)) more y) (Arith operator.Sub k a b) then binary_op.Sub h (a -ℤ b) more (omega (arith, few)) wide
        (ap (λ n. Ok n) (turned_exact (a -ℤ b) (low I64 (low I64 (bits64 a) + 2 ^ 64 - low I64 (bits64 b))) (difference_word a b (between_is_wide a h (omega (arith, few)) more x) (between_is_wide b h (omega (arith, few)) more y)) wide))
        (λ f. signed_fits k h is (below k) (a -ℤ b) f) (λ o. signed_out k h is (below k) (a -ℤ b) o ∙ ap (λ t. Err t) cause)

    pub mul_narrow : h ≤ 2 ^ 31 → (a b : ℤ) → InRange k a → InRange k b → Owes (Arith operator.Mul k a b) → Runs a b (narrow at 2 3 4 5 6 binary_op.Mul (pos h) (pos (2 * h - 1)) (Local 0) (Local 1) result)
    mul_narrow few a b r s then =
        let x : Between a h = ranged k h is a r in
        let y : Between b h = ranged k h is b s in
        let more = is.some in
        let wa : Wide a = between_is_wide a h (omega (arith, few)) more x in
        let wb : Wide b = between_is_wide b h (omega (arith, few)) more y in
        let p : unsigned_abs a ≤ 2 ^ 31 = let u = abs_below a h more x in omega (arith, u, few) in
        let v : unsigned_abs b ≤ 2 ^ 31 = let u = abs_below b h more y in omega (arith, u, few) in
        let wide : Wide (a *ℤ b) = wide_of_fits (a *ℤ b) (fits_signed_mul w64 a b (2 ^ 31) (2 ^ 31) p v (omega arith)) in
        narrow_runs pages m host does traps at store q a b wa wb (Arith operator.Mul k a b) then binary_op.Mul h (a *ℤ b) more (omega (arith, few)) wide (ap (λ n. Ok n) (product_word a b wa wb wide))
        (λ f. signed_fits k h is Overflow (a *ℤ b) f) (λ o. signed_out k h is Overflow (a *ℤ b) o)

    pub div_signed : h ≤ 2 ^ 63 → (a b : ℤ) → InRange k a → InRange k b → Owes (Arith operator.Div k a b) → Runs a b (signed_quotient at 2 3 4 5 6 (negsuc (h - 1)) (Local 0) (Local 1) result)
    div_signed few a b r s then =
        let x : Between a h = ranged k h is a r in
        let y : Between b h = ranged k h is b s in
        let more = is.some in
        signed_quotient_runs pages m host does traps at store q a b (between_is_wide a h few more x) (between_is_wide b h few more y) (Arith operator.Div k a b) then h more few x
        (λ e. ap (λ b. Arith operator.Div k a b) e)
        (λ ne f. divided_other b (within k Overflow (int_div a b)) ne ∙ signed_fits k h is Overflow (int_div a b) f)
        (λ e f. (λ i. Arith operator.Div k (e i) (f i)) ∙ signed_out k h is Overflow (pos (suc (h - 1) / 1)) (inl (omega (arith, ints, more))))

    pub rem_signed : h ≤ 2 ^ 63 → (a b : ℤ) → InRange k a → InRange k b → Owes (Arith operator.Rem k a b) → Runs a b (naturals_divided at 2 3 4 5 6 binary_op.RemS (Local 0) (Local 1) result)
    rem_signed few a b r s then =
        let x : Between a h = ranged k h is a r in
        let y : Between b h = ranged k h is b s in
        let more = is.some in
        let wa : Wide a = between_is_wide a h few more x in
        let wb : Wide b = between_is_wide b h few more y in
        let f : Between (int_rem a b) h = remainder_between a b h more x in
        divided_runs pages m host does traps at store q (bits64 a) (bits64 b) (Arith operator.Rem k a b) then binary_op.RemS (bits_small b wb)
        (λ e. ap (λ b. Arith operator.Rem k a b) (zero_word b wb e))
        (λ lt.
        let ne : b ≡ pos 0 → ⊥ = λ e. positive (bits64 b) lt (ap bits64 e) in
        (bits64 (int_rem a b), int_rem a b, remainder_word a b wa wb ne (between_is_wide (int_rem a b) h few more f), refl, divided_other b (within k Overflow (int_rem a b)) ne ∙ signed_fits k h is Overflow (int_rem a b) f))
      where
        positive : (n : ℕ) → 0 < n → n ≡ 0 → ⊥
        positive n lt e = omega (arith, lt, e)

  -- of 64 bits
  module _ (k : Kind) (is : IsSigned k (2 ^ 63)) where
    pub add_signed : (a b : ℤ) → InRange k a → InRange k b → Owes (Arith operator.Add k a b) → Runs a b (signed_sum at 2 3 4 5 6 (Local 0) (Local 1) result)
    add_signed a b r s then =
        signed_sum_runs pages m host does traps at store q a b (between_is_wide a (2 ^ 63) (omega arith) (omega arith) (ranged k (2 ^ 63) is a r)) (between_is_wide b (2 ^ 63) (omega arith) (omega arith) (ranged k (2 ^ 63) is b s)) (Arith operator.Add k a b) then
        (λ w. signed_fits k (2 ^ 63) is Overflow (a +ℤ b) (between_wide (a +ℤ b) w)) (λ o. signed_out k (2 ^ 63) is Overflow (a +ℤ b) o)

    pub sub_signed : below k ≡ Overflow → (a b : ℤ) → InRange k a → InRange k b → Owes (Arith operator.Sub k a b) → Runs a b (signed_difference at 2 3 4 5 6 (Local 0) (Local 1) result)
    sub_signed cause a b r s then =
        signed_difference_runs pages m host does traps at store q a b (between_is_wide a (2 ^ 63) (omega arith) (omega arith) (ranged k (2 ^ 63) is a r)) (between_is_wide b (2 ^ 63) (omega arith) (omega arith) (ranged k (2 ^ 63) is b s)) (Arith operator.Sub k a b) then
        (λ w. signed_fits k (2 ^ 63) is (below k) (a -ℤ b) (between_wide (a -ℤ b) w)) (λ o. signed_out k (2 ^ 63) is (below k) (a -ℤ b) o ∙ ap (λ t. Err t) cause)

    pub mul_signed : (a b : ℤ) → InRange k a → InRange k b → Owes (Arith operator.Mul k a b) → Runs a b (signed_product at 2 3 4 5 6 (Local 0) (Local 1) result)
    mul_signed a b r s then =
        signed_product_runs pages m host does traps at store q a b (between_is_wide a (2 ^ 63) (omega arith) (omega arith) (ranged k (2 ^ 63) is a r)) (between_is_wide b (2 ^ 63) (omega arith) (omega arith) (ranged k (2 ^ 63) is b s)) (Arith operator.Mul k a b) then
        (λ f. signed_fits k (2 ^ 63) is Overflow (a *ℤ b) f, λ o. signed_out k (2 ^ 63) is Overflow (a *ℤ b) o)
