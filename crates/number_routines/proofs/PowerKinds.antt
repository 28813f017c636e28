-- Powers at each kind.
use Rattle.std.proofs.Common.{◌≡◌, ◌⊎◌, inl, inr, ℕ, zero, suc, ◌+◌, ◌-◌, ◌%◌, ◌<◌, ◌≤◌, ◌^◌, List, [], ◌∷◌, true, cond, Some, Result, Err, ℤ, pos, negsuc, neg_ℤ, bit_and, refl, sym, ap, ◌∙◌, subst, arith}
use Rattle.std.specs.Prelude.{◌==◌}
use Rattle.std.specs.Int.{int_pow}
use Rattle.std.proofs.lemmas.Int.{ints}
use Rattle.std.proofs.lemmas.Nat.{and_mask}
use Rattle.mo_num.specs.declared.kind.Kind.{Kind}
use Rattle.mo_num.specs.declared.kind.Kind.TheVariants.{Nat, Int, Nat8, Nat16, Nat32, Nat64, Int8, Int16, Int32, Int64}
use Rattle.mo_num.specs.declared.operator.Operator.TheVariants as operator
use Rattle.mo_num.specs.declared.operator.NumTrap.{NumTrap}
use Rattle.mo_num.specs.declared.operator.NumTrap.TheVariants.{Overflow}
use Rattle.mo_num.specs.Kinds.{InRange}
use Rattle.mo_num.specs.Arith.{Arith, within}
use Rattle.wasm_tree.specs.declared.trap.Trap.{Trap}
use Rattle.wasm_tree.specs.declared.types.FunctionType.{FunctionType}
use Rattle.wasm_tree.specs.declared.types.ValueType.TheVariants.{I32, I64}
use Rattle.wasm_tree.specs.declared.op.BinaryOperator.TheVariants as binary_op
use Rattle.wasm_tree.specs.declared.op.Conversion.TheVariants.{Wrap, ExtendU}
use Rattle.wasm_tree.specs.Numeric.{low, flag}
use Rattle.wasm_tree.specs.Exec.{Store, Host, bits64}
use Rattle.low_ir.specs.declared.op.Operand.TheVariants.{Local, Long}
use Rattle.low_ir.specs.declared.op.Operation.TheVariants.{Binary, Convert}
use Rattle.low_ir.specs.Tree.{Code, Stop, Return, Set, If, Module}
use Rattle.low_ir.specs.Numbering.{host_trap}
use Rattle.low_ir.specs.Meaning.{Calls}
use Rattle.low_ir.specs.Frames.{words, enter}
use Rattle.low_rules.specs.Rule.{At, CodeEnd, Stops, CallEnd, Dies, Contracts, ComesTo, Before, ends}
use Rattle.low_rules.specs.Lines.{host_end}
use Rattle.low_rules.proofs.Entering.{routine}
use Rattle.number_routines.specs.declared.places.TrapPlaces.{TrapPlaces}
use Rattle.number_routines.specs.Codes.{unless}
use Rattle.number_routines.specs.Lines.{long_of, Answers}
use Rattle.number_routines.specs.Powers.{raised, sized, with_sign, natural_power, signed_power, power, power_routine}
use Rattle.number_routines.specs.Laws.{PowerKeepsItsLine}
use Rattle.number_routines.proofs.Wide.{Wide, long_is}
use Rattle.number_routines.proofs.Signs.{Between, between_is_wide}
use Rattle.number_routines.proofs.SignedProducts.{sign, sign_is, size_is}
use Rattle.number_routines.proofs.KindRuns.{IsNatural, IsSigned, up_to, none_below, natural_fits, natural_over, ranged, signed_fits, signed_out}
use Rattle.number_routines.proofs.Runs.{tested, gives, dies}
use Rattle.number_routines.proofs.PowerRuns.{raised_runs, two_cases}
use Rattle.number_routines.proofs.Calculated.{host_traps}

-- what is taken from 0
negative_word : (n : ℕ) → n ≤ 2 ^ 63 → low I64 (low I64 0 + 2 ^ 64 - low I64 n) ≡ bits64 (neg_ℤ (pos n))
negative_word zero le = refl
negative_word (suc n) le =
    let word : low I64 (suc n) ≡ suc n = long_is (suc n) (omega (arith, le)) in
    let e : 2 ^ 64 - suc n ≡ 2 ^ 64 - 1 - n = omega arith in
    ap (λ k. low I64 (2 ^ 64 - k)) word ∙ ap (low I64) e ∙ long_is (2 ^ 64 - 1 - n) (omega arith)

even_power : (a n : ℕ) → n % 2 ≡ 0 → int_pow (negsuc a) n ≡ pos (suc a ^ n)
even_power a n e = ap (λ r. cond (r == 0) (pos (suc a ^ n)) (neg_ℤ (pos (suc a ^ n)))) e

odd_power : (a n : ℕ) → n % 2 ≡ 1 → int_pow (negsuc a) n ≡ neg_ℤ (pos (suc a ^ n))
odd_power a n e = ap (λ r. cond (r == 0) (pos (suc a ^ n)) (neg_ℤ (pos (suc a ^ n)))) e

module _ {World : Type 0} (pages : ℕ) (m : Module) (host : Host World) (does : Contracts World) (traps : (store : Store World) (args : List ℕ) (q : CallEnd World → Type 0) → q (host_end store (host host_trap args store.memory store.world)) → does host_trap store args q) (at : TrapPlaces) (store : Store World) (q : CallEnd World → Type 0) where
  abbrev point : ℕ → ℕ → ℕ → ℕ → ℕ → ℕ → ℕ → ℕ → At World
  point spent z n r x y c d = record { spent = spent; store = store; locals = z ∷ n ∷ r ∷ x ∷ y ∷ c ∷ d ∷ [] }

  abbrev result : Code
  result = Return (Some (Local 2))

  abbrev end : CodeEnd World → Type 0
  end = ends (long_of (I64 ∷ I64 ∷ [])) q

  stop : (cause : Trap) (spent : ℕ) (store : Store World) → q (Dies cause spent store) → end (Stops cause spent store)
  stop cause spent store k = k

  abbrev Owes : Result ℤ NumTrap → Type 0
  Owes answer = (end : CallEnd World) → Answers host at store 3800 answer end → q end

  -- of natural numbers
  raises_natural : (k : Kind) (most : ℕ) → IsNatural k most → (word : ℤ) → bits64 word ≡ most → most < 2 ^ 64 → 1 ≤ most → (a b : ℤ) → InRange k a → InRange k b → Owes (Arith operator.Pow k a b) → Before pages m does (natural_power at word) end (point 0 (bits64 a) (bits64 b) 0 0 0 0 0)
  raises_natural k most is word same few some (negsuc a) b r s then = absurd (none_below k most is a r)
  raises_natural k most is word same few some (pos a) (negsuc b) r s then = absurd (none_below k most is b s)
  raises_natural k most is word same few some (pos a) (pos b) r s then =
      subst (λ y. Before pages m does (raised at result) end (point (2 + 2) a b 0 a y 0 0)) (sym same)
      (raised_runs pages m host does traps at store q end stop result 3780 most 0 (a ^ b) few
      (λ over cost cheap. dies pages m host does traps at store 3800 (Arith operator.Pow k (pos a) (pos b)) q then Overflow cost (natural_over k most is Overflow (a ^ b) over) (omega (arith, cheap)))
      (λ le spent z n x c cheap. gives pages m host does traps at store 3800 (Arith operator.Pow k (pos a) (pos b)) q then (pos (a ^ b)) (a ^ b) (spent + 2) (natural_fits k most is Overflow (a ^ b) le) refl (omega (arith, cheap)))
      (2 + 2) a b 0 a 0 (let u = up_to k most is b s in omega (arith, u, few)) (let u = up_to k most is a r in omega (arith, u, few)) some refl (omega arith))

  -- of numbers with signs: the loop, where the size of the base and the sign of the result are known
  module _ (k : Kind) (h : ℕ) (is : IsSigned k h) (few : h ≤ 2 ^ 63) (some : 2 ≤ h) where
    raises : (a : ℤ) (b u y d : ℕ) → u ≤ h → b < 2 ^ 63 → y ≤ h → 1 ≤ y → Owes (Arith operator.Pow k a (pos b)) → (y < u ^ b → Arith operator.Pow k a (pos b) ≡ Err Overflow)
        → (u ^ b ≤ y → (spent z n x c : ℕ) → spent ≤ 3780 → Before pages m does with_sign end (point spent z n (u ^ b) x y c d))
        → (spent z c : ℕ) → spent ≤ 40 → Before pages m does (raised at with_sign) end (point spent z b 0 u y c d)
    raises a b u y d lu lb ly more then over out spent z c cheap =
        raised_runs pages m host does traps at store q end stop with_sign 3780 _ d (u ^ b) (omega (arith, ly, few))
        (λ too cost le. dies pages m host does traps at store 3800 (Arith operator.Pow k a (pos b)) q then Overflow cost (over too) (omega (arith, le)))
        out spent z b 0 u c (omega (arith, lb)) (omega (arith, lu, few)) more refl (omega (arith, cheap))

    abbrev negates : Code
    negates = Set 3 (Binary I64 binary_op.Sub (Long (pos 0)) (Local 0)) (Set 4 (Binary I64 binary_op.And (Local 1) (Long (pos 1))) (Set 6 (Convert Wrap (Local 4)) Stop))

    abbrev widened : Code
    widened = Set 4 (Convert ExtendU (Local 6)) (Set 4 (Binary I64 binary_op.Add (Local 4) (Long (pos (h - 1)))) (raised at with_sign))

    abbrev unless_negative : Code
    unless_negative = unless at 5 Overflow (sized (pos (h - 1)) (raised at with_sign))

    -- a result that is not negative
    plain : (a : ℤ) (b u : ℕ) → u ≤ h → b < 2 ^ 63 → int_pow a b ≡ pos (u ^ b) → Owes (Arith operator.Pow k a (pos b)) → (spent z c : ℕ) → spent ≤ 40 → Before pages m does (raised at with_sign) end (point spent z b 0 u (h - 1) c 0)
    plain a b u lu lb e then spent z c cheap =
        raises a b u (h - 1) 0 lu lb (omega arith) (omega (arith, some)) then (λ too. ap (within k Overflow) e ∙ signed_out k h is Overflow (pos (u ^ b)) (inl (omega (arith, ints, too))))
        (λ le spent z n x c cheap. gives pages m host does traps at store 3800 (Arith operator.Pow k a (pos b)) q then (pos (u ^ b)) (u ^ b) (spent + 2 + 2) (ap (within k Overflow) e ∙ signed_fits k h is Overflow (pos (u ^ b)) (omega (arith, ints), omega (arith, ints, le))) refl (omega (arith, cheap)))
        spent z c cheap

    -- a negative one
    negative : (a : ℤ) (b u : ℕ) → u ≤ h → b < 2 ^ 63 → int_pow a b ≡ neg_ℤ (pos (u ^ b)) → Owes (Arith operator.Pow k a (pos b)) → (spent z c : ℕ) → spent ≤ 40 → Before pages m does (raised at with_sign) end (point spent z b 0 u h c 1)
    negative a b u lu lb e then spent z c cheap =
        raises a b u h 1 lu lb (omega arith) (omega (arith, some)) then (λ too. ap (within k Overflow) e ∙ signed_out k h is Overflow (neg_ℤ (pos (u ^ b))) (inr (omega (arith, ints, too, some))))
        (λ le spent z n x c cheap. gives pages m host does traps at store 3800 (Arith operator.Pow k a (pos b)) q then (neg_ℤ (pos (u ^ b))) (low I64 (low I64 0 + 2 ^ 64 - low I64 (u ^ b))) (spent + 2 + 4 + 2) (ap (within k Overflow) e ∙ signed_fits k h is Overflow (neg_ℤ (pos (u ^ b))) (omega (arith, ints, le, some), omega (arith, ints))) (negative_word (u ^ b) (omega (arith, le, few))) (omega (arith, cheap)))
        spent z c cheap

    -- behind the test of the exponent
    sized_runs : (a : ℤ) (b : ℕ) → InRange k a → b < 2 ^ 63 → Owes (Arith operator.Pow k a (pos b)) → (c : ℕ) → Before pages m does (sized (pos (h - 1)) (raised at with_sign)) end (point (0 + 4 + 2) (bits64 a) b 0 0 0 c 0)
    sized_runs a b r lb then c =
        let x : Between a h = ranged k h is a r in
        let wa : Wide a = between_is_wide a h few is.some x in
        subst (λ s. Before pages m does (If (Local 6) negates Stop widened) end (point (0 + 4 + 2 + 2 + 4) (bits64 a) b 0 (bits64 a) 0 c (flag s))) (sym (sign_is a wa)) (by a x wa then)
      where
        by : (a : ℤ) → Between a h → Wide a → Owes (Arith operator.Pow k a (pos b)) → Before pages m does (If (Local 6) negates Stop widened) end (point (0 + 4 + 2 + 2 + 4) (bits64 a) b 0 (bits64 a) 0 c (flag (sign a)))
        by (pos a) x wa then =
            let y : low I64 (low I32 0 + (h - 1)) ≡ h - 1 = ap (low I64) (omega arith) ∙ long_is (h - 1) (omega (arith, few)) in
            let hi = x.1 in
            subst (λ y. Before pages m does (raised at with_sign) end (point (0 + 4 + 2 + 2 + 4 + 2 + 3 + 4) a b 0 a y c 0)) (sym y) (plain (pos a) b a (omega (arith, ints, hi)) lb refl then (0 + 4 + 2 + 2 + 4 + 2 + 3 + 4) a c (omega arith))
        by (negsuc a) x wa then =
            let lo = x.0 in
            let bit : bit_and (low I64 b) (low I64 1) ≡ b % 2 = ap (λ n. bit_and n 1) (long_is b (omega (arith, lb))) ∙ and_mask b 1 in
            subst (λ x. Before pages m does widened end (point (0 + 4 + 2 + 2 + 4 + 2 + 4 + 4 + 3) (2 ^ 64 - 1 - a) b 0 x (bit_and (low I64 b) (low I64 1)) c (low I32 (bit_and (low I64 b) (low I64 1))))) (sym (size_is a wa))
            (subst (λ v. Before pages m does widened end (point (0 + 4 + 2 + 2 + 4 + 2 + 4 + 4 + 3) (2 ^ 64 - 1 - a) b 0 (suc a) v c (low I32 v))) (sym bit) (choose a (omega (arith, ints, lo, some)) then (b % 2) refl (two_cases (b % 2) (omega arith))))
          where
            choose : (a : ℕ) → suc a ≤ h → Owes (Arith operator.Pow k (negsuc a) (pos b)) → (v : ℕ) → b % 2 ≡ v → (v ≡ 0) ⊎ (v ≡ 1) → Before pages m does widened end (point (0 + 4 + 2 + 2 + 4 + 2 + 4 + 4 + 3) (2 ^ 64 - 1 - a) b 0 (suc a) v c (low I32 v))
            choose a le then v e (inl z) =
                let y : low I64 (low I32 0 + (h - 1)) ≡ h - 1 = ap (low I64) (omega arith) ∙ long_is (h - 1) (omega (arith, few)) in
                subst (λ v. Before pages m does widened end (point (0 + 4 + 2 + 2 + 4 + 2 + 4 + 4 + 3) (2 ^ 64 - 1 - a) b 0 (suc a) v c (low I32 v))) (sym z)
                (subst (λ y. Before pages m does (raised at with_sign) end (point (0 + 4 + 2 + 2 + 4 + 2 + 4 + 4 + 3 + 3 + 4) (2 ^ 64 - 1 - a) b 0 (suc a) y c 0)) (sym y)
                (plain (negsuc a) b (suc a) le lb (even_power a b (e ∙ z)) then (0 + 4 + 2 + 2 + 4 + 2 + 4 + 4 + 3 + 3 + 4) (2 ^ 64 - 1 - a) c (omega arith)))
            choose a le then v e (inr z) =
                let y : low I64 (low I32 1 + (h - 1)) ≡ h = ap (low I64) (omega (arith, some)) ∙ long_is h (omega (arith, few)) in
                subst (λ v. Before pages m does widened end (point (0 + 4 + 2 + 2 + 4 + 2 + 4 + 4 + 3) (2 ^ 64 - 1 - a) b 0 (suc a) v c (low I32 v))) (sym z)
                (subst (λ y. Before pages m does (raised at with_sign) end (point (0 + 4 + 2 + 2 + 4 + 2 + 4 + 4 + 3 + 3 + 4) (2 ^ 64 - 1 - a) b 0 (suc a) y c 1)) (sym y)
                (negative (negsuc a) b (suc a) le lb (odd_power a b (e ∙ z)) then (0 + 4 + 2 + 2 + 4 + 2 + 4 + 4 + 3 + 3 + 4) (2 ^ 64 - 1 - a) c (omega arith)))

    raises_signed : (a b : ℤ) → InRange k a → InRange k b → Owes (Arith operator.Pow k a b) → Before pages m does (signed_power at (pos (h - 1))) end (point 0 (bits64 a) (bits64 b) 0 0 0 0 0)
    raises_signed a b r s then =
        let wb : Wide b = between_is_wide b h few is.some (ranged k h is b s) in
        subst (λ t. Before pages m does (unless_negative) end (point (0 + 4) (bits64 a) (bits64 b) 0 0 0 (flag t) 0)) (sym (sign_is b wb)) (by b wb then)
      where
        by : (b : ℤ) → Wide b → Owes (Arith operator.Pow k a b) → Before pages m does unless_negative end (point (0 + 4) (bits64 a) (bits64 b) 0 0 0 (flag (sign b)) 0)
        by (pos b) wb then = sized_runs a b r wb then 0
        by (negsuc b) wb then =
            tested pages m host does traps at q end stop 5 Overflow (sized (pos (h - 1)) (raised at with_sign)) (point (0 + 4) (bits64 a) (bits64 (negsuc b)) 0 0 0 1 0) true refl (λ c. absurd (cc c))
            (λ c. dies pages m host does traps at store 3800 (Err Overflow) q then Overflow (0 + 4 + 2 + 3 + 0) refl (omega arith))

  pub raises_at : (k : Kind) (a b : ℤ) → InRange k a → InRange k b → Owes (Arith operator.Pow k a b) → Before pages m does (power at k) end (point 0 (bits64 a) (bits64 b) 0 0 0 0 0)
  raises_at Nat a b r s then = raises_natural Nat (2 ^ 63 - 1) (record { first = refl; last = refl }) (pos (2 ^ 63 - 1)) refl (omega arith) (omega arith) a b r s then
  raises_at Int a b r s then = raises_signed Int (2 ^ 63) (record { first = refl; last = refl; some = omega arith }) (omega arith) (omega arith) a b r s then
  raises_at Nat8 a b r s then = raises_natural Nat8 (2 ^ 8 - 1) (record { first = refl; last = refl }) (pos (2 ^ 8 - 1)) refl (omega arith) (omega arith) a b r s then
  raises_at Nat16 a b r s then = raises_natural Nat16 (2 ^ 16 - 1) (record { first = refl; last = refl }) (pos (2 ^ 16 - 1)) refl (omega arith) (omega arith) a b r s then
  raises_at Nat32 a b r s then = raises_natural Nat32 (2 ^ 32 - 1) (record { first = refl; last = refl }) (pos (2 ^ 32 - 1)) refl (omega arith) (omega arith) a b r s then
  raises_at Nat64 a b r s then = raises_natural Nat64 (2 ^ 64 - 1) (record { first = refl; last = refl }) (negsuc 0) refl (omega arith) (omega arith) a b r s then
  raises_at Int8 a b r s then = raises_signed Int8 (2 ^ 7) (record { first = refl; last = refl; some = omega arith }) (omega arith) (omega arith) a b r s then
  raises_at Int16 a b r s then = raises_signed Int16 (2 ^ 15) (record { first = refl; last = refl; some = omega arith }) (omega arith) (omega arith) a b r s then
  raises_at Int32 a b r s then = raises_signed Int32 (2 ^ 31) (record { first = refl; last = refl; some = omega arith }) (omega arith) (omega arith) a b r s then
  raises_at Int64 a b r s then = raises_signed Int64 (2 ^ 63) (record { first = refl; last = refl; some = omega arith }) (omega arith) (omega arith) a b r s then

power_fits : (at : TrapPlaces) (k : Kind) (signature : ℕ) → words (long_of (I64 ∷ I64 ∷ [])) (power_routine signature at k) ≤ 24
power_fits at Nat signature = omega arith
power_fits at Int signature = omega arith
power_fits at Nat8 signature = omega arith
power_fits at Nat16 signature = omega arith
power_fits at Nat32 signature = omega arith
power_fits at Nat64 signature = omega arith
power_fits at Int8 signature = omega arith
power_fits at Int16 signature = omega arith
power_fits at Int32 signature = omega arith
power_fits at Int64 signature = omega arith

pub power_kept : (World : Type 0) → PowerKeepsItsLine World
power_kept World pages m host at k f signature there zero room less fits_room store a b r s = absurd (omega arith)
power_kept World pages m host at k f signature there (suc zero) room less fits_room store a b r s = absurd (omega arith)
power_kept World pages m host at k f signature there (suc (suc deep)) room less fits_room store a b r s =
    let fn = power_routine signature at k in
    let t : FunctionType = long_of (I64 ∷ I64 ∷ []) in
    let few = power_fits at k signature in
    let inner : Calls World = enter (suc deep) pages m host (room - words t fn) in
    let does : Contracts World = λ f store args q. ComesTo inner f store args q in
    routine pages m host (suc deep) room f t fn does store (bits64 a ∷ bits64 b ∷ []) (Answers host at store 3800 (Arith operator.Pow k a b)) there.typed there.there (omega (arith, few, fits_room)) (λ f store args q c. c)
    (raises_at pages m host does (λ store args q h. host_traps pages m host deep (room - words t fn) store args q h) at store (Answers host at store 3800 (Arith operator.Pow k a b)) k a b r s (λ end h. h))
