-- Numbers with the other sign.
use Rattle.std.proofs.Common.{◌≡◌, inl, ℕ, zero, suc, ◌+◌, ◌-◌, ◌<◌, ◌≤◌, ◌^◌, List, [], ◌∷◌, Bool, true, false, not, nat_eq, Some, Result, ℤ, pos, negsuc, neg_ℤ, ◌-ℤ◌, refl, sym, ap, ◌∙◌, subst, arith}
use Rattle.std.proofs.lemmas.Bool.Decides.{nat_tests}
use Rattle.std.proofs.lemmas.Int.{ints}
use Rattle.mo_num.specs.declared.kind.Kind.{Kind}
use Rattle.mo_num.specs.declared.operator.NumTrap.{NumTrap}
use Rattle.mo_num.specs.declared.operator.NumTrap.TheVariants.{Overflow}
use Rattle.mo_num.specs.Kinds.{InRange}
use Rattle.mo_num.specs.Arith.{Negation}
use Rattle.wasm_tree.specs.declared.trap.Trap.{Trap}
use Rattle.wasm_tree.specs.declared.types.ValueType.TheVariants.{I64}
use Rattle.wasm_tree.specs.declared.op.BinaryOperator.TheVariants as binary_op
use Rattle.wasm_tree.specs.Numeric.{low, flag}
use Rattle.wasm_tree.specs.Exec.{Store, Host, bits64}
use Rattle.low_ir.specs.declared.op.Operand.TheVariants.{Local, Long}
use Rattle.low_ir.specs.declared.op.Operation.TheVariants.{Copy, Binary}
use Rattle.low_ir.specs.Tree.{Code, Return, Set, Module}
use Rattle.low_ir.specs.Numbering.{host_trap}
use Rattle.low_rules.specs.Rule.{At, CodeEnd, Stops, CallEnd, Dies, Contracts, Before, ends}
use Rattle.low_rules.specs.Lines.{host_end}
use Rattle.number_routines.specs.declared.places.TrapPlaces.{TrapPlaces}
use Rattle.number_routines.specs.Codes.{no_negative, signed_negative}
use Rattle.number_routines.specs.Lines.{long_of, Answers}
use Rattle.number_routines.proofs.Wide.{Wide, long_is}
use Rattle.number_routines.proofs.Turns.{turned_exact, difference_word}
use Rattle.number_routines.proofs.Signs.{Between, between_is_wide}
use Rattle.number_routines.proofs.SignedRuns.{word_of_one, other_words}
use Rattle.number_routines.proofs.KindRuns.{IsNatural, IsSigned, up_to, none_below, natural_fits, natural_under, ranged, signed_fits, signed_out}
use Rattle.number_routines.proofs.Runs.{tested, gives, dies}

not_false : (t : Bool) → not t ≡ false → t ≡ true
not_false true e = refl
not_false false e = absurd (cc e)

not_true : (t : Bool) → not t ≡ true → t ≡ false
not_true true e = absurd (cc e)
not_true false e = refl

same_number : (i j : ℕ) → nat_eq i j ≡ true → i ≡ j
same_number i j e = grind (arith, nat_tests, e)

some_number : (i : ℕ) → nat_eq i 0 ≡ false → 0 < i
some_number i e = grind (arith, nat_tests, e)

-- Of a number that is not the least, the other sign is in the range.
negative_between : (a : ℤ) (h : ℕ) → 0 < h → Between a h → (a ≡ negsuc (h - 1) → ⊥) → Between (neg_ℤ a) h
negative_between (pos zero) h more r other = let k = r.1 in (omega (arith, ints), omega (arith, ints))
negative_between (pos (suc n)) h more r other = let k = r.1 in (omega (arith, ints, k), omega (arith, ints))
negative_between (negsuc n) h more r other = by (nat_eq n (h - 1)) refl
  where
    by : (t : Bool) → nat_eq n (h - 1) ≡ t → Between (neg_ℤ (negsuc n)) h
    by true e = absurd (other (ap negsuc (same_number n (h - 1) e)))
    by false e =
        let k = r.0 in
        let differ : n ≡ h - 1 → ⊥ = λ s. apart n (h - 1) e s in
        (omega (arith, ints), omega (arith, ints, k, differ))
      where
        apart : (i j : ℕ) → nat_eq i j ≡ false → i ≡ j → ⊥
        apart i j e k = grind (arith, nat_tests, e, k)

from_zero : (a : ℤ) → pos 0 -ℤ a ≡ neg_ℤ a
from_zero a = omega (arith, ints)

module _ {World : Type 0} (pages : ℕ) (m : Module) (host : Host World) (does : Contracts World) (traps : (store : Store World) (args : List ℕ) (q : CallEnd World → Type 0) → q (host_end store (host host_trap args store.memory store.world)) → does host_trap store args q) (at : TrapPlaces) (store : Store World) (q : CallEnd World → Type 0) where
  abbrev point : ℕ → ℕ → ℕ → At World
  point spent a c = record { spent = spent; store = store; locals = a ∷ 0 ∷ 0 ∷ 0 ∷ c ∷ 0 ∷ [] }

  abbrev result : Code
  result = Return (Some (Local 1))

  abbrev end : CodeEnd World → Type 0
  end = ends (long_of (I64 ∷ [])) q

  stop : (cause : Trap) (spent : ℕ) (store : Store World) → q (Dies cause spent store) → end (Stops cause spent store)
  stop cause spent store k = k

  abbrev Owes : Result ℤ NumTrap → Type 0
  Owes answer = (end : CallEnd World) → Answers host at store 60 answer end → q end

  pub negate_natural : (k : Kind) (most : ℕ) → IsNatural k most → most < 2 ^ 64 → (a : ℤ) → InRange k a → Owes (Negation k a) → Before pages m does (no_negative at 1 2 3 4 5 (Local 0) result) end (point 0 (bits64 a) 0)
  negate_natural k most is few (negsuc a) r then = absurd (none_below k most is a r)
  negate_natural k most is few (pos a) r then =
      let small : a < 2 ^ 64 = let u = up_to k most is a r in omega (arith, u, few) in
      let test : Bool = nat_eq (low I64 a) (low I64 0) in
      tested pages m host does traps at q end stop 4 Overflow (Set 1 (Copy (Local 0)) result) (point (0 + 4) a (flag (not test))) (not test) refl
      (λ c.
      let none : a ≡ 0 = sym (long_is a small) ∙ same_number (low I64 a) 0 (not_false test c) in
      gives pages m host does traps at store 60 (Negation k (pos a)) q then (pos 0) a (0 + 4 + 2 + 2 + 2) (ap (λ n. Negation k (pos n)) none ∙ natural_fits k most is Overflow 0 (omega arith)) none (omega arith))
      (λ c.
      let more : 0 < low I64 a = some_number (low I64 a) (not_true test c) in
      let some : 0 < a = subst (λ n. 0 < n) (long_is a small) more in
      dies pages m host does traps at store 60 (Negation k (pos a)) q then Overflow (0 + 4 + 2 + 3 + 0) (natural_under k most is Overflow (neg_ℤ (pos a)) (omega (arith, ints, some))) (omega arith))

  pub negate_signed : (k : Kind) (h : ℕ) → IsSigned k h → h ≤ 2 ^ 63 → (a : ℤ) → InRange k a → Owes (Negation k a) → Before pages m does (signed_negative at 1 2 3 4 5 (negsuc (h - 1)) (Local 0) result) end (point 0 (bits64 a) 0)
  negate_signed k h is few a r then =
      let more = is.some in
      let x : Between a h = ranged k h is a r in
      let wa : Wide a = between_is_wide a h few more x in
      let test : Bool = nat_eq (low I64 (bits64 a)) (low I64 (bits64 (negsuc (h - 1)))) in
      tested pages m host does traps at q end stop 4 Overflow (Set 1 (Binary I64 binary_op.Sub (Long (pos 0)) (Local 0)) result) (point (0 + 4) (bits64 a) (flag test)) test refl
      (λ c.
      let f : Between (neg_ℤ a) h = negative_between a h more x (other_words a (negsuc (h - 1)) c) in
      let wide : Wide (neg_ℤ a) = between_is_wide (neg_ℤ a) h few more f in
      let word = turned_exact (pos 0 -ℤ a) (low I64 (low I64 (bits64 (pos 0)) + 2 ^ 64 - low I64 (bits64 a))) (difference_word (pos 0) a (omega arith) wa) (subst Wide (sym (from_zero a)) wide) in
      gives pages m host does traps at store 60 (Negation k a) q then (neg_ℤ a) (low I64 (low I64 0 + 2 ^ 64 - low I64 (bits64 a))) (0 + 4 + 2 + 4 + 2) (signed_fits k h is Overflow (neg_ℤ a) f) (word ∙ ap bits64 (from_zero a)) (omega arith))
      (λ c.
      let e : a ≡ negsuc (h - 1) = word_of_one a (negsuc (h - 1)) wa (omega (arith, few, more)) c in
      dies pages m host does traps at store 60 (Negation k a) q then Overflow (0 + 4 + 2 + 3 + 0) (ap (Negation k) e ∙ signed_out k h is Overflow (pos (suc (h - 1))) (inl (omega (arith, ints)))) (omega arith))
