-- Numbers with signs: sums, differences, quotients and products, said once for all widths.
use Rattle.std.proofs.Common.{◌≡◌, ◌⊎◌, inl, inr, ℕ, ◌+◌, ◌-◌, ◌*◌, ◌<◌, ◌≤◌, ◌^◌, List, [], ◌∷◌, Bool, true, false, not, nat_lt, nat_eq, Some, Result, Ok, Err, ℤ, pos, negsuc, ◌+ℤ◌, ◌-ℤ◌, ◌<ℤ◌, refl, sym, ap, ◌∙◌, subst, arith}
use Rattle.std.specs.Prelude.{int_lt, int_div}
use Rattle.std.proofs.lemmas.Bool.Decides.{nat_tests}
use Rattle.mo_num.specs.declared.operator.NumTrap.{NumTrap}
use Rattle.mo_num.specs.declared.operator.NumTrap.TheVariants.{Overflow, DivideByZero}
use Rattle.wasm_tree.specs.declared.trap.Trap.{Trap}
use Rattle.wasm_tree.specs.declared.types.ValueType.TheVariants.{I32, I64}
use Rattle.wasm_tree.specs.declared.op.Comparison.TheVariants.{Eq, Ne}
use Rattle.wasm_tree.specs.declared.op.BinaryOperator.{BinaryOperator}
use Rattle.wasm_tree.specs.declared.op.BinaryOperator.TheVariants as binary_op
use Rattle.wasm_tree.specs.Numeric.{low, flag, signed, compare, binary}
use Rattle.wasm_tree.specs.Exec.{Store, Host, bits64}
use Rattle.low_ir.specs.declared.op.Operand.TheVariants.{Local, Long}
use Rattle.low_ir.specs.declared.op.Operation.TheVariants.{Binary, Compare}
use Rattle.low_ir.specs.Tree.{Code, Stop, Return, Set, If, Module}
use Rattle.low_ir.specs.Numbering.{host_trap}
use Rattle.low_rules.specs.Rule.{At, CodeEnd, Stops, CallEnd, Comes, Dies, Contracts, after_block, Before, ends}
use Rattle.low_rules.specs.Lines.{host_end}
use Rattle.low_rules.proofs.Steps.{on_ok, on_flag}
use Rattle.heap_layout.specs.Endings.{trap_end}
use Rattle.number_routines.specs.declared.places.TrapPlaces.{TrapPlaces}
use Rattle.number_routines.specs.Codes.{unless, narrow, signed_sum, signed_difference, signed_quotient}
use Rattle.number_routines.specs.Lines.{long_of, Answers}
use Rattle.number_routines.proofs.Wide.{Wide, long_is, signed_back, bits_small, unequal_flags, equal_flags}
use Rattle.number_routines.proofs.Turns.{Turned, turned_out, sum_turned, sum_same_test, sum_other_test, difference_word, difference_same_test, difference_other_test}
use Rattle.number_routines.proofs.Signs.{Between, Narrow, narrow_test, between_is_wide, zero_word, quotient_between, quotient_word}
use Rattle.number_routines.proofs.Runs.{told, tested, gives, dies}

same_number : (i j : ℕ) → nat_eq i j ≡ true → i ≡ j
same_number i j e = grind (arith, nat_tests, e)

apart : (i j : ℕ) → nat_eq i j ≡ false → i ≡ j → ⊥
apart i j e k = grind (arith, nat_tests, e, k)

-- Words are the same only of one number.
pub word_of_one : (a b : ℤ) → Wide a → Wide b → nat_eq (low I64 (bits64 a)) (low I64 (bits64 b)) ≡ true → a ≡ b
word_of_one a b wa wb e =
    let same : bits64 a ≡ bits64 b = sym (long_is (bits64 a) (bits_small a wa)) ∙ same_number (low I64 (bits64 a)) (low I64 (bits64 b)) e ∙ long_is (bits64 b) (bits_small b wb) in
    sym (signed_back a wa) ∙ ap (signed I64) same ∙ signed_back b wb

pub other_words : (a b : ℤ) → nat_eq (low I64 (bits64 a)) (low I64 (bits64 b)) ≡ false → a ≡ b → ⊥
other_words a b e k = apart (low I64 (bits64 a)) (low I64 (bits64 b)) e (ap (λ z. low I64 (bits64 z)) k)

module _ {World : Type 0} (pages : ℕ) (m : Module) (host : Host World) (does : Contracts World) (traps : (store : Store World) (args : List ℕ) (q : CallEnd World → Type 0) → q (host_end store (host host_trap args store.memory store.world)) → does host_trap store args q) (at : TrapPlaces) (store : Store World) (q : CallEnd World → Type 0) where
  abbrev point : ℕ → ℕ → ℕ → ℕ → ℕ → ℕ → ℕ → ℕ → At World
  point spent a b r x y c d = record { spent = spent; store = store; locals = a ∷ b ∷ r ∷ x ∷ y ∷ c ∷ d ∷ [] }

  abbrev result : Code
  result = Return (Some (Local 2))

  abbrev end : CodeEnd World → Type 0
  end = ends (long_of (I64 ∷ I64 ∷ [])) q

  stop : (cause : Trap) (spent : ℕ) (store : Store World) → q (Dies cause spent store) → end (Stops cause spent store)
  stop cause spent store k = k

  module _ (a b : ℤ) (wa : Wide a) (wb : Wide b) (answer : Result ℤ NumTrap) (then : (end : CallEnd World) → Answers host at store 60 answer end → q end) where
    abbrev Runs : Code → Type 0
    Runs code = Before pages m does code end (point 0 (bits64 a) (bits64 b) 0 0 0 0 0)

    -- what an operator gives exactly, where it is in a range with so many numbers below 0
    pub narrow_runs : (o : BinaryOperator) (h : ℕ) (z : ℤ) → 0 < h → h ≤ 2 ^ 62 → Wide z → binary I64 o (bits64 a) (bits64 b) ≡ Ok (bits64 z) → (Between z h → answer ≡ Ok z) → ((pos (h - 1) <ℤ z) ⊎ (z <ℤ negsuc (h - 1)) → answer ≡ Err Overflow)
        → Runs (narrow at 2 3 4 5 6 o (pos h) (pos (2 * h - 1)) (Local 0) (Local 1) result)
    narrow_runs o h z more few wide is fits not_fits =
        let raised : ℕ = low I64 (bits64 z + h) in
        let test : Bool = nat_lt (low I64 (2 * h - 1)) (low I64 raised) in
        on_ok _ _ _ (bits64 z) is
        (tested pages m host does traps at q end stop 5 Overflow result (point (0 + 4 + 4 + 4) (bits64 a) (bits64 b) (bits64 z) raised 0 (flag test) 0) test refl
        (λ c. inside c (narrow_test z h wide more few))
        (λ c. outside c (narrow_test z h wide more few)))
      where
        inside : nat_lt (low I64 (2 * h - 1)) (low I64 (low I64 (bits64 z + h))) ≡ false
            → Narrow z h
            → q (Comes (0 + 4 + 4 + 4 + 2 + 2) store (Some (bits64 z)))
        inside c (inl n) = gives pages m host does traps at store 60 answer q then z (bits64 z) (0 + 4 + 4 + 4 + 2 + 2) (fits (n.1, n.2)) refl (omega arith)
        inside c (inr n) = let no : false ≡ true = sym c ∙ n.0 in absurd (cc no)

        outside : nat_lt (low I64 (2 * h - 1)) (low I64 (low I64 (bits64 z + h))) ≡ true
            → Narrow z h
            → q (trap_end store (0 + 4 + 4 + 4 + 2 + 3 + 0) (told pages m host does traps at Overflow store))
        outside c (inl n) = let no : true ≡ false = sym c ∙ n.0 in absurd (cc no)
        outside c (inr n) = dies pages m host does traps at store 60 answer q then Overflow (0 + 4 + 4 + 4 + 2 + 3 + 0) (not_fits n.1) (omega arith)

    -- the tests of a sum or difference that 64 bits may have turned
    differing : (exact : ℤ) (r : ℕ) (s t : Bool) → Turned exact r → ((z : ℤ) → Wide z → r ≡ bits64 z → z ≡ exact → s ≡ t) → ((z : ℤ) → Wide z → r ≡ bits64 z → (z +ℤ pos (2 ^ 64) ≡ exact) ⊎ (z ≡ exact +ℤ pos (2 ^ 64)) → s ≡ not t)
        → (Wide exact → answer ≡ Ok exact) → ((pos (2 ^ 63 - 1) <ℤ exact) ⊎ (exact <ℤ negsuc (2 ^ 63 - 1)) → answer ≡ Err Overflow)
        → Before pages m does (unless at 5 Overflow result) end (point (0 + 4 + 4 + 4 + 4) (bits64 a) (bits64 b) r 0 0 (compare I32 Ne (flag s) (flag t)) (flag t))
    differing exact r s t T same other fits not_fits = by T.is
      where
        by : (T.z ≡ exact) ⊎ ((T.z +ℤ pos (2 ^ 64) ≡ exact) ⊎ (T.z ≡ exact +ℤ pos (2 ^ 64))) → Before pages m does (unless at 5 Overflow result) end (point (0 + 4 + 4 + 4 + 4) (bits64 a) (bits64 b) r 0 0 (compare I32 Ne (flag s) (flag t)) (flag t))
        by (inl e) =
            tested pages m host does traps at q end stop 5 Overflow result (point (0 + 4 + 4 + 4 + 4) (bits64 a) (bits64 b) r 0 0 (compare I32 Ne (flag s) (flag t)) (flag t)) false (unequal_flags s t (same T.z T.wide T.bits e))
            (λ c. gives pages m host does traps at store 60 answer q then exact r (0 + 4 + 4 + 4 + 4 + 2 + 2) (fits (subst Wide e T.wide)) (T.bits ∙ ap bits64 e) (omega arith))
            (λ c. absurd (cc c))
        by (inr e) =
            tested pages m host does traps at q end stop 5 Overflow result (point (0 + 4 + 4 + 4 + 4) (bits64 a) (bits64 b) r 0 0 (compare I32 Ne (flag s) (flag t)) (flag t)) true (equal_flags s t (other T.z T.wide T.bits e))
            (λ c. absurd (cc c))
            (λ c. dies pages m host does traps at store 60 answer q then Overflow (0 + 4 + 4 + 4 + 4 + 2 + 3 + 0) (not_fits (turned_out T.z exact T.wide e)) (omega arith))

    t_is : int_lt (signed I64 (bits64 b)) (signed I64 0) ≡ int_lt b (pos 0)
    t_is = ap (λ z. int_lt z (signed I64 0)) (signed_back b wb)

    read : (r : ℕ) (z : ℤ) → Wide z → r ≡ bits64 z → signed I64 r ≡ z
    read r z wide e = ap (signed I64) e ∙ signed_back z wide

    pub signed_sum_runs : (Wide (a +ℤ b) → answer ≡ Ok (a +ℤ b)) → ((pos (2 ^ 63 - 1) <ℤ (a +ℤ b)) ⊎ ((a +ℤ b) <ℤ negsuc (2 ^ 63 - 1)) → answer ≡ Err Overflow) → Runs (signed_sum at 2 3 4 5 6 (Local 0) (Local 1) result)
    signed_sum_runs fits not_fits =
        let r : ℕ = low I64 (bits64 a + bits64 b) in
        differing (a +ℤ b) r (int_lt (signed I64 r) (signed I64 (bits64 a))) (int_lt (signed I64 (bits64 b)) (signed I64 0)) (sum_turned a b wa wb)
        (λ z wide bits e. (λ i. int_lt (read r z wide bits i) (signed_back a wa i)) ∙ sum_same_test a b z e ∙ sym t_is)
        (λ z wide bits e. (λ i. int_lt (read r z wide bits i) (signed_back a wa i)) ∙ sum_other_test a b z wa wb wide e ∙ ap not (sym t_is))
        fits not_fits

    pub signed_difference_runs : (Wide (a -ℤ b) → answer ≡ Ok (a -ℤ b)) → ((pos (2 ^ 63 - 1) <ℤ (a -ℤ b)) ⊎ ((a -ℤ b) <ℤ negsuc (2 ^ 63 - 1)) → answer ≡ Err Overflow) → Runs (signed_difference at 2 3 4 5 6 (Local 0) (Local 1) result)
    signed_difference_runs fits not_fits =
        let r : ℕ = low I64 (low I64 (bits64 a) + 2 ^ 64 - low I64 (bits64 b)) in
        differing (a -ℤ b) r (int_lt (signed I64 (bits64 a)) (signed I64 r)) (int_lt (signed I64 (bits64 b)) (signed I64 0)) (difference_word a b wa wb)
        (λ z wide bits e. (λ i. int_lt (signed_back a wa i) (read r z wide bits i)) ∙ difference_same_test a b z e ∙ sym t_is)
        (λ z wide bits e. (λ i. int_lt (signed_back a wa i) (read r z wide bits i)) ∙ difference_other_test a b z wa wb wide e ∙ ap not (sym t_is))
        fits not_fits

    abbrev divides : Code
    divides = Set 2 (Binary I64 binary_op.DivS (Local 0) (Local 1)) result

    abbrev guarded : ℤ → Code
    guarded first = Set 5 (Compare I64 Eq (Local 0) (Long first)) (If (Local 5) (Set 5 (Compare I64 Eq (Local 1) (Long (negsuc 0))) (unless at 5 Overflow Stop)) Stop divides)

    -- a quotient, where the least number of the kind is given
    pub signed_quotient_runs : (h : ℕ) → 0 < h → h ≤ 2 ^ 63 → Between a h → (b ≡ pos 0 → answer ≡ Err DivideByZero) → ((b ≡ pos 0 → ⊥) → Between (int_div a b) h → answer ≡ Ok (int_div a b)) → (a ≡ negsuc (h - 1) → b ≡ negsuc 0 → answer ≡ Err Overflow)
        → Runs (signed_quotient at 2 3 4 5 6 (negsuc (h - 1)) (Local 0) (Local 1) result)
    signed_quotient_runs h more few between none fits not_fits =
        let zero_test : Bool = nat_eq (low I64 (bits64 b)) 0 in
        tested pages m host does traps at q end stop 5 DivideByZero (guarded (negsuc (h - 1))) (point (0 + 3) (bits64 a) (bits64 b) 0 0 0 (flag zero_test) 0) zero_test refl
        (λ c. guard (λ e. no_zero c e))
        (λ c. dies pages m host does traps at store 60 answer q then DivideByZero (0 + 3 + 2 + 3 + 0) (none (zero_word b wb (sym (long_is (bits64 b) (bits_small b wb)) ∙ same_number (low I64 (bits64 b)) 0 c))) (omega arith))
      where
        no_zero : nat_eq (low I64 (bits64 b)) 0 ≡ false → b ≡ pos 0 → ⊥
        no_zero c e = apart (low I64 (bits64 b)) 0 c (ap (λ z. low I64 (bits64 z)) e)

        wide_least : Wide (negsuc (h - 1))
        wide_least = omega (arith, few, more)

        finish : (spent c : ℕ) → spent ≤ 50 → (b ≡ pos 0 → ⊥) → Between (int_div a b) h → Before pages m does divides end (point spent (bits64 a) (bits64 b) 0 0 0 c 0)
        finish spent c le ne is = on_ok _ _ _ (bits64 (int_div a b)) (quotient_word a b wa wb ne (between_is_wide (int_div a b) h few more is)) (gives pages m host does traps at store 60 answer q then (int_div a b) (bits64 (int_div a b)) (spent + 4 + 2) (fits ne is) refl (omega (arith, le)))

        guard : (b ≡ pos 0 → ⊥) → Before pages m does (guarded (negsuc (h - 1))) end (point (0 + 3 + 2) (bits64 a) (bits64 b) 0 0 0 (flag (nat_eq (low I64 (bits64 b)) 0)) 0)
        guard ne =
            let least_test : Bool = nat_eq (low I64 (bits64 a)) (low I64 (bits64 (negsuc (h - 1)))) in
            on_flag _ _ least_test
            (λ c. finish (0 + 3 + 2 + 4 + 2) (flag least_test) (omega arith) ne (quotient_between a b h more between ne (λ e k. other_words a (negsuc (h - 1)) c e)))
            (λ c.
            let one_test : Bool = nat_eq (low I64 (bits64 b)) (low I64 (bits64 (negsuc 0))) in
            tested pages m host does traps at q (after_block (Before pages m does divides end) end) (λ cause spent store k. k) 5 Overflow Stop (point (0 + 3 + 2 + 4 + 2 + 4) (bits64 a) (bits64 b) 0 0 0 (flag one_test) 0) one_test refl
            (λ d. finish (0 + 3 + 2 + 4 + 2 + 4 + 2) (flag one_test) (omega arith) ne (quotient_between a b h more between ne (λ k e. other_words b (negsuc 0) d e)))
            (λ d. dies pages m host does traps at store 60 answer q then Overflow (0 + 3 + 2 + 4 + 2 + 4 + 2 + 3 + 0) (not_fits (word_of_one a (negsuc (h - 1)) wa wide_least c) (word_of_one b (negsuc 0) wb (omega arith) d)) (omega arith)))
