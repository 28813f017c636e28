-- Arithmetic that wraps, at each kind with a width.
use Rattle.std.proofs.Common.{◌≡◌, ℕ, ◌+◌, ◌-◌, ◌<◌, ◌≤◌, ◌^◌, List, [], ◌∷◌, true, Some, Ok, ℤ, pos, negsuc, refl, arith}
use Rattle.mo_num.specs.declared.kind.Kind.{Kind}
use Rattle.mo_num.specs.declared.kind.Kind.TheVariants.{Nat, Int, Nat8, Nat16, Nat32, Nat64, Int8, Int16, Int32, Int64}
use Rattle.mo_num.specs.Kinds.{InRange}
use Rattle.mo_values.specs.declared.operation.Wrapping.{Wrapping}
use Rattle.mo_values.specs.Numbers.{has_width, exact, wrapped}
use Rattle.wasm_tree.specs.declared.types.ValueType.TheVariants.{I64}
use Rattle.wasm_tree.specs.declared.op.BinaryOperator.{BinaryOperator}
use Rattle.wasm_tree.specs.Numeric.{binary}
use Rattle.wasm_tree.specs.Exec.{Store, Host, bits64}
use Rattle.low_ir.specs.declared.op.Operand.TheVariants.{Local}
use Rattle.low_ir.specs.Tree.{Code, Return, Module}
use Rattle.low_ir.specs.Numbering.{host_trap}
use Rattle.low_rules.specs.Rule.{At, CodeEnd, CallEnd, Contracts, Before, ends}
use Rattle.low_rules.specs.Lines.{host_end}
use Rattle.low_rules.proofs.Steps.{on_ok}
use Rattle.number_routines.specs.declared.places.TrapPlaces.{TrapPlaces}
use Rattle.number_routines.specs.Codes.{turned, low_bits, signed_bits, wrapping_operator, wrap}
use Rattle.number_routines.specs.Lines.{long_of, Answers}
use Rattle.number_routines.proofs.KindRuns.{IsNatural, IsSigned, up_to, none_below, ranged}
use Rattle.number_routines.proofs.Signs.{between_is_wide}
use Rattle.number_routines.proofs.Wraps.{Congruent, word_of, operator_word, natural_congruent, signed_congruent, natural_part, signed_part, word_nat8, word_nat16, word_nat32, word_nat64, word_int8, word_int16, word_int32, word_int64}
use Rattle.number_routines.proofs.Runs.{gives}

module _ {World : Type 0} (pages : ℕ) (m : Module) (host : Host World) (does : Contracts World) (traps : (store : Store World) (args : List ℕ) (q : CallEnd World → Type 0) → q (host_end store (host host_trap args store.memory store.world)) → does host_trap store args q) (at : TrapPlaces) (store : Store World) (q : CallEnd World → Type 0) where
  abbrev point : ℕ → ℕ → At World
  point a b = record { spent = 0; store = store; locals = a ∷ b ∷ 0 ∷ 0 ∷ 0 ∷ 0 ∷ 0 ∷ [] }

  abbrev result : Code
  result = Return (Some (Local 2))

  abbrev end : CodeEnd World → Type 0
  end = ends (long_of (I64 ∷ I64 ∷ [])) q

  abbrev Owes : ℤ → Type 0
  Owes n = (end : CallEnd World) → Answers host at store 60 (Ok n) end → q end

  module _ (o : BinaryOperator) (a b w : ℕ) (is : binary I64 o a b ≡ Ok w) (n : ℤ) (then : Owes n) where
    turned_runs : w ≡ bits64 n → Before pages m does (turned 2 o (Local 0) (Local 1) result) end (point a b)
    turned_runs e = on_ok _ _ _ w is (gives pages m host does traps at store 60 (Ok n) q then n w (0 + 4 + 2) refl e (omega arith))

    low_bits_runs : (most : ℕ) → natural_part w most ≡ bits64 n → Before pages m does (low_bits 2 o (pos most) (Local 0) (Local 1) result) end (point a b)
    low_bits_runs most e = on_ok _ _ _ w is (gives pages m host does traps at store 60 (Ok n) q then n (natural_part w most) (0 + 4 + 4 + 2) refl e (omega arith))

    signed_bits_runs : (h most : ℕ) → signed_part w h most ≡ bits64 n → Before pages m does (signed_bits 2 o (pos h) (pos most) (Local 0) (Local 1) result) end (point a b)
    signed_bits_runs h most e = on_ok _ _ _ w is (gives pages m host does traps at store 60 (Ok n) q then n (signed_part w h most) (0 + 4 + 4 + 4 + 4 + 2) refl e (omega arith))

  abbrev Wraps : Wrapping → Kind → ℤ → ℤ → Type 0
  Wraps w k a b = Before pages m does (wrap 2 w k (Local 0) (Local 1) result) end (point (bits64 a) (bits64 b))

  -- the words of operands of a kind, and the word of the operator
  abbrev Words : Wrapping → ℤ → ℤ → Type 0
  Words w a b = Congruent (exact w a b) (word_of w (bits64 a) (bits64 b))

  natural_words : (k : Kind) (most : ℕ) → IsNatural k most → most < 2 ^ 64 → (w : Wrapping) (a b : ℤ) → InRange k a → InRange k b → Words w a b
  natural_words k most is few w (negsuc a) b r s = absurd (none_below k most is a r)
  natural_words k most is few w (pos a) (negsuc b) r s = absurd (none_below k most is b s)
  natural_words k most is few w (pos a) (pos b) r s = natural_congruent w a b (let u = up_to k most is a r in omega (arith, u, few)) (let u = up_to k most is b s in omega (arith, u, few))

  signed_words : (k : Kind) (h : ℕ) → IsSigned k h → h ≤ 2 ^ 63 → (w : Wrapping) (a b : ℤ) → InRange k a → InRange k b → Words w a b
  signed_words k h is few w a b r s = signed_congruent w a b (between_is_wide a h few is.some (ranged k h is a r)) (between_is_wide b h few is.some (ranged k h is b s))

  pub wraps : (w : Wrapping) (k : Kind) → has_width k ≡ true → (a b : ℤ) → InRange k a → InRange k b → Owes (wrapped k (exact w a b)) → Wraps w k a b
  wraps w Nat wide a b r s then = absurd (cc wide)
  wraps w Int wide a b r s then = absurd (cc wide)
  wraps w Nat8 wide a b r s then =
      low_bits_runs (wrapping_operator w) (bits64 a) (bits64 b) (word_of w (bits64 a) (bits64 b)) (operator_word w (bits64 a) (bits64 b)) (wrapped Nat8 (exact w a b)) then 255
      (word_nat8 (exact w a b) (word_of w (bits64 a) (bits64 b)) (natural_words Nat8 255 (record { first = refl; last = refl }) (omega arith) w a b r s))
  wraps w Nat16 wide a b r s then =
      low_bits_runs (wrapping_operator w) (bits64 a) (bits64 b) (word_of w (bits64 a) (bits64 b)) (operator_word w (bits64 a) (bits64 b)) (wrapped Nat16 (exact w a b)) then 65535
      (word_nat16 (exact w a b) (word_of w (bits64 a) (bits64 b)) (natural_words Nat16 65535 (record { first = refl; last = refl }) (omega arith) w a b r s))
  wraps w Nat32 wide a b r s then =
      low_bits_runs (wrapping_operator w) (bits64 a) (bits64 b) (word_of w (bits64 a) (bits64 b)) (operator_word w (bits64 a) (bits64 b)) (wrapped Nat32 (exact w a b)) then 4294967295
      (word_nat32 (exact w a b) (word_of w (bits64 a) (bits64 b)) (natural_words Nat32 4294967295 (record { first = refl; last = refl }) (omega arith) w a b r s))
  wraps w Nat64 wide a b r s then =
      turned_runs (wrapping_operator w) (bits64 a) (bits64 b) (word_of w (bits64 a) (bits64 b)) (operator_word w (bits64 a) (bits64 b)) (wrapped Nat64 (exact w a b)) then
      (word_nat64 (exact w a b) (word_of w (bits64 a) (bits64 b)) (natural_words Nat64 (2 ^ 64 - 1) (record { first = refl; last = refl }) (omega arith) w a b r s))
  wraps w Int8 wide a b r s then =
      signed_bits_runs (wrapping_operator w) (bits64 a) (bits64 b) (word_of w (bits64 a) (bits64 b)) (operator_word w (bits64 a) (bits64 b)) (wrapped Int8 (exact w a b)) then 128 255
      (word_int8 (exact w a b) (word_of w (bits64 a) (bits64 b)) (signed_words Int8 128 (record { first = refl; last = refl; some = omega arith }) (omega arith) w a b r s))
  wraps w Int16 wide a b r s then =
      signed_bits_runs (wrapping_operator w) (bits64 a) (bits64 b) (word_of w (bits64 a) (bits64 b)) (operator_word w (bits64 a) (bits64 b)) (wrapped Int16 (exact w a b)) then 32768 65535
      (word_int16 (exact w a b) (word_of w (bits64 a) (bits64 b)) (signed_words Int16 32768 (record { first = refl; last = refl; some = omega arith }) (omega arith) w a b r s))
  wraps w Int32 wide a b r s then =
      signed_bits_runs (wrapping_operator w) (bits64 a) (bits64 b) (word_of w (bits64 a) (bits64 b)) (operator_word w (bits64 a) (bits64 b)) (wrapped Int32 (exact w a b)) then 2147483648 4294967295
      (word_int32 (exact w a b) (word_of w (bits64 a) (bits64 b)) (signed_words Int32 (2 ^ 31) (record { first = refl; last = refl; some = omega arith }) (omega arith) w a b r s))
  wraps w Int64 wide a b r s then =
      turned_runs (wrapping_operator w) (bits64 a) (bits64 b) (word_of w (bits64 a) (bits64 b)) (operator_word w (bits64 a) (bits64 b)) (wrapped Int64 (exact w a b)) then
      (word_int64 (exact w a b) (word_of w (bits64 a) (bits64 b)) (signed_words Int64 (2 ^ 63) (record { first = refl; last = refl; some = omega arith }) (omega arith) w a b r s))
