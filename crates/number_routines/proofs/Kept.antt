-- Calls of the other routines.
use Rattle.std.proofs.Common.{ℕ, zero, suc, ◌-◌, ◌≤◌, ◌^◌, List, [], ◌∷◌, Some, ℤ, pos, refl, arith}
use Rattle.std.specs.Prelude.{int_lt}
use Rattle.std.specs.Ordering.{int_eq}
use Rattle.mo_num.specs.declared.kind.Kind.{Kind}
use Rattle.mo_num.specs.declared.kind.Kind.TheVariants.{Nat, Int, Nat8, Nat16, Nat32, Nat64, Int8, Int16, Int32, Int64}
use Rattle.mo_num.specs.Kinds.{InRange}
use Rattle.mo_num.specs.Arith.{Negation}
use Rattle.mo_values.specs.declared.operation.Wrapping.{Wrapping}
use Rattle.mo_values.specs.Numbers.{exact, wrapped, compared}
use Rattle.wasm_tree.specs.declared.types.FunctionType.{FunctionType}
use Rattle.wasm_tree.specs.declared.types.ValueType.TheVariants.{I64}
use Rattle.wasm_tree.specs.Exec.{Store, Host, bits64}
use Rattle.low_ir.specs.declared.op.Operand.TheVariants.{Local}
use Rattle.low_ir.specs.Tree.{Return, Module}
use Rattle.low_ir.specs.Numbering.{host_trap}
use Rattle.low_ir.specs.Meaning.{Calls}
use Rattle.low_ir.specs.Frames.{words, enter}
use Rattle.low_rules.specs.Rule.{CallEnd, Contracts, ComesTo, Before, ends}
use Rattle.low_rules.specs.Lines.{host_end}
use Rattle.low_rules.proofs.Entering.{routine}
use Rattle.number_routines.specs.declared.places.TrapPlaces.{TrapPlaces}
use Rattle.number_routines.specs.Codes.{negate, wrap, order, sameness}
use Rattle.number_routines.specs.Lines.{long_of, of_one, of_two, Results, Answers, Tells}
use Rattle.number_routines.specs.Laws.{NegationKeepsItsLine, WrappingKeepsItsLine, OrderKeepsItsLine, SamenessKeepsItsLine}
use Rattle.number_routines.proofs.Calculated.{host_traps}
use Rattle.number_routines.proofs.Negatives.{negate_natural, negate_signed}
use Rattle.number_routines.proofs.WrapRuns.{wraps}
use Rattle.number_routines.proofs.Comparisons.{order_runs, sameness_runs}

negate_fits : (at : TrapPlaces) (k : Kind) (signature : ℕ) → words (long_of (I64 ∷ [])) (of_one signature (negate at 1 2 3 4 5 k)) ≤ 20
negate_fits at Nat signature = omega arith
negate_fits at Int signature = omega arith
negate_fits at Nat8 signature = omega arith
negate_fits at Nat16 signature = omega arith
negate_fits at Nat32 signature = omega arith
negate_fits at Nat64 signature = omega arith
negate_fits at Int8 signature = omega arith
negate_fits at Int16 signature = omega arith
negate_fits at Int32 signature = omega arith
negate_fits at Int64 signature = omega arith

wrap_fits : (w : Wrapping) (k : Kind) (signature : ℕ) → words (long_of (I64 ∷ I64 ∷ [])) (of_two signature (wrap 2 w k)) ≤ 20
wrap_fits w Nat signature = omega arith
wrap_fits w Int signature = omega arith
wrap_fits w Nat8 signature = omega arith
wrap_fits w Nat16 signature = omega arith
wrap_fits w Nat32 signature = omega arith
wrap_fits w Nat64 signature = omega arith
wrap_fits w Int8 signature = omega arith
wrap_fits w Int16 signature = omega arith
wrap_fits w Int32 signature = omega arith
wrap_fits w Int64 signature = omega arith

module _ {World : Type 0} (pages : ℕ) (m : Module) (host : Host World) (does : Contracts World) (traps : (store : Store World) (args : List ℕ) (q : CallEnd World → Type 0) → q (host_end store (host host_trap args store.memory store.world)) → does host_trap store args q) (at : TrapPlaces) (store : Store World) (q : CallEnd World → Type 0) where
  negates : (k : Kind) (a : ℤ) → InRange k a → ((end : CallEnd World) → Answers host at store 60 (Negation k a) end → q end)
      → Before pages m does (negate at 1 2 3 4 5 k (Local 0) (Return (Some (Local 1)))) (ends (long_of (I64 ∷ [])) q) (record { spent = 0; store = store; locals = bits64 a ∷ 0 ∷ 0 ∷ 0 ∷ 0 ∷ 0 ∷ [] })
  negates Nat a r then = negate_natural pages m host does traps at store q Nat (2 ^ 63 - 1) (record { first = refl; last = refl }) (omega arith) a r then
  negates Int a r then = negate_signed pages m host does traps at store q Int (2 ^ 63) (record { first = refl; last = refl; some = omega arith }) (omega arith) a r then
  negates Nat8 a r then = negate_natural pages m host does traps at store q Nat8 (2 ^ 8 - 1) (record { first = refl; last = refl }) (omega arith) a r then
  negates Nat16 a r then = negate_natural pages m host does traps at store q Nat16 (2 ^ 16 - 1) (record { first = refl; last = refl }) (omega arith) a r then
  negates Nat32 a r then = negate_natural pages m host does traps at store q Nat32 (2 ^ 32 - 1) (record { first = refl; last = refl }) (omega arith) a r then
  negates Nat64 a r then = negate_natural pages m host does traps at store q Nat64 (2 ^ 64 - 1) (record { first = refl; last = refl }) (omega arith) a r then
  negates Int8 a r then = negate_signed pages m host does traps at store q Int8 (2 ^ 7) (record { first = refl; last = refl; some = omega arith }) (omega arith) a r then
  negates Int16 a r then = negate_signed pages m host does traps at store q Int16 (2 ^ 15) (record { first = refl; last = refl; some = omega arith }) (omega arith) a r then
  negates Int32 a r then = negate_signed pages m host does traps at store q Int32 (2 ^ 31) (record { first = refl; last = refl; some = omega arith }) (omega arith) a r then
  negates Int64 a r then = negate_signed pages m host does traps at store q Int64 (2 ^ 63) (record { first = refl; last = refl; some = omega arith }) (omega arith) a r then

pub negation_kept : (World : Type 0) → NegationKeepsItsLine World
negation_kept World pages m host at k f signature there zero room less fits_room store a r = absurd (omega arith)
negation_kept World pages m host at k f signature there (suc zero) room less fits_room store a r = absurd (omega arith)
negation_kept World pages m host at k f signature there (suc (suc deep)) room less fits_room store a r =
    let fn = of_one signature (negate at 1 2 3 4 5 k) in
    let t : FunctionType = long_of (I64 ∷ []) in
    let few = negate_fits at k signature in
    let inner : Calls World = enter (suc deep) pages m host (room - words t fn) in
    let does : Contracts World = λ f store args q. ComesTo inner f store args q in
    routine pages m host (suc deep) room f t fn does store (bits64 a ∷ []) (Answers host at store 60 (Negation k a)) there.typed there.there (omega (arith, few, fits_room)) (λ f store args q c. c)
    (negates pages m host does (λ store args q h. host_traps pages m host deep (room - words t fn) store args q h) at store (Answers host at store 60 (Negation k a)) k a r (λ end h. h))

-- Code that does not trap needs no text.
nowhere : TrapPlaces
nowhere = record { overflow = pos 0; underflow = pos 0; divide_by_zero = pos 0 }

pub wrapping_kept : (World : Type 0) → WrappingKeepsItsLine World
wrapping_kept World pages m host w k wide f signature there zero room less fits_room store a b r s = absurd (omega arith)
wrapping_kept World pages m host w k wide f signature there (suc zero) room less fits_room store a b r s = absurd (omega arith)
wrapping_kept World pages m host w k wide f signature there (suc (suc deep)) room less fits_room store a b r s =
    let fn = of_two signature (wrap 2 w k) in
    let t : FunctionType = long_of (I64 ∷ I64 ∷ []) in
    let few = wrap_fits w k signature in
    let inner : Calls World = enter (suc deep) pages m host (room - words t fn) in
    let does : Contracts World = λ f store args q. ComesTo inner f store args q in
    routine pages m host (suc deep) room f t fn does store (bits64 a ∷ bits64 b ∷ []) (Results store 60 (wrapped k (exact w a b))) there.typed there.there (omega (arith, few, fits_room)) (λ f store args q c. c)
    (wraps pages m host does (λ store args q h. host_traps pages m host deep (room - words t fn) store args q h) nowhere store (Results store 60 (wrapped k (exact w a b))) w k wide a b r s (λ end h. h))

pub order_kept : (World : Type 0) → OrderKeepsItsLine World
order_kept World pages m host o k f signature there zero room less fits_room store a b r s = absurd (omega arith)
order_kept World pages m host o k f signature there (suc deep) room less fits_room store a b r s =
    let fn = of_two signature (order 2 5 o k) in
    let t : FunctionType = long_of (I64 ∷ I64 ∷ []) in
    let inner : Calls World = enter deep pages m host (room - words t fn) in
    let does : Contracts World = λ f store args q. ComesTo inner f store args q in
    routine pages m host deep room f t fn does store (bits64 a ∷ bits64 b ∷ []) (Tells store 60 (compared o (int_lt a b) (int_lt b a))) there.typed there.there (omega (arith, fits_room)) (λ f store args q c. c)
    (order_runs pages m host does store (Tells store 60 (compared o (int_lt a b) (int_lt b a))) o k a b r s (λ end h. h))

pub sameness_kept : (World : Type 0) → SamenessKeepsItsLine World
sameness_kept World pages m host k f signature there zero room less fits_room store a b r s = absurd (omega arith)
sameness_kept World pages m host k f signature there (suc deep) room less fits_room store a b r s =
    let fn = of_two signature (sameness 2 5) in
    let t : FunctionType = long_of (I64 ∷ I64 ∷ []) in
    let inner : Calls World = enter deep pages m host (room - words t fn) in
    let does : Contracts World = λ f store args q. ComesTo inner f store args q in
    routine pages m host deep room f t fn does store (bits64 a ∷ bits64 b ∷ []) (Tells store 60 (int_eq a b)) there.typed there.there (omega (arith, fits_room)) (λ f store args q c. c)
    (sameness_runs pages m host does store (Tells store 60 (int_eq a b)) k a b r s (λ end h. h))
