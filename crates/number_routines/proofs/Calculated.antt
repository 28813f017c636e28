-- Each operator at each kind.
use Rattle.std.proofs.Common.{◌≡◌, ℕ, zero, suc, ◌-◌, ◌≤◌, ◌^◌, List, [], ◌∷◌, Some, ℤ, pos, negsuc, refl, arith}
use Rattle.mo_num.specs.declared.kind.Kind.{Kind}
use Rattle.mo_num.specs.declared.kind.Kind.TheVariants.{Nat, Int, Nat8, Nat16, Nat32, Nat64, Int8, Int16, Int32, Int64}
use Rattle.mo_num.specs.declared.operator.Operator.{Operator}
use Rattle.mo_num.specs.declared.operator.Operator.TheVariants as operator
use Rattle.mo_num.specs.Kinds.{InRange}
use Rattle.mo_num.specs.Arith.{Arith}
use Rattle.wasm_tree.specs.declared.types.FunctionType.{FunctionType}
use Rattle.wasm_tree.specs.declared.types.ValueType.TheVariants.{I64}
use Rattle.wasm_tree.specs.Exec.{Store, Host, bits64}
use Rattle.low_ir.specs.declared.op.Operand.TheVariants.{Local}
use Rattle.low_ir.specs.Tree.{Code, Return, Module}
use Rattle.low_ir.specs.Numbering.{host_trap, host_types, host_signatures, type_of}
use Rattle.low_ir.specs.Meaning.{Calls}
use Rattle.low_ir.specs.Frames.{words, enter}
use Rattle.low_rules.specs.Rule.{At, CodeEnd, CallEnd, Contracts, ComesTo, Before, ends}
use Rattle.low_rules.specs.Lines.{host_end}
use Rattle.low_rules.proofs.Entering.{routine, answered}
use Rattle.number_routines.specs.declared.places.TrapPlaces.{TrapPlaces}
use Rattle.number_routines.specs.Codes.{calculate}
use Rattle.number_routines.specs.Lines.{long_of, of_two, Answers}
use Rattle.number_routines.specs.Laws.{IsStraight, ArithmeticKeepsItsLine}
use Rattle.number_routines.proofs.KindRuns.{add_natural, add_whole, add_narrow, add_signed, sub_natural, sub_narrow, sub_signed, mul_natural, mul_wide, mul_narrow, mul_signed, div_natural, div_signed, rem_natural, rem_signed}

fits : (at : TrapPlaces) (o : Operator) (k : Kind) → IsStraight o → (signature : ℕ) → words (long_of (I64 ∷ I64 ∷ [])) (of_two signature (calculate at 2 3 4 5 6 o k)) ≤ 20
fits at operator.Add Nat is signature = omega arith
fits at operator.Sub Nat is signature = omega arith
fits at operator.Mul Nat is signature = omega arith
fits at operator.Div Nat is signature = omega arith
fits at operator.Rem Nat is signature = omega arith
fits at operator.Add Int is signature = omega arith
fits at operator.Sub Int is signature = omega arith
fits at operator.Mul Int is signature = omega arith
fits at operator.Div Int is signature = omega arith
fits at operator.Rem Int is signature = omega arith
fits at operator.Add Nat8 is signature = omega arith
fits at operator.Sub Nat8 is signature = omega arith
fits at operator.Mul Nat8 is signature = omega arith
fits at operator.Div Nat8 is signature = omega arith
fits at operator.Rem Nat8 is signature = omega arith
fits at operator.Add Nat16 is signature = omega arith
fits at operator.Sub Nat16 is signature = omega arith
fits at operator.Mul Nat16 is signature = omega arith
fits at operator.Div Nat16 is signature = omega arith
fits at operator.Rem Nat16 is signature = omega arith
fits at operator.Add Nat32 is signature = omega arith
fits at operator.Sub Nat32 is signature = omega arith
fits at operator.Mul Nat32 is signature = omega arith
fits at operator.Div Nat32 is signature = omega arith
fits at operator.Rem Nat32 is signature = omega arith
fits at operator.Add Nat64 is signature = omega arith
fits at operator.Sub Nat64 is signature = omega arith
fits at operator.Mul Nat64 is signature = omega arith
fits at operator.Div Nat64 is signature = omega arith
fits at operator.Rem Nat64 is signature = omega arith
fits at operator.Add Int8 is signature = omega arith
fits at operator.Sub Int8 is signature = omega arith
fits at operator.Mul Int8 is signature = omega arith
fits at operator.Div Int8 is signature = omega arith
fits at operator.Rem Int8 is signature = omega arith
fits at operator.Add Int16 is signature = omega arith
fits at operator.Sub Int16 is signature = omega arith
fits at operator.Mul Int16 is signature = omega arith
fits at operator.Div Int16 is signature = omega arith
fits at operator.Rem Int16 is signature = omega arith
fits at operator.Add Int32 is signature = omega arith
fits at operator.Sub Int32 is signature = omega arith
fits at operator.Mul Int32 is signature = omega arith
fits at operator.Div Int32 is signature = omega arith
fits at operator.Rem Int32 is signature = omega arith
fits at operator.Add Int64 is signature = omega arith
fits at operator.Sub Int64 is signature = omega arith
fits at operator.Mul Int64 is signature = omega arith
fits at operator.Div Int64 is signature = omega arith
fits at operator.Rem Int64 is signature = omega arith
fits at operator.Pow k is signature = absurd is

module _ {World : Type 0} (pages : ℕ) (m : Module) (host : Host World) (does : Contracts World) (traps : (store : Store World) (args : List ℕ) (q : CallEnd World → Type 0) → q (host_end store (host host_trap args store.memory store.world)) → does host_trap store args q) (at : TrapPlaces) (store : Store World) (q : CallEnd World → Type 0) where
  abbrev point : ℕ → ℕ → At World
  point a b = record { spent = 0; store = store; locals = a ∷ b ∷ 0 ∷ 0 ∷ 0 ∷ 0 ∷ 0 ∷ [] }

  abbrev result : Code
  result = Return (Some (Local 2))

  abbrev end : CodeEnd World → Type 0
  end = ends (long_of (I64 ∷ I64 ∷ [])) q

  pub calculates : (o : Operator) (k : Kind) → IsStraight o → (a b : ℤ) → InRange k a → InRange k b → ((end : CallEnd World) → Answers host at store 60 (Arith o k a b) end → q end) → Before pages m does (calculate at 2 3 4 5 6 o k (Local 0) (Local 1) result) end (point (bits64 a) (bits64 b))
  calculates operator.Add Nat is a b r s then = add_natural pages m host does traps at store q Nat (2 ^ 63 - 1) (record { first = refl; last = refl }) (omega arith) a b r s then
  calculates operator.Sub Nat is a b r s then = sub_natural pages m host does traps at store q Nat (2 ^ 63 - 1) (record { first = refl; last = refl }) (omega arith) a b r s then
  calculates operator.Mul Nat is a b r s then = mul_wide pages m host does traps at store q Nat (2 ^ 63 - 1) (record { first = refl; last = refl }) (pos (2 ^ 63 - 1)) refl (omega arith) a b r s then
  calculates operator.Div Nat is a b r s then = div_natural pages m host does traps at store q Nat (2 ^ 63 - 1) (record { first = refl; last = refl }) (omega arith) a b r s then
  calculates operator.Rem Nat is a b r s then = rem_natural pages m host does traps at store q Nat (2 ^ 63 - 1) (record { first = refl; last = refl }) (omega arith) a b r s then
  calculates operator.Add Int is a b r s then = add_signed pages m host does traps at store q Int (record { first = refl; last = refl; some = omega arith }) a b r s then
  calculates operator.Sub Int is a b r s then = sub_signed pages m host does traps at store q Int (record { first = refl; last = refl; some = omega arith }) refl a b r s then
  calculates operator.Mul Int is a b r s then = mul_signed pages m host does traps at store q Int (record { first = refl; last = refl; some = omega arith }) a b r s then
  calculates operator.Div Int is a b r s then = div_signed pages m host does traps at store q Int (2 ^ 63) (record { first = refl; last = refl; some = omega arith }) (omega arith) a b r s then
  calculates operator.Rem Int is a b r s then = rem_signed pages m host does traps at store q Int (2 ^ 63) (record { first = refl; last = refl; some = omega arith }) (omega arith) a b r s then
  calculates operator.Add Nat8 is a b r s then = add_natural pages m host does traps at store q Nat8 (2 ^ 8 - 1) (record { first = refl; last = refl }) (omega arith) a b r s then
  calculates operator.Sub Nat8 is a b r s then = sub_natural pages m host does traps at store q Nat8 (2 ^ 8 - 1) (record { first = refl; last = refl }) (omega arith) a b r s then
  calculates operator.Mul Nat8 is a b r s then = mul_natural pages m host does traps at store q Nat8 (2 ^ 8 - 1) (record { first = refl; last = refl }) (omega arith) a b r s then
  calculates operator.Div Nat8 is a b r s then = div_natural pages m host does traps at store q Nat8 (2 ^ 8 - 1) (record { first = refl; last = refl }) (omega arith) a b r s then
  calculates operator.Rem Nat8 is a b r s then = rem_natural pages m host does traps at store q Nat8 (2 ^ 8 - 1) (record { first = refl; last = refl }) (omega arith) a b r s then
  calculates operator.Add Nat16 is a b r s then = add_natural pages m host does traps at store q Nat16 (2 ^ 16 - 1) (record { first = refl; last = refl }) (omega arith) a b r s then
  calculates operator.Sub Nat16 is a b r s then = sub_natural pages m host does traps at store q Nat16 (2 ^ 16 - 1) (record { first = refl; last = refl }) (omega arith) a b r s then
  calculates operator.Mul Nat16 is a b r s then = mul_natural pages m host does traps at store q Nat16 (2 ^ 16 - 1) (record { first = refl; last = refl }) (omega arith) a b r s then
  calculates operator.Div Nat16 is a b r s then = div_natural pages m host does traps at store q Nat16 (2 ^ 16 - 1) (record { first = refl; last = refl }) (omega arith) a b r s then
  calculates operator.Rem Nat16 is a b r s then = rem_natural pages m host does traps at store q Nat16 (2 ^ 16 - 1) (record { first = refl; last = refl }) (omega arith) a b r s then
  calculates operator.Add Nat32 is a b r s then = add_natural pages m host does traps at store q Nat32 (2 ^ 32 - 1) (record { first = refl; last = refl }) (omega arith) a b r s then
  calculates operator.Sub Nat32 is a b r s then = sub_natural pages m host does traps at store q Nat32 (2 ^ 32 - 1) (record { first = refl; last = refl }) (omega arith) a b r s then
  calculates operator.Mul Nat32 is a b r s then = mul_natural pages m host does traps at store q Nat32 (2 ^ 32 - 1) (record { first = refl; last = refl }) (omega arith) a b r s then
  calculates operator.Div Nat32 is a b r s then = div_natural pages m host does traps at store q Nat32 (2 ^ 32 - 1) (record { first = refl; last = refl }) (omega arith) a b r s then
  calculates operator.Rem Nat32 is a b r s then = rem_natural pages m host does traps at store q Nat32 (2 ^ 32 - 1) (record { first = refl; last = refl }) (omega arith) a b r s then
  calculates operator.Add Nat64 is a b r s then = add_whole pages m host does traps at store q Nat64 (2 ^ 64 - 1) (record { first = refl; last = refl }) refl a b r s then
  calculates operator.Sub Nat64 is a b r s then = sub_natural pages m host does traps at store q Nat64 (2 ^ 64 - 1) (record { first = refl; last = refl }) (omega arith) a b r s then
  calculates operator.Mul Nat64 is a b r s then = mul_wide pages m host does traps at store q Nat64 (2 ^ 64 - 1) (record { first = refl; last = refl }) (negsuc 0) refl (omega arith) a b r s then
  calculates operator.Div Nat64 is a b r s then = div_natural pages m host does traps at store q Nat64 (2 ^ 64 - 1) (record { first = refl; last = refl }) (omega arith) a b r s then
  calculates operator.Rem Nat64 is a b r s then = rem_natural pages m host does traps at store q Nat64 (2 ^ 64 - 1) (record { first = refl; last = refl }) (omega arith) a b r s then
  calculates operator.Add Int8 is a b r s then = add_narrow pages m host does traps at store q Int8 (2 ^ 7) (record { first = refl; last = refl; some = omega arith }) (omega arith) a b r s then
  calculates operator.Sub Int8 is a b r s then = sub_narrow pages m host does traps at store q Int8 (2 ^ 7) (record { first = refl; last = refl; some = omega arith }) refl (omega arith) a b r s then
  calculates operator.Mul Int8 is a b r s then = mul_narrow pages m host does traps at store q Int8 (2 ^ 7) (record { first = refl; last = refl; some = omega arith }) (omega arith) a b r s then
  calculates operator.Div Int8 is a b r s then = div_signed pages m host does traps at store q Int8 (2 ^ 7) (record { first = refl; last = refl; some = omega arith }) (omega arith) a b r s then
  calculates operator.Rem Int8 is a b r s then = rem_signed pages m host does traps at store q Int8 (2 ^ 7) (record { first = refl; last = refl; some = omega arith }) (omega arith) a b r s then
  calculates operator.Add Int16 is a b r s then = add_narrow pages m host does traps at store q Int16 (2 ^ 15) (record { first = refl; last = refl; some = omega arith }) (omega arith) a b r s then
  calculates operator.Sub Int16 is a b r s then = sub_narrow pages m host does traps at store q Int16 (2 ^ 15) (record { first = refl; last = refl; some = omega arith }) refl (omega arith) a b r s then
  calculates operator.Mul Int16 is a b r s then = mul_narrow pages m host does traps at store q Int16 (2 ^ 15) (record { first = refl; last = refl; some = omega arith }) (omega arith) a b r s then
  calculates operator.Div Int16 is a b r s then = div_signed pages m host does traps at store q Int16 (2 ^ 15) (record { first = refl; last = refl; some = omega arith }) (omega arith) a b r s then
  calculates operator.Rem Int16 is a b r s then = rem_signed pages m host does traps at store q Int16 (2 ^ 15) (record { first = refl; last = refl; some = omega arith }) (omega arith) a b r s then
  calculates operator.Add Int32 is a b r s then = add_narrow pages m host does traps at store q Int32 (2 ^ 31) (record { first = refl; last = refl; some = omega arith }) (omega arith) a b r s then
  calculates operator.Sub Int32 is a b r s then = sub_narrow pages m host does traps at store q Int32 (2 ^ 31) (record { first = refl; last = refl; some = omega arith }) refl (omega arith) a b r s then
  calculates operator.Mul Int32 is a b r s then = mul_narrow pages m host does traps at store q Int32 (2 ^ 31) (record { first = refl; last = refl; some = omega arith }) (omega arith) a b r s then
  calculates operator.Div Int32 is a b r s then = div_signed pages m host does traps at store q Int32 (2 ^ 31) (record { first = refl; last = refl; some = omega arith }) (omega arith) a b r s then
  calculates operator.Rem Int32 is a b r s then = rem_signed pages m host does traps at store q Int32 (2 ^ 31) (record { first = refl; last = refl; some = omega arith }) (omega arith) a b r s then
  calculates operator.Add Int64 is a b r s then = add_signed pages m host does traps at store q Int64 (record { first = refl; last = refl; some = omega arith }) a b r s then
  calculates operator.Sub Int64 is a b r s then = sub_signed pages m host does traps at store q Int64 (record { first = refl; last = refl; some = omega arith }) refl a b r s then
  calculates operator.Mul Int64 is a b r s then = mul_signed pages m host does traps at store q Int64 (record { first = refl; last = refl; some = omega arith }) a b r s then
  calculates operator.Div Int64 is a b r s then = div_signed pages m host does traps at store q Int64 (2 ^ 63) (record { first = refl; last = refl; some = omega arith }) (omega arith) a b r s then
  calculates operator.Rem Int64 is a b r s then = rem_signed pages m host does traps at store q Int64 (2 ^ 63) (record { first = refl; last = refl; some = omega arith }) (omega arith) a b r s then
  calculates operator.Pow k is a b r s then = absurd is

-- ---- calls

trap_type : (m : Module) → (t : FunctionType) × (type_of m host_trap ≡ Some t)
unfolding host_types host_signatures
trap_type m = (_, refl)

pub host_traps : {World : Type 0} (pages : ℕ) (m : Module) (host : Host World) (deep room : ℕ) (store : Store World) (args : List ℕ) (q : CallEnd World → Type 0) → q (host_end store (host host_trap args store.memory store.world)) → ComesTo (enter (suc deep) pages m host room) host_trap store args q
host_traps pages m host deep room store args q h = let t = trap_type m in answered pages m host deep room host_trap t.0 store args q t.1 refl h

pub arithmetic_kept : (World : Type 0) → ArithmeticKeepsItsLine World
arithmetic_kept World pages m host at o k is f signature there zero room less fits_room store a b r s = absurd (omega arith)
arithmetic_kept World pages m host at o k is f signature there (suc zero) room less fits_room store a b r s = absurd (omega arith)
arithmetic_kept World pages m host at o k is f signature there (suc (suc deep)) room less fits_room store a b r s =
    let fn = of_two signature (calculate at 2 3 4 5 6 o k) in
    let t : FunctionType = long_of (I64 ∷ I64 ∷ []) in
    let few = fits at o k is signature in
    let inner : Calls World = enter (suc deep) pages m host (room - words t fn) in
    let does : Contracts World = λ f store args q. ComesTo inner f store args q in
    routine pages m host (suc deep) room f t fn does store (bits64 a ∷ bits64 b ∷ []) (Answers host at store 60 (Arith o k a b)) there.typed there.there (omega (arith, few, fits_room)) (λ f store args q c. c)
    (calculates pages m host does (λ store args q h. host_traps pages m host deep (room - words t fn) store args q h) at store (Answers host at store 60 (Arith o k a b)) o k is a b r s (λ end h. h))
