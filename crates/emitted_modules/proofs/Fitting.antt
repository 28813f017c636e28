-- Code that is formed and treated fits.
use Rattle.std.proofs.Common.{◌≡◌, ℕ, suc, ◌+◌, ◌*◌, ◌<◌, ◌≤◌, ◌^◌, max, List, [], ◌∷◌, length, Bool, true, false, ◌&&◌, nat_le, nat_lt, refl, sym, ap, ◌∙◌, subst, arith}
use Rattle.std.proofs.lemmas.Bool.Decides.{nat_tests}
use Rattle.mo_types.specs.declared.datum.Datum.{Datum}
use Rattle.mo_types.specs.declared.datum.Datum.TheVariants as part
use Rattle.wasm_tree.specs.Exec.{bits64}
use Rattle.core_ir.specs.declared.constant.Constant.{Constant}
use Rattle.core_ir.specs.declared.constant.Constant.TheVariants as constant
use Rattle.core_ir.specs.declared.code.Operand.{Operand}
use Rattle.core_ir.specs.declared.code.Operand.TheVariants.{Slot, Captured, Member, Global}
use Rattle.core_ir.specs.declared.code.Operand.TheVariants as operand
use Rattle.core_ir.specs.Values.{Value}
use Rattle.core_ir.specs.Code.{Code, Stop, Let, If, Match, Loop, Label, Branch, Leave, Pass, Make, Call, Tabulate, Send, Wait, Raise, Return}
use Rattle.core_ir.specs.FormedCode.{most_operands, FormedOperand, FormedOperands, FormedCode}
use Rattle.heap_layout.specs.Heaps.{Plan}
use Rattle.flat_emission.specs.Emission.{Linkage, Here}
use Rattle.emitted_steps.specs.States.{StandsReady, PlainLeaf, Plain, FitsOperand, FitOperands, Fits}
use Rattle.low_emit.specs.Emittable.{is_ready, is_plain_leaf, is_plain, is_read, are_read, is_treated_code}
use Rattle.emitted_modules.proofs.Lists.{first, second}
use Rattle.emitted_modules.proofs.Ready.{stands_ready_is}

module _ (plan : Plan) (link : Linkage) (globals : List Value) (sees : ℕ → ℕ) (count bound : ℕ) (shared : Bool) (segments slots size seen most : ℕ) (counted : length globals ≡ count) where
  abbrev here : Here
  here = record { slots = slots; members = size; most = most }

  ready : (t : List ℕ) → is_ready plan link link.hidden t ≡ true → StandsReady plan link.bytes_at t
  ready t e = stands_ready_is plan link.bytes_at t e

  plain_leaf : (p : Datum) → is_plain_leaf plan link link.hidden p ≡ true → PlainLeaf plan link.bytes_at p
  plain_leaf part.Null e = tt
  plain_leaf (part.Flag b) e = tt
  plain_leaf (part.Number n) e = grind (arith, nat_tests, e)
  plain_leaf (part.Char c) e = grind (arith, nat_tests, e)
  plain_leaf (part.Text t) e = ready t e
  plain_leaf (part.Blob t) e = ready t e
  plain_leaf (part.Principal t) e = ready t e
  plain_leaf (part.Actor t) e = ready t e
  plain_leaf p e = absurd (cc)

  plain : (c : Constant) → is_plain plan link link.hidden c ≡ true → Plain plan link.bytes_at c
  plain constant.Unit e = tt
  plain (constant.Leaf p) e = plain_leaf p e

  operand_fits : (x : Operand) → FormedOperand plan.sizes sees count bound shared slots segments size seen x → is_read plan link link.hidden x ≡ true → FitsOperand plan link globals sees here seen x
  operand_fits (Slot x) f e = f
  operand_fits (Captured x) f e = f
  operand_fits (Member k) f e = f
  operand_fits (Global x) f e = (grind (arith, nat_tests, e), omega (arith, f, counted))
  operand_fits (operand.Constant c) f e = plain c e

  operands_fit : (xs : List Operand) → FormedOperands plan.sizes sees count bound shared slots segments size seen xs → are_read plan link link.hidden xs ≡ true → FitOperands plan link globals sees here seen xs
  operands_fit [] f e = tt
  operands_fit (x ∷ xs) f e = (operand_fits x f.0 (first _ _ e), operands_fit xs f.1 (second _ _ e))

  pub code_fits : (c : Code) (within : ℕ) → FormedCode plan.sizes sees count bound shared slots segments size seen within c → is_treated_code plan link link.hidden c ≡ true → most_operands c ≤ most
      → Fits plan link globals sees here seen c
  code_fits Stop within f e m = tt
  code_fits (Let t p xs c) within f e m =
      let r : (are_read plan link link.hidden xs && is_treated_code plan link link.hidden c) ≡ true = second _ _ e in
      (f.0, (operands_fit xs f.2 (first _ _ r), omega (arith, m)), code_fits c within f.3 (second _ _ r) (omega (arith, m)), first _ _ e)
  code_fits (If p xs y n c) within f e m =
      let r : (are_read plan link link.hidden xs && (is_treated_code plan link link.hidden y && (is_treated_code plan link link.hidden n && is_treated_code plan link link.hidden c))) ≡ true = second _ _ e in
      let s : (is_treated_code plan link link.hidden y && (is_treated_code plan link link.hidden n && is_treated_code plan link link.hidden c)) ≡ true = second _ _ r in
      let t : (is_treated_code plan link link.hidden n && is_treated_code plan link link.hidden c) ≡ true = second _ _ s in
      ((operands_fit xs f.2 (first _ _ r), omega (arith, m)), code_fits y (suc within) f.3 (first _ _ s) (omega (arith, m)), code_fits n (suc within) f.4 (first _ _ t) (omega (arith, m)), code_fits c within f.5 (second _ _ t) (omega (arith, m)), first _ _ e)
  code_fits (Match t k x y n c) within f e m =
      let r : (is_read plan link link.hidden x && (is_treated_code plan link link.hidden y && (is_treated_code plan link link.hidden n && is_treated_code plan link link.hidden c))) ≡ true = second _ _ e in
      let s : (is_treated_code plan link link.hidden y && (is_treated_code plan link link.hidden n && is_treated_code plan link link.hidden c)) ≡ true = second _ _ r in
      let u : (is_treated_code plan link link.hidden n && is_treated_code plan link link.hidden c) ≡ true = second _ _ s in
      (f.0, ((operand_fits x f.1 (first _ _ r), tt), omega (arith, m)), code_fits y (suc within) f.2 (first _ _ s) (omega (arith, m)), code_fits n (suc within) f.3 (first _ _ u) (omega (arith, m)), code_fits c within f.4 (second _ _ u) (omega (arith, m)))
  code_fits (Loop b c) within f e m = (code_fits b (suc within) f.0 (first _ _ e) (omega (arith, m)), code_fits c within f.1 (second _ _ e) (omega (arith, m)))
  code_fits (Label b c) within f e m = (code_fits b (suc within) f.0 (first _ _ e) (omega (arith, m)), code_fits c within f.1 (second _ _ e) (omega (arith, m)))
  code_fits (Branch l) within f e m = tt
  code_fits (Make t xs k c) within f e m = (f.0, f.2, operands_fit xs f.3 (first _ _ e), omega (arith, m), code_fits c within f.4 (second _ _ e) (omega (arith, m)))
  code_fits (Call t g xs c) within f e m =
      let r : (are_read plan link link.hidden xs && is_treated_code plan link link.hidden c) ≡ true = second _ _ e in
      (f.0, ((operand_fits g f.1 (first _ _ e), operands_fit xs f.2 (first _ _ r)), omega (arith, m)), code_fits c within f.3 (second _ _ r) (omega (arith, m)))
  code_fits (Return x) within f e m = ((operand_fits x f e, tt), m)
  code_fits c within f e m = absurd (cc)
