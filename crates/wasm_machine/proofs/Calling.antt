-- A call of a function keeps what the run stands for.
use Rattle.std.proofs.Common.{◌≡◌, ℕ, ◌+◌, ◌-◌, ◌≤◌, List, ◌∷◌, ◌++◌, length, drop, get_or, Option, Some, None, refl, sym, ap, ◌∙◌, arith}
use Rattle.std.specs.Prelude.{slice_index}
use Rattle.std.proofs.lemmas.List.{get_or-drop}
use Rattle.wasm_tree.specs.Frames.{optional}
use Rattle.wasm_machine.specs.Operands.{tops}
use Rattle.wasm_machine.specs.Stacks.{AgreeBelow}
use Rattle.wasm_machine.proofs.Tops.{tops_drop}
use Rattle.wasm_machine.proofs.Cells.{tops_agree, tops_joined}

-- the operands below the arguments
operands_below : (cells written : List ℕ) (floor held params from : ℕ) → params ≤ held → from + params ≡ floor + held → AgreeBelow from written cells → tops (drop floor written) (from - floor) ≡ drop params (tops (drop floor cells) held)
operands_below cells written floor held params from le sum low =
    let e : held - (from - floor) ≡ params = omega arith in
    tops_agree written cells from floor (omega arith) low ∙ sym (tops_drop (drop floor cells) held (from - floor) (omega arith)) ∙ ap (λ i. drop i (tops (drop floor cells) held)) e

pub result_on : (cells written : List ℕ) (floor held params from : ℕ) (r : Option ℕ) → params ≤ held → from + params ≡ floor + held → AgreeBelow from written cells → ((value : ℕ) → r ≡ Some value → slice_index written from ≡ value) → tops (drop floor written) (held - params + length (optional r)) ≡ optional r ++ drop params (tops (drop floor cells) held)
result_on cells written floor held params from None le sum low there =
    ap (tops (drop floor written)) (let e : held - params + 0 ≡ from - floor = omega arith in e) ∙ operands_below cells written floor held params from le sum low
result_on cells written floor held params from (Some value) le sum low there =
    let top : get_or (drop from written) 0 0 ≡ value = get_or-drop from written 0 0 ∙ ap (λ i. get_or written i 0) (let e : from + 0 ≡ from = omega arith in e) ∙ there value refl in
    ap (tops (drop floor written)) (let e : held - params + 1 ≡ from - floor + 1 = omega arith in e) ∙ tops_joined written floor from 1 (omega arith) ∙ ap (λ v. v ∷ tops (drop floor written) (from - floor)) top ∙ ap (λ l. value ∷ l) (operands_below cells written floor held params from le sum low)
