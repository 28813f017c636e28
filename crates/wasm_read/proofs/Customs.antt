-- Skipping custom sections, as a loop does.
use Rattle.std.proofs.Common.{◌≡◌, ℕ, suc, ◌-◌, ◌+◌, ◌≤◌, ◌<◌, List, Result, Ok, Err, Some, None, refl, sym, ◌∙◌, arith}
use Rattle.wasm_read.specs.declared.fault.Fault.{Fault}
use Rattle.wasm_read.specs.Sections.{skip_at, customs_at}

module _ (count i : ℕ) (bytes : List ℕ) (total : Result (List ℕ) Fault) (so_far : customs_at (count - i) bytes ≡ total) where
  pub skips : (rest : List ℕ) → i < count → skip_at bytes ≡ Ok (Some rest) → customs_at (count - (i + 1)) rest ≡ total
  skips rest lt h =
      let k : count - i ≡ suc (count - (i + 1)) = omega arith in
      let s : customs_at (count - i) bytes ≡ customs_at (count - (i + 1)) rest = rw (k, h) refl in
      sym s ∙ so_far

  pub stays : i < count → skip_at bytes ≡ Ok None → total ≡ Ok bytes
  stays lt h =
      let k : count - i ≡ suc (count - (i + 1)) = omega arith in
      let s : customs_at (count - i) bytes ≡ Ok bytes = rw (k, h) refl in
      sym so_far ∙ s

  pub skip_fails : (f : Fault) → i < count → skip_at bytes ≡ Err f → total ≡ Err f
  skip_fails f lt h =
      let k : count - i ≡ suc (count - (i + 1)) = omega arith in
      let s : customs_at (count - i) bytes ≡ Err f = rw (k, h) refl in
      sym so_far ∙ s

  pub runs_dry : count ≤ i → total ≡ Ok bytes
  runs_dry le =
      let k : count - i ≡ 0 = omega arith in
      let s : customs_at (count - i) bytes ≡ Ok bytes = rw k refl in
      sym so_far ∙ s
