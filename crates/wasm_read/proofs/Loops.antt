-- Reading instructions one after the other, as the loop does.
use Rattle.std.proofs.Common.{◌≡◌, ℕ, suc, ◌-◌, ◌+◌, ◌≤◌, ◌<◌, Bool, List, [], ◌∷◌, ◌++◌, Result, Ok, Err, refl, sym, ap, ◌∙◌, append_assoc, arith}
use Rattle.std.proofs.lemmas.List.{append-nil}
use Rattle.wasm_tree.specs.declared.op.Op.{Op}
use Rattle.wasm_read.specs.declared.fault.Fault.{Fault}
use Rattle.wasm_read.specs.declared.fault.Fault.TheVariants.{Malformed}
use Rattle.exact_reading.specs.declared.stop.Stop.{Stop}
use Rattle.exact_reading.specs.declared.stop.Stop.TheVariants as stop
use Rattle.exact_reading.specs.Reading.{◌>>=◌, Fails}
use Rattle.exact_reading.proofs.Loops.{with_front, regroup}
use Rattle.wasm_read.specs.Codes.{next_at, After, Closed, Open, Bad, after, body_by, body_at, Tracks}

-- Instructions.
module _ (front : List Op) (count i owed : ℕ) (os : List Bool) (bytes : List ℕ) (total : Result (List Op × List ℕ) Fault) (lt : i < count) (so_far : with_front front (body_at (count - i) owed os bytes) ≡ total) where
  one : (o : Op) (rest : List ℕ) (a : After) → next_at owed bytes ≡ Ok (o, rest) → after o owed os ≡ a → with_front front (body_by a o rest (body_at (count - (i + 1)))) ≡ total
  unfolding body_at
  one o rest a h e =
      let k : count - i ≡ suc (count - (i + 1)) = omega arith in
      let s : body_at (count - i) owed os bytes ≡ body_by a o rest (body_at (count - (i + 1))) = rw (k, h, e) refl in
      ap (λ r. with_front front r) (sym s) ∙ so_far

  pub faults : (e : Stop Fault) → Fails e (next_at owed bytes) → Fails e total
  unfolding body_at
  faults stop.Memory h = tt
  faults (stop.Fault f) h =
      let k : count - i ≡ suc (count - (i + 1)) = omega arith in
      let s : body_at (count - i) owed os bytes ≡ Err f = rw (k, h) refl in
      sym so_far ∙ ap (λ r. with_front front r) s

  pub goes_on : (o : Op) (rest : List ℕ) (then_owed : ℕ) (now : List Bool) → next_at owed bytes ≡ Ok (o, rest) → after o owed os ≡ Open then_owed now → with_front (front ++ o ∷ []) (body_at (count - (i + 1)) then_owed now rest) ≡ total
  goes_on o rest then_owed now h e = sym (regroup front o (body_at (count - (i + 1)) then_owed now rest)) ∙ one o rest (Open then_owed now) h e

  pub closes : (o : Op) (rest : List ℕ) → next_at owed bytes ≡ Ok (o, rest) → after o owed os ≡ Closed → total ≡ Ok (front, rest)
  closes o rest h e = sym (one o rest Closed h e) ∙ ap (λ (os : List Op). Ok (os, rest)) (append-nil front)

  pub stops : (o : Op) (rest : List ℕ) (e : Stop Fault) (now : List Bool) → next_at owed bytes ≡ Ok (o, rest) → Tracks (after o owed os) (Err e) now → Fails e total
  stops o rest stop.Memory now h t = tt
  stops o rest (stop.Fault f) now h t = sym (one o rest Bad h t.0) ∙ ap (λ g. Err g) (sym t.1)

pub runs_out : (front : List Op) (count i owed : ℕ) (os : List Bool) (bytes : List ℕ) (total : Result (List Op × List ℕ) Fault) → count ≤ i → with_front front (body_at (count - i) owed os bytes) ≡ total → total ≡ Err Malformed
unfolding body_at
runs_out front count i owed os bytes total le so_far =
    let k : count - i ≡ 0 = omega arith in
    let s : body_at (count - i) owed os bytes ≡ Err Malformed = rw k refl in
    sym so_far ∙ ap (λ r. with_front front r) s
