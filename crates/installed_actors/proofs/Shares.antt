-- What the start of an actor has come to, and the shares of limits that it has used.
use Rattle.std.proofs.Common.{◌≡◌, ℕ, zero, suc, ◌+◌, ◌*◌, ◌<◌, ◌≤◌, List, [], ◌∷◌, ◌++◌, max, refl, sym, ◌∙◌, arith}
use Rattle.std.proofs.Math.Nat.{mul-le-mul_left, mul-le-mul}
use Rattle.std.proofs.lemmas.List.{append_assoc, append-nil}
use Rattle.mo_values.specs.Shapes.{Bytes}
use Rattle.mo_actor.specs.Executions.{Progress}
use Rattle.ic0_world.specs.declared.world.World.{World as HostWorld}
use Rattle.core_ir.specs.Worlds.{World, Context}
use Rattle.core_ir.specs.Executions.{Replies, Rejects, Waits, Traps, Breaks, Go, Ends, Stand, Still, Over, after_step, run}
use Rattle.core_ir.specs.Code.{CodeProgram}
use Rattle.core_ir.specs.CodeMachine.{State, Waiting, Did, code_machine, step, depth}
use Rattle.core_ir.specs.Messages.{Messages}
use Rattle.core_ir.specs.Actor.{Fields, start_progress}
use Rattle.heap_layout.specs.Table.{bytes_for}
use Rattle.emitted_steps.specs.Operations.{told_all}
use Rattle.emitted_steps.specs.Steps.{own_steps}
use Rattle.emitted_runs.specs.Stands.{behind}
use Rattle.emitted_runs.specs.Runs.{weight_of, deep_of, shown_by}
use Rattle.operation_lines.specs.Laws.{operation_steps}
use Rattle.limited_runs.specs.Shown.{told, fell}

abbrev pub out_of : Stand State Waiting → List Bytes
out_of (Still weight deep prints world s) = prints
out_of (Over weight deep prints world end) = prints

-- ---- progress

module _ {K : Type 0} (messages : Messages K) (p : CodeProgram) (w : ℕ) where
  abbrev pub progress_of : Stand State Waiting → Progress Fields
  progress_of stand = start_progress (code_machine p) messages p (behind w 0 [] stand)

  pub record Facts (stand : Stand State Waiting) (q : Progress Fields) : Type 0 where
    pub weight : q.weight ≡ w + weight_of stand
    pub deep : q.depth ≡ deep_of stand
    pub prints : q.prints ≡ out_of stand

  pub facts : (stand : Stand State Waiting) → Facts stand (progress_of stand)
  facts (Still weight deep prints world s) = record { weight = omega arith; deep = omega arith; prints = refl }
  facts (Over weight deep prints world (Replies v)) = record { weight = omega arith; deep = omega arith; prints = refl }
  facts (Over weight deep prints world (Rejects e)) = record { weight = omega arith; deep = omega arith; prints = refl }
  facts (Over weight deep prints world (Waits on waiting)) = record { weight = omega arith; deep = omega arith; prints = refl }
  facts (Over weight deep prints world (Traps text)) = record { weight = omega arith; deep = omega arith; prints = refl }
  facts (Over weight deep prints world Breaks) = record { weight = omega arith; deep = omega arith; prints = refl }

-- ---- depth

module _ (p : CodeProgram) (context : Context) where
  abbrev run_on : ℕ → (weight deep : ℕ) → List Bytes → World → State → Stand State Waiting
  run_on n weight deep prints world s = run (code_machine p) context n weight deep prints world s

  then_grows : (n below weight deep : ℕ) (prints : List Bytes) (x : Did) → ((weight deep : ℕ) (prints : List Bytes) (world : World) (s : State) → deep ≤ deep_of (run_on n weight deep prints world s)) → max deep below ≤ deep_of (after_step (run_on n) below weight deep prints x)
  then_grows n below weight deep prints (Go cost out world s) ih = let k = ih (weight + cost.weight) (max deep (below + 16 * cost.levels)) (prints ++ out) world s in omega (arith, k)
  then_grows n below weight deep prints (Ends cost out world end) ih = omega arith

  deep_grows : (n weight deep : ℕ) (prints : List Bytes) (world : World) (s : State) → deep ≤ deep_of (run_on n weight deep prints world s)
  deep_grows zero weight deep prints world s = omega arith
  deep_grows (suc n) weight deep prints world s = let k = then_grows n (depth s) weight deep prints (step p context world s) (deep_grows n) in omega (arith, k)

  -- The depth of the first state counts from the first step on.
  pub first_deep : (n : ℕ) (world : World) (s : State) → depth s ≤ deep_of (run_on (suc n) 0 0 [] world s)
  first_deep n world s = let k = then_grows n (depth s) 0 0 [] (step p context world s) (deep_grows n) in omega (arith, k)

-- ---- prints

pub told_prints : (w : HostWorld) (texts : List Bytes) → (told_all told w texts).prints ≡ w.prints ++ texts
told_prints w [] = sym (append-nil w.prints)
told_prints w (t ∷ texts) = told_prints (told w t) texts ∙ append_assoc w.prints (t ∷ []) texts

pub shown_prints : (w : HostWorld) (stand : Stand State Waiting) → (shown_by told fell w stand).prints ≡ w.prints ++ out_of stand
shown_prints w (Still weight deep prints world s) = told_prints w prints
shown_prints w (Over weight deep prints world (Replies v)) = told_prints w prints
shown_prints w (Over weight deep prints world (Rejects e)) = told_prints w prints
shown_prints w (Over weight deep prints world (Waits on waiting)) = told_prints w prints
shown_prints w (Over weight deep prints world (Traps text)) = told_prints w prints
shown_prints w (Over weight deep prints world Breaks) = told_prints w prints

-- ---- shares

module _ (times : ℕ) (share : times * (own_steps + operation_steps) ≤ 32768) (byte_share : times * bytes_for 1 ≤ 256) where
  pub steps_used : (used weight : ℕ) → used ≤ (own_steps + operation_steps) * weight → times * used ≤ 32768 * (weight + 1)
  steps_used used weight le =
      let a : times * used ≤ times * (224 * weight) = mul-le-mul_left {m = used} {n = 224 * weight} times (omega (arith, le)) in
      let b : times * (224 * weight) ≡ (times * 224) * weight = omega arith in
      let c = mul-le-mul {n₁ = times * 224} {m₁ = weight} {n₂ = 32768} {m₂ = weight} share (omega arith) in
      omega (arith, a, b, c)

  pub pages_used : (pages top weight whole first : ℕ) → times * (8 * top) ≤ first → weight ≤ whole → 65536 * pages < 8 * top + bytes_for weight → 65536 * (times * pages) ≤ first + 256 * (whole + 0 + 1)
  pages_used pages top weight whole first paid heavy h =
      let a : times * (65536 * pages) ≤ times * (8 * top + bytes_for weight) = mul-le-mul_left {m = 65536 * pages} {n = 8 * top + bytes_for weight} times (omega (arith, h)) in
      let b : times * (8 * top + bytes_for weight) ≡ times * (8 * top) + (times * bytes_for 1) * weight = omega arith in
      let c = mul-le-mul {n₁ = times * bytes_for 1} {m₁ = weight} {n₂ = 256} {m₂ = whole} byte_share heavy in
      let d : times * (65536 * pages) ≡ 65536 * (times * pages) = omega arith in
      omega (arith, a, b, c, d, paid)
