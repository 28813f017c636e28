-- At each place the next step has what it asks for.
use Rattle.std.proofs.Common.{◌≡◌, ℕ, suc, ◌+◌, ◌-◌, ◌≤◌, List, [], ◌∷◌, ◌++◌, length, Some, inl, inr, refl, sym, ◌∙◌, subst, arith, append_assoc, length-append}
use Rattle.std.specs.Prelude.{slice_get}
use Rattle.wasm_tree.specs.declared.op.Plain.{Plain}
use Rattle.wasm_tree.specs.declared.op.Plain.TheVariants as plain
use Rattle.wasm_tree.specs.declared.module_parts.Module.{Module}
use Rattle.wasm_tree.specs.Code.{Code, Stop, Then, Unreachable, Block, Loop, If, IfElse, Br, BrIf, BrTable, Return, Call, CallIndirect}
use Rattle.wasm_tree.specs.Valid.{results_of}
use Rattle.wasm_tree.specs.Exec.{ExecutionLimits, State, Calls, label_at}
use Rattle.wasm_tree.specs.Frames.{taken, given}
use Rattle.wasm_steps.specs.declared.step.Label.{Label}
use Rattle.wasm_steps.specs.declared.step.Step.{Step}
use Rattle.wasm_steps.specs.declared.step.Step.TheVariants as step
use Rattle.wasm_steps.specs.Steps.{laid_step}
use Rattle.wasm_steps.specs.Layout.{size, IsBranch, Laid}
use Rattle.wasm_steps.specs.Moves.{Final, ReadyPlain, ReadyLabel, Ready}
use Rattle.wasm_steps.specs.Follow.{Frugal, Around, Body, InBlock, InLoop, under, base, labels, results, end_of, LaidAround, Stands}
use Rattle.wasm_steps.proofs.Follows.{base_is, height_under}

laid_ready : (steps : List Step) (locals globals room place held : ℕ) (p : Plain) → ReadyPlain locals globals room held p → Ready steps locals globals room (Some (laid_step p)) place held
laid_ready steps locals globals room place held plain.Nop h = h
laid_ready steps locals globals room place held plain.Drop h = h
laid_ready steps locals globals room place held plain.Select h = h
laid_ready steps locals globals room place held (plain.LocalGet x) h = h
laid_ready steps locals globals room place held (plain.LocalSet x) h = h
laid_ready steps locals globals room place held (plain.LocalTee x) h = h
laid_ready steps locals globals room place held (plain.GlobalGet x) h = h
laid_ready steps locals globals room place held (plain.GlobalSet x) h = h
laid_ready steps locals globals room place held (plain.Load kind a) h = h
laid_ready steps locals globals room place held (plain.Store kind a) h = h
laid_ready steps locals globals room place held plain.MemorySize h = h
laid_ready steps locals globals room place held plain.MemoryGrow h = h
laid_ready steps locals globals room place held (plain.I32Const z) h = h
laid_ready steps locals globals room place held (plain.I64Const z) h = h
laid_ready steps locals globals room place held (plain.EqualsZero kind) h = h
laid_ready steps locals globals room place held (plain.Compare kind c) h = h
laid_ready steps locals globals room place held (plain.Unary kind o) h = h
laid_ready steps locals globals room place held (plain.Binary kind o) h = h
laid_ready steps locals globals room place held (plain.Convert c) h = h

module _ {World : Type 0} (limits : ExecutionLimits) (m : Module) (calls : Calls World) (frugal : Frugal calls) (steps : List Step) (locals room keep : ℕ) where
  abbrev Readies : Code → Around → ℕ → List ℕ → Type 0
  Readies c k place own =
      Laid m steps locals room keep place (labels k) (base k) (results k) (length own) c → LaidAround m steps locals room keep k → keep ≤ 1 → place + size c ≡ end_of k → (s : State World) → Ready steps locals (length m.globals) room (slice_get steps place) place (length (own ++ under k))

  ready_by : (d : Step) (place held : ℕ) → slice_get steps place ≡ Some d → Ready steps locals (length m.globals) room (Some d) place held → Ready steps locals (length m.globals) room (slice_get steps place) place held
  ready_by d place held at r = subst (λ o. Ready steps locals (length m.globals) room o place held) (sym at) r

  branch_ready : (k : Around) (l : ℕ) (x : Label) (s : State World) (vs : List ℕ) → LaidAround m steps locals room keep k → IsBranch m steps locals room keep (labels k) (length vs) l x → ReadyLabel (length (vs ++ under k)) x
  branch_ready k l x s vs kept b = (height_under limits m calls frugal steps locals room keep k l x s vs kept b.named b.held, b.few)

  ready_at : (c : Code) (k : Around) (place : ℕ) (own : List ℕ) → Readies c k place own
  ready_at Stop (Body end out) place own laid kept one ends s =
      let here : end ≡ place = omega arith in
      ready_by step.Finish place _ (subst (λ i. slice_get steps i ≡ Some step.Finish) here kept.0) tt
  ready_at Stop (InBlock stop to out below rest k) place own laid kept one ends s =
      let here : stop ≡ place = omega arith in
      let len : length below + out ≡ length (own ++ below) = let h : length own ≡ out = laid in omega (arith, length-append own below) in
      let laid_rest = subst (λ i. Laid m steps locals room keep to (labels k) (base k) (results k) i rest) len kept.1 in
      let shape : (own ++ below) ++ under k ≡ own ++ (below ++ under k) = append_assoc own below (under k) in
      elim kept.0 [
        | inl same ↦
            let at : to ≡ place = omega arith in
            subst (λ o. Ready steps locals (length m.globals) room (slice_get steps place) place (length o)) shape (ready_at rest k place (own ++ below) (subst (λ i. Laid m steps locals room keep i (labels k) (base k) (results k) (length (own ++ below)) rest) at laid_rest) kept.3 one (subst (λ i. i + size rest ≡ end_of k) at kept.2) s)
        | inr jump ↦ ready_by (step.Jump to) place _ (subst (λ i. slice_get steps i ≡ Some (step.Jump to)) here jump.1) (let h = jump.0 in omega arith)
      ]
  ready_at Stop (InLoop from to kind body below rest k) place own laid kept one ends s =
      let at : to ≡ place = omega arith in
      let len : length below + length (results_of kind) ≡ length (own ++ below) = let h : length own ≡ length (results_of kind) = laid in omega (arith, length-append own below) in
      let e : from + 1 + size body ≡ place = sym kept.0 ∙ at in
      let laid_rest = subst (λ i. Laid m steps locals room keep i (labels k) (base k) (results k) (length below + length (results_of kind)) rest) e kept.1.2 in
      let shape : (own ++ below) ++ under k ≡ own ++ (below ++ under k) = append_assoc own below (under k) in
      subst (λ o. Ready steps locals (length m.globals) room (slice_get steps place) place (length o)) shape (ready_at rest k place (own ++ below) (subst (λ i. Laid m steps locals room keep place (labels k) (base k) (results k) i rest) len laid_rest) kept.3 one (subst (λ i. i + size rest ≡ end_of k) at kept.2) s)
  ready_at (Then p rest) k place own laid kept one ends s =
      let enough : taken p ≤ length own = laid.2 in
      let fits : base k + (length own - taken p + given p) ≤ room = laid.3 in
      let a : taken p ≤ length (own ++ under k) = omega (arith, length-append own (under k)) in
      let b : length (own ++ under k) - taken p + given p ≤ room = omega (arith, length-append own (under k), base_is k) in
      ready_by (laid_step p) place _ laid.0 (laid_ready steps locals (length m.globals) room place _ p (laid.1, a, b))
  ready_at (Unreachable rest) k place own laid kept one ends s = ready_by step.Unreachable place _ laid tt
  ready_at (Block kind body rest) k place own laid kept one ends s = ready_by step.Enter place _ laid.0 tt
  ready_at (Loop kind body rest) k place own laid kept one ends s = ready_by step.Enter place _ laid.0 tt
  ready_at (If kind first rest) k place own laid kept one ends s =
      ready_by (step.Test (place + 1 + size first)) place _ laid.0 (let h : length own ≡ suc laid.2 = laid.3 in omega (arith, length-append own (under k)))
  ready_at (IfElse kind first second rest) k place own laid kept one ends s =
      ready_by (step.Test (place + 1 + size first + 1)) place _ laid.0 (let h : length own ≡ suc laid.1 = laid.2 in omega (arith, length-append own (under k)))
  ready_at (Br l rest) k place own laid kept one ends s = ready_by (step.Br laid.0) place _ laid.1 (branch_ready k l laid.0 s own kept laid.2)
  ready_at (BrIf l rest) k place [] laid kept one ends s = let h : 0 ≡ suc laid.2 = laid.3 in absurd (omega arith)
  ready_at (BrIf l rest) k place (v ∷ vs) laid kept one ends s =
      let same : laid.2 ≡ length vs = let h : suc (length vs) ≡ suc laid.2 = laid.3 in omega arith in
      let b : IsBranch m steps locals room keep (labels k) (length vs) l laid.0 = subst (λ i. IsBranch m steps locals room keep (labels k) i l laid.0) same laid.4 in
      ready_by (step.BrIf laid.0) place _ laid.1 (length (vs ++ under k), refl, branch_ready k l laid.0 s vs kept b)
  ready_at (BrTable ls last rest) k place [] laid kept one ends s = let h : 0 ≡ suc laid.1 = laid.2 in absurd (omega arith)
  ready_at (BrTable ls last rest) k place (v ∷ vs) laid kept one ends s =
      let same : laid.1 ≡ length vs = let h : suc (length vs) ≡ suc laid.1 = laid.2 in omega arith in
      let each : (i : ℕ) → i ≤ length ls → (x : Label) × (slice_get steps (place + 1 + i) ≡ Some (step.Entry x)) × ReadyLabel (length (vs ++ under k)) x = λ i h.
      let at = laid.3 i h in
      let b : IsBranch m steps locals room keep (labels k) (length vs) (label_at ls last i) at.0 = subst (λ j. IsBranch m steps locals room keep (labels k) j (label_at ls last i) at.0) same at.2 in
      (at.0, at.1, branch_ready k (label_at ls last i) at.0 s vs kept b) in
      ready_by (step.BrTable (length ls)) place _ laid.0 (length (vs ++ under k), refl, each)
  ready_at (Return rest) k place own laid kept one ends s =
      ready_by (step.Return keep) place _ laid.0 (let h = laid.1 in omega (arith, length-append own (under k)), one)
  ready_at (Call f rest) k place own laid kept one ends s = ready_by (step.Call f) place _ laid.0 tt
  ready_at (CallIndirect x rest) k place own laid kept one ends s =
      ready_by (step.CallIndirect x) place _ laid.0 (let h : 1 + length laid.1.params ≤ length own = laid.3 in omega (arith, length-append own (under k)))

  pub is_ready : (whole : Final World) (place : ℕ) (s : State World) (vs : List ℕ) → keep ≤ 1 → Stands limits m calls steps locals room keep whole place s vs → Ready steps locals (length m.globals) room (slice_get steps place) place (length vs)
  is_ready whole place s vs one h =
      subst (λ o. Ready steps locals (length m.globals) room (slice_get steps place) place (length o)) (sym h.held) (ready_at h.code h.around place h.own h.laid h.kept one h.ends s)
