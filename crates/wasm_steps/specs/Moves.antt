-- What each step does to the operands and the store of one activation.
use Rattle.std.specs.Prelude.{ℕ, zero, suc, ◌+◌, ◌-◌, ◌<◌, ◌≤◌, ◌≡◌, min, List, [], ◌∷◌, ◌++◌, length, take, drop, Option, Some, None, slice_get, ⊤}
use Rattle.wasm_tree.specs.declared.trap.Trap.{Trap}
use Rattle.wasm_tree.specs.declared.trap.Trap.TheVariants as trap
use Rattle.wasm_tree.specs.declared.types.ValueType.TheVariants.{I32}
use Rattle.wasm_tree.specs.declared.op.Plain.{Plain}
use Rattle.wasm_tree.specs.declared.op.Plain.TheVariants as plain
use Rattle.wasm_tree.specs.declared.module_parts.Module.{Module}
use Rattle.wasm_tree.specs.Numeric.{low}
use Rattle.wasm_tree.specs.Exec.{ExecutionLimits, Store, State, Outcome, Falls, Branches, Returns, Traps, Stuck, Did, Goes, Fails, Lacks, act, if_zero}
use Rattle.wasm_tree.specs.Frames.{taken, given}
use Rattle.wasm_steps.specs.declared.step.Label.{Label}
use Rattle.wasm_steps.specs.declared.step.Step.{Step}
use Rattle.wasm_steps.specs.declared.step.Step.TheVariants as step
use Rattle.wasm_steps.specs.Layout.{IsNamed}

-- How a body ends for its caller: with the steps that are left, the store and its results, or with a trap.
pub data Final (World : Type 0) : Type 0 where
  Done : ℕ → Store World → List ℕ → Final World
  Trapped : Trap → Store World → Final World
  Astray : Final World

abbrev pub finish : {World : Type 0} → ℕ → Outcome World → Final World
finish keep (Falls s values) = Done s.left s.store (take keep values)
finish keep (Branches zero s values) = Done s.left s.store (take keep values)
finish keep (Branches (suc label) s values) = Astray
finish keep (Returns s values) = Done s.left s.store (take keep values)
finish keep (Traps cause store) = Trapped cause store
finish keep Stuck = Astray

-- What a step leads to: another place, the end of the body, a call of a function or of a place of the table, with the
-- type that it must have, and the place after the call.
pub data Next (World : Type 0) : Type 0 where
  On : ℕ → State World → List ℕ → Next World
  Over : Final World → Next World
  Asks : ℕ → ℕ → State World → List ℕ → Next World
  Seeks : ℕ → ℕ → ℕ → State World → List ℕ → Next World
  Strays : Next World

-- An instruction takes a step, where one is left.
abbrev pub counted_of : {World : Type 0} → ℕ → State World → (State World → Next World) → Next World
counted_of zero s next = Over (Trapped trap.Steps s.store)
counted_of (suc left) s next = next (record { left = left; store = s.store; locals = s.locals })

abbrev pub counted : {World : Type 0} → State World → (State World → Next World) → Next World
counted s next = counted_of s.left s next

abbrev pub onward : {World : Type 0} → ℕ → State World → Did World → Next World
onward place before (Goes s operands) = On place s operands
onward place before (Fails cause) = Over (Trapped cause before.store)
onward place before Lacks = Strays

abbrev pub popped : {World : Type 0} → List ℕ → (ℕ → List ℕ → Next World) → Next World
popped [] next = Strays
popped (v ∷ operands) next = next v operands

-- Cuts the operands to a height, and keeps some on top.
abbrev pub slide : ℕ → ℕ → List ℕ → List ℕ
slide keep height operands = take keep operands ++ drop (length operands - height) operands

abbrev pub go : {World : Type 0} → Label → State World → List ℕ → Next World
go x s operands = On x.to s (slide x.keep x.height operands)

-- The label of an entry of a table.
abbrev pub entry_label : Option Step → Option Label
entry_label None = None
entry_label (Some (step.Entry x)) = Some x
entry_label (Some s) = None

abbrev pub go_to : {World : Type 0} → Option Label → State World → List ℕ → Next World
go_to None s operands = Strays
go_to (Some x) s operands = go x s operands

module _ {World : Type 0} (limits : ExecutionLimits) (m : Module) (steps : List Step) where
  abbrev pub does : Plain → ℕ → State World → List ℕ → Next World
  does p place s operands = counted s (λ s. onward (place + 1) s (act limits m p s operands))

  -- What a step does at its place.
  abbrev pub move_by : Option Step → ℕ → State World → List ℕ → Next World
  move_by None place s operands = Strays
  move_by (Some step.Nop) place s operands = does plain.Nop place s operands
  move_by (Some step.Drop) place s operands = does plain.Drop place s operands
  move_by (Some step.Select) place s operands = does plain.Select place s operands
  move_by (Some (step.LocalGet x)) place s operands = does (plain.LocalGet x) place s operands
  move_by (Some (step.LocalSet x)) place s operands = does (plain.LocalSet x) place s operands
  move_by (Some (step.LocalTee x)) place s operands = does (plain.LocalTee x) place s operands
  move_by (Some (step.GlobalGet x)) place s operands = does (plain.GlobalGet x) place s operands
  move_by (Some (step.GlobalSet x)) place s operands = does (plain.GlobalSet x) place s operands
  move_by (Some (step.Load kind offset)) place s operands = does (plain.Load kind (record { align = 0; offset = offset })) place s operands
  move_by (Some (step.Store kind offset)) place s operands = does (plain.Store kind (record { align = 0; offset = offset })) place s operands
  move_by (Some step.MemorySize) place s operands = does plain.MemorySize place s operands
  move_by (Some step.MemoryGrow) place s operands = does plain.MemoryGrow place s operands
  move_by (Some (step.I32Const z)) place s operands = does (plain.I32Const z) place s operands
  move_by (Some (step.I64Const z)) place s operands = does (plain.I64Const z) place s operands
  move_by (Some (step.EqualsZero kind)) place s operands = does (plain.EqualsZero kind) place s operands
  move_by (Some (step.Compare kind c)) place s operands = does (plain.Compare kind c) place s operands
  move_by (Some (step.Unary kind o)) place s operands = does (plain.Unary kind o) place s operands
  move_by (Some (step.Binary kind o)) place s operands = does (plain.Binary kind o) place s operands
  move_by (Some (step.Convert c)) place s operands = does (plain.Convert c) place s operands
  move_by (Some step.Unreachable) place s operands = counted s (λ s. Over (Trapped trap.Unreachable s.store))
  move_by (Some step.Enter) place s operands = counted s (λ s. On (place + 1) s operands)
  move_by (Some (step.Test to)) place s operands = counted s (λ s. popped operands (λ v below. if_zero v (On to s below) (On (place + 1) s below)))
  move_by (Some (step.Jump to)) place s operands = On to s operands
  move_by (Some (step.Br x)) place s operands = counted s (λ s. go x s operands)
  move_by (Some (step.BrIf x)) place s operands = counted s (λ s. popped operands (λ v below. if_zero v (On (place + 1) s below) (go x s below)))
  move_by (Some (step.BrTable count)) place s operands =
      counted s (λ s. popped operands (λ v below. go_to (entry_label (slice_get steps (place + 1 + min (low I32 v) count))) s below))
  move_by (Some (step.Entry x)) place s operands = Strays
  move_by (Some (step.Return keep)) place s operands = counted s (λ s. Over (Done s.left s.store (take keep operands)))
  move_by (Some (step.Call f)) place s operands = counted s (λ s. Asks f (place + 1) s operands)
  move_by (Some (step.CallIndirect x)) place s operands = counted s (λ s. popped operands (λ v below. Seeks x (low I32 v) (place + 1) s below))
  move_by (Some step.Finish) place s operands = Over (Done s.left s.store operands)

  abbrev pub move : ℕ → State World → List ℕ → Next World
  move place s operands = move_by (slice_get steps place) place s operands

-- What a step asks of the locals, the globals, the room for operands, its place and how many operands are held.
abbrev pub ReadyPlain : ℕ → ℕ → ℕ → ℕ → Plain → Type 0
ReadyPlain locals globals room held p = IsNamed locals globals p × (taken p ≤ held) × (held - taken p + given p ≤ room)

abbrev pub ReadyLabel : ℕ → Label → Type 0
ReadyLabel held x = (x.height + x.keep ≤ held) × (x.keep ≤ 1)

module _ (steps : List Step) (locals globals room : ℕ) where
  abbrev pub Ready : Option Step → ℕ → ℕ → Type 0
  Ready None place held = ⊥
  Ready (Some step.Nop) place held = ReadyPlain locals globals room held plain.Nop
  Ready (Some step.Drop) place held = ReadyPlain locals globals room held plain.Drop
  Ready (Some step.Select) place held = ReadyPlain locals globals room held plain.Select
  Ready (Some (step.LocalGet x)) place held = ReadyPlain locals globals room held (plain.LocalGet x)
  Ready (Some (step.LocalSet x)) place held = ReadyPlain locals globals room held (plain.LocalSet x)
  Ready (Some (step.LocalTee x)) place held = ReadyPlain locals globals room held (plain.LocalTee x)
  Ready (Some (step.GlobalGet x)) place held = ReadyPlain locals globals room held (plain.GlobalGet x)
  Ready (Some (step.GlobalSet x)) place held = ReadyPlain locals globals room held (plain.GlobalSet x)
  Ready (Some (step.Load kind offset)) place held = ReadyPlain locals globals room held (plain.Load kind (record { align = 0; offset = offset }))
  Ready (Some (step.Store kind offset)) place held = ReadyPlain locals globals room held (plain.Store kind (record { align = 0; offset = offset }))
  Ready (Some step.MemorySize) place held = ReadyPlain locals globals room held plain.MemorySize
  Ready (Some step.MemoryGrow) place held = ReadyPlain locals globals room held plain.MemoryGrow
  Ready (Some (step.I32Const z)) place held = ReadyPlain locals globals room held (plain.I32Const z)
  Ready (Some (step.I64Const z)) place held = ReadyPlain locals globals room held (plain.I64Const z)
  Ready (Some (step.EqualsZero kind)) place held = ReadyPlain locals globals room held (plain.EqualsZero kind)
  Ready (Some (step.Compare kind c)) place held = ReadyPlain locals globals room held (plain.Compare kind c)
  Ready (Some (step.Unary kind o)) place held = ReadyPlain locals globals room held (plain.Unary kind o)
  Ready (Some (step.Binary kind o)) place held = ReadyPlain locals globals room held (plain.Binary kind o)
  Ready (Some (step.Convert c)) place held = ReadyPlain locals globals room held (plain.Convert c)
  Ready (Some step.Unreachable) place held = ⊤
  Ready (Some step.Enter) place held = ⊤
  Ready (Some (step.Test to)) place held = 1 ≤ held
  Ready (Some (step.Jump to)) place held = place < to
  Ready (Some (step.Br x)) place held = ReadyLabel held x
  Ready (Some (step.BrIf x)) place held = (below : ℕ) × (held ≡ suc below) × ReadyLabel below x
  Ready (Some (step.BrTable count)) place held =
      (below : ℕ) × (held ≡ suc below) × ((i : ℕ) → i ≤ count → (x : Label) × (slice_get steps (place + 1 + i) ≡ Some (step.Entry x)) × ReadyLabel below x)
  Ready (Some (step.Entry x)) place held = ⊥
  Ready (Some (step.Return keep)) place held = (keep ≤ held) × (keep ≤ 1)
  Ready (Some (step.Call f)) place held = ⊤
  Ready (Some (step.CallIndirect x)) place held = 1 ≤ held
  Ready (Some step.Finish) place held = ⊤
