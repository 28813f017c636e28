-- Each move takes a step, or goes forward; a call takes one.
use Rattle.std.proofs.Common.{◌≡◌, ℕ, zero, suc, ◌+◌, ◌-◌, ◌*◌, ◌<◌, ◌≤◌, Bool, true, false, List, [], ◌∷◌, Option, Some, None, arith, cond}
use Rattle.std.specs.Prelude.{slice_get, nat_eq, min, ⊤}
use Rattle.wasm_tree.specs.declared.types.ValueType.TheVariants.{I32}
use Rattle.wasm_tree.specs.declared.op.Plain.{Plain}
use Rattle.wasm_tree.specs.declared.op.Plain.TheVariants as plain
use Rattle.wasm_tree.specs.declared.module_parts.Module.{Module}
use Rattle.wasm_tree.specs.Numeric.{low}
use Rattle.wasm_tree.specs.Exec.{ExecutionLimits, State, Did, Goes, Fails, Lacks, act}
use Rattle.wasm_steps.specs.declared.step.Label.{Label}
use Rattle.wasm_steps.specs.declared.step.Step.{Step}
use Rattle.wasm_steps.specs.declared.step.Step.TheVariants as step
use Rattle.wasm_steps.specs.Moves.{Done, Trapped, Astray, Next, On, Over, Asks, Seeks, Strays, counted_of, onward, popped, go, go_to, entry_label, does, move_by, Ready}
use Rattle.wasm_steps.proofs.Loops.{DidWithin, did_within, state}

-- what is left after a move that counts
abbrev Leaves : {World : Type 0} → ℕ → Next World → Type 0
Leaves most (On to s vs) = s.left ≤ most
Leaves most (Over (Done left store vs)) = left ≤ most
Leaves most (Over (Trapped cause store)) = ⊤
Leaves most (Over Astray) = ⊤
Leaves most (Asks f to s vs) = s.left ≤ most
Leaves most (Seeks x at to s vs) = s.left ≤ most
Leaves most Strays = ⊤

onward_leaves : {World : Type 0} → (place n : ℕ) (s : State World) (d : Did World) → DidWithin n d → Leaves n (onward place s d)
onward_leaves place n s (Goes t vs) h = h
onward_leaves place n s (Fails cause) h = tt
onward_leaves place n s Lacks h = tt

cond_leaves : {World : Type 0} → (n : ℕ) (b : Bool) (x y : Next World) → Leaves n x → Leaves n y → Leaves n (cond b x y)
cond_leaves n true x y c d = c
cond_leaves n false x y c d = d

popped_leaves : {World : Type 0} → (n : ℕ) (vs : List ℕ) (next : ℕ → List ℕ → Next World) → ((v : ℕ) (rest : List ℕ) → Leaves n (next v rest)) → Leaves n (popped vs next)
popped_leaves n [] next h = tt
popped_leaves n (v ∷ vs) next h = h v vs

go_leaves : {World : Type 0} → (o : Option Label) (s : State World) (vs : List ℕ) → Leaves s.left (go_to o s vs)
go_leaves None s vs = tt
go_leaves (Some x) s vs = omega arith

-- The measure of the moves of an activation, of which no place is past the end.
abbrev pub Falls : {World : Type 0} → ℕ → ℕ → ℕ → Next World → Type 0
Falls long place n (On to s vs) = to ≤ long → s.left * (long + 1) + (long - to) < n * (long + 1) + (long - place)
Falls long place n (Over f) = ⊤
Falls long place n (Asks f to s vs) = ⊤
Falls long place n (Seeks x at to s vs) = ⊤
Falls long place n Strays = ⊤

-- The steps that are left after a move.
abbrev pub Spent : {World : Type 0} → ℕ → Next World → Type 0
Spent n (On to s vs) = s.left ≤ n
Spent n (Over (Done left store vs)) = left ≤ n
Spent n (Over (Trapped cause store)) = ⊤
Spent n (Over Astray) = ⊤
Spent n (Asks f to s vs) = s.left < n
Spent n (Seeks x at to s vs) = s.left < n
Spent n Strays = ⊤

suc_times : (a b k : ℕ) → a ≤ b → a * k + k ≤ suc b * k
suc_times a b k h = let e : a * k ≤ b * k = grind arith in let f : suc b * k ≡ b * k + k = grind arith in omega arith

leaves_falls : {World : Type 0} → (long place n : ℕ) (x : Next World) → Leaves n x → Falls long place (suc n) x
leaves_falls long place n (On to s vs) h = λ le. let e : s.left * (long + 1) + (long + 1) ≤ suc n * (long + 1) = suc_times s.left n (long + 1) h in omega arith
leaves_falls long place n (Over f) h = tt
leaves_falls long place n (Asks f to s vs) h = tt
leaves_falls long place n (Seeks x at to s vs) h = tt
leaves_falls long place n Strays h = tt

leaves_spent : {World : Type 0} → (n : ℕ) (x : Next World) → Leaves n x → Spent (suc n) x
leaves_spent n (On to s vs) h = omega arith
leaves_spent n (Over (Done left store vs)) h = omega arith
leaves_spent n (Over (Trapped cause store)) h = tt
leaves_spent n (Over Astray) h = tt
leaves_spent n (Asks f to s vs) h = omega arith
leaves_spent n (Seeks x at to s vs) h = omega arith
leaves_spent n Strays h = tt

-- both facts
pub record Goes_down {World : Type 0} (long place n : ℕ) (x : Next World) : Type 0 where
  pub falls : Falls long place n x
  pub spent : Spent n x

counted_down : {World : Type 0} → (long place n : ℕ) (s : State World) (next : State World → Next World) → ((t : State World) → Leaves t.left (next t)) → Goes_down long place n (counted_of n s next)
counted_down long place zero s next h = record { falls = tt; spent = tt }
counted_down long place (suc n) s next h =
    let t = state n s.store s.locals in
    record { falls = leaves_falls long place n (next t) (h t); spent = leaves_spent n (next t) (h t) }

module _ {World : Type 0} (limits : ExecutionLimits) (m : Module) (steps : List Step) (locals globals room long : ℕ) where
  plain_down : (p : Plain) (place : ℕ) (s : State World) (vs : List ℕ) → Goes_down long place s.left (does limits m steps p place s vs)
  plain_down p place s vs = counted_down long place s.left s _ (λ t. onward_leaves (place + 1) t.left t (act limits m p t vs) (did_within limits m p t vs))

  pub goes_down : (d : Step) (place held : ℕ) (s : State World) (vs : List ℕ) → Ready steps locals globals room (Some d) place held → Goes_down long place s.left (move_by limits m steps (Some d) place s vs)
  goes_down step.Nop place held s vs r = plain_down plain.Nop place s vs
  goes_down step.Drop place held s vs r = plain_down plain.Drop place s vs
  goes_down step.Select place held s vs r = plain_down plain.Select place s vs
  goes_down (step.LocalGet x) place held s vs r = plain_down (plain.LocalGet x) place s vs
  goes_down (step.LocalSet x) place held s vs r = plain_down (plain.LocalSet x) place s vs
  goes_down (step.LocalTee x) place held s vs r = plain_down (plain.LocalTee x) place s vs
  goes_down (step.GlobalGet x) place held s vs r = plain_down (plain.GlobalGet x) place s vs
  goes_down (step.GlobalSet x) place held s vs r = plain_down (plain.GlobalSet x) place s vs
  goes_down (step.Load kind offset) place held s vs r = plain_down (plain.Load kind (record { align = 0; offset = offset })) place s vs
  goes_down (step.Store kind offset) place held s vs r = plain_down (plain.Store kind (record { align = 0; offset = offset })) place s vs
  goes_down step.MemorySize place held s vs r = plain_down plain.MemorySize place s vs
  goes_down step.MemoryGrow place held s vs r = plain_down plain.MemoryGrow place s vs
  goes_down (step.I32Const z) place held s vs r = plain_down (plain.I32Const z) place s vs
  goes_down (step.I64Const z) place held s vs r = plain_down (plain.I64Const z) place s vs
  goes_down (step.EqualsZero kind) place held s vs r = plain_down (plain.EqualsZero kind) place s vs
  goes_down (step.Compare kind c) place held s vs r = plain_down (plain.Compare kind c) place s vs
  goes_down (step.Unary kind o) place held s vs r = plain_down (plain.Unary kind o) place s vs
  goes_down (step.Binary kind o) place held s vs r = plain_down (plain.Binary kind o) place s vs
  goes_down (step.Convert c) place held s vs r = plain_down (plain.Convert c) place s vs
  goes_down step.Unreachable place held s vs r = counted_down long place s.left s _ (λ t. tt)
  goes_down step.Enter place held s vs r = counted_down long place s.left s _ (λ t. omega arith)
  goes_down (step.Test to) place held s vs r =
      counted_down long place s.left s _ (λ t. popped_leaves t.left vs _ (λ v below. cond_leaves t.left (nat_eq (low I32 v) 0) (On to t below) (On (place + 1) t below) (omega arith) (omega arith)))
  goes_down (step.Jump to) place held s vs r = record { falls = λ le. let h : place < to = r in omega arith; spent = omega arith }
  goes_down (step.Br x) place held s vs r = counted_down long place s.left s _ (λ t. omega arith)
  goes_down (step.BrIf x) place held s vs r =
      counted_down long place s.left s _ (λ t. popped_leaves t.left vs _ (λ v below. cond_leaves t.left (nat_eq (low I32 v) 0) (On (place + 1) t below) (go x t below) (omega arith) (omega arith)))
  goes_down (step.BrTable count) place held s vs r =
      counted_down long place s.left s _ (λ t. popped_leaves t.left vs _ (λ v below. go_leaves (entry_label (slice_get steps (place + 1 + min (low I32 v) count))) t below))
  goes_down (step.Entry x) place held s vs r = absurd r
  goes_down (step.Return keep) place held s vs r = counted_down long place s.left s _ (λ t. omega arith)
  goes_down (step.Call f) place held s vs r = counted_down long place s.left s _ (λ t. omega arith)
  goes_down (step.CallIndirect x) place held s vs r = counted_down long place s.left s _ (λ t. popped_leaves t.left vs _ (λ v below. omega arith))
  goes_down step.Finish place held s vs r = record { falls = tt; spent = omega arith }
