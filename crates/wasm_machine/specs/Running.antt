-- A run that has come to some place, with the calls of the host that were made.
use Rattle.std.specs.Prelude.{◌≡◌, ℕ, ◌+◌, ◌≤◌, List, [], ◌∷◌, ◌++◌, length, map, Option, Some, None, Result, Ok, Err, cond, slice_get, ⊤}
use Rattle.wasm_tree.specs.declared.module_parts.Module.{Module}
use Rattle.wasm_tree.specs.Exec.{ExecutionLimits, State, type_of, same_type}
use Rattle.wasm_steps.specs.declared.step.Step.{Step}
use Rattle.wasm_steps.specs.declared.layout.ModuleLayout.{ModuleLayout}
use Rattle.wasm_steps.specs.Moves.{Final, Trapped}
use Rattle.wasm_steps.specs.Follow.{Waits, Looks}
use Rattle.wasm_steps.specs.Calls.{invoke, Runs}
use Rattle.wasm_tree.specs.declared.types.FunctionType.{FunctionType}
use Rattle.wasm_steps.specs.Layout.{IsModuleLayout}
use Rattle.wasm_machine.specs.Asked.{IsMadeFor}
use Rattle.wasm_machine.specs.declared.frames.Saved.{Saved}
use Rattle.wasm_machine.specs.declared.frames.Here.{Here}
use Rattle.wasm_machine.specs.declared.call.Stop.{Stop}
use Rattle.wasm_machine.specs.declared.call.Stop.TheVariants as stop
use Rattle.wasm_machine.specs.Hosts.{Reply, HostCall, Play, played}
use Rattle.wasm_machine.specs.Acts.{Given, Parts, store_of, state_of}
use Rattle.wasm_machine.specs.Stacks.{frames_under, locals_of, operands_of, IsStacked}

-- What a run does not change.
pub record Machine : Type 0 where
  pub limits : ExecutionLimits
  pub within : Module
  pub table : List (Option ℕ)

abbrev pub play : List HostCall → List Reply → Play
play made coming = record { made = made; coming = coming }

abbrev pub with_world : Machine → Play → Given
with_world k world = record { limits = k.limits; within = k.within; table = k.table; world = world }

abbrev pub replies_of : List HostCall → List Reply
replies_of calls = map (λ call. call.reply) calls

-- The run stands here, with so many steps left.
abbrev pub RunsAt : Machine → List Step → Final Play → Play → List Saved → List ℕ → Here → ℕ → Parts → Type 0
RunsAt k steps whole world saved cells here left p =
    Runs k.limits k.within played steps whole (frames_under saved here cells) here.room here.count here.height here.place (state_of (with_world k world) left (locals_of here cells) p) (operands_of here cells here.held)

-- The innermost activation waits for a call of a function, over so many operands.
pub record AsksAt (k : Machine) (steps : List Step) (whole : Final Play) (world : Play) (saved : List Saved) (cells : List ℕ) (here : Here) (left : ℕ) (p : Parts) (f place held : ℕ) : Type 0 where
  pub from : ℕ
  pub before : State Play
  pub operands : List ℕ
  pub runs : Runs k.limits k.within played steps whole (frames_under saved here cells) here.room here.count here.height from before operands
  pub waits : Waits k.limits k.within (invoke k.limits k.within played here.room) steps here.count here.height runs.keep runs.here f place (state_of (with_world k world) left (locals_of here cells) p) (operands_of here cells held)

-- Or of what stands at a place of the table.
pub record SeeksAt (k : Machine) (steps : List Step) (whole : Final Play) (world : Play) (saved : List Saved) (cells : List ℕ) (here : Here) (left : ℕ) (p : Parts) (x at place held : ℕ) : Type 0 where
  pub from : ℕ
  pub before : State Play
  pub operands : List ℕ
  pub runs : Runs k.limits k.within played steps whole (frames_under saved here cells) here.room here.count here.height from before operands
  pub looks : Looks k.limits k.within (invoke k.limits k.within played here.room) steps here.count here.height runs.keep runs.here x at place (state_of (with_world k world) left (locals_of here cells) p) (operands_of here cells held)

-- Each call has a reply that the host may give, from the state after the one before.
abbrev pub Chain : {S : Type 0} → (S → ℕ → List ℕ → List ℕ → Reply → S → Type 0) → S → List HostCall → S → Type 0
Chain replies before [] after = before ≡ after
Chain {S} replies before (call ∷ calls) after = (next : S) × replies before call.function call.args call.memory call.reply next × Chain replies next calls after

-- The function that an indirect call finds.
abbrev pub sought : Module → ℕ → Option ℕ → Option ℕ
sought m x None = None
sought m x (Some f) = cond (same_type (type_of m f) (slice_get m.types x)) (Some f) None

-- What a turn comes to, with the calls of the host that it made: the run goes on, or it ends.
pub record GoesOn {S : Type 0} (replies : S → ℕ → List ℕ → List ℕ → Reply → S → Type 0) (before after : S) (made : List HostCall) (whole : List Reply → Final Play) (P : List Reply → Final Play → Play → Type 0) : Type 0 where
  pub log : List HostCall
  pub chain : Chain replies before log after
  pub on : (rest : List Reply) → P rest (whole (replies_of log ++ rest)) (play (made ++ log) rest)

abbrev pub Comes : {S : Type 0} → (S → ℕ → List ℕ → List ℕ → Reply → S → Type 0) → S → S → List HostCall → (List Reply → Final Play) → Machine → List Step → List Saved → List ℕ → ℕ → Parts → Result Here Stop → Type 0
Comes replies before after made whole k steps saved cells left p (Ok next) = GoesOn replies before after made whole (λ rest end world. RunsAt k steps end world saved cells next left p)
Comes replies before after made whole k steps saved cells left p (Err (stop.Trapped cause)) = GoesOn replies before after made whole (λ rest end world. Trapped cause (store_of (with_world k world) p) ≡ end)
Comes replies before after made whole k steps saved cells left p (Err stop.Memory) = ⊤

-- Where a turn leaves the cells fit for the next one.
abbrev pub IsReady : Here → List Saved → List ℕ → Here → Type 0
IsReady here saved cells next = IsStacked saved cells next × (next.base + next.count + next.held ≤ length cells) × (next.depth ≤ here.depth + 1)

-- Some run waits for this call.
pub record SomeAsks (layout : ModuleLayout) (types : List FunctionType) (saved : List Saved) (cells : List ℕ) (here : Here) (f place held : ℕ) : Type 0 where
  pub k : Machine
  pub whole : Final Play
  pub world : Play
  pub left : ℕ
  pub p : Parts
  pub laid : IsModuleLayout k.within layout
  pub made_for : IsMadeFor k.within types
  pub asks : AsksAt k layout.steps whole world saved cells here left p f place held
