-- Executions under smaller limits.
use Rattle.std.specs.Prelude.{◌≡◌, ◌+◌, ◌-◌, ◌<◌, ◌≤◌, ◌⊎◌, ℕ, List, ◌++◌, true}
use Rattle.std.specs.List.{AllByRecursion}
use Rattle.play_script.specs.declared.item.Word.{Word}
use Rattle.play_script.specs.declared.item.Word.TheVariants as word
use Rattle.wasm_tree.specs.declared.trap.Trap.{Trap}
use Rattle.wasm_tree.specs.declared.trap.Trap.TheVariants as trap
use Rattle.wasm_tree.specs.Exec.{ExecutionLimits, Store}
use Rattle.wasm_tree.specs.Load.{Instance}
use Rattle.ic0_world.specs.declared.world.World.{World}
use Rattle.canister_host.specs.Execution.{Entry, End, Finishes, Breaks}
use Rattle.module_laws.specs.Prints.{IsLater}
use Rattle.low_ir.specs.Tree.{Module}
use Rattle.low_ir.specs.Meaning.{Called, Fell}
use Rattle.low_ir.specs.Frames.{enter}
use Rattle.low_ir.specs.Formed.{ModuleIsFormed}
use Rattle.low_rules.specs.Rule.{CallEnd, Comes, Dies, cost_of, called_of}
use Rattle.low_execution.specs.Host.{low_host}
use Rattle.low_execution.specs.Execution.{IsEntry, low_execution}

-- The word names a resource of which there is less. On the way from a refused growth to the end of the execution the steps may
-- run out, since that takes a step more than growing.
abbrev pub IsWant : ExecutionLimits → ExecutionLimits → Word → Type 0
IsWant scant ample word.Steps = (scant.steps < ample.steps) ⊎ (scant.pages < ample.pages)
IsWant scant ample word.Stack = scant.stack < ample.stack
IsWant scant ample word.Heap = scant.pages < ample.pages
IsWant scant ample word.Unreachable = ⊥
IsWant scant ample word.Bounds = ⊥
IsWant scant ample word.Divide = ⊥
IsWant scant ample word.Overflow = ⊥
IsWant scant ample word.Indirect = ⊥
IsWant scant ample (word.Text text) = ⊥

-- These prints, and more.
pub record PrintsMore (prints whole : List (List ℕ)) : Type 0 where
  pub more : List (List ℕ)
  pub is : whole ≡ prints ++ more

abbrev pub EndPrintsMore : List (List ℕ) → End → Type 0
EndPrintsMore prints (Finishes store) = PrintsMore prints store.world.prints
EndPrintsMore prints (Breaks word whole) = PrintsMore prints whole

-- An execution under smaller limits was cut short, where that under larger ones comes to this end.
pub record IsCut (scant ample : ExecutionLimits) (end whole : End) : Type 0 where
  pub word : Word
  pub prints : List (List ℕ)
  pub is : end ≡ Breaks word prints
  pub want : IsWant scant ample word
  pub goes : EndPrintsMore prints whole

pub record IsSmaller (scant ample : ExecutionLimits) : Type 0 where
  pub steps : scant.steps ≤ ample.steps
  pub pages : scant.pages ≤ ample.pages
  pub stack : scant.stack ≤ ample.stack

-- Of the entries of a formed module, on any contents, in any world.
abbrev pub SmallerLimitsCut : Type 0
SmallerLimitsCut =
    (m : Module) → ModuleIsFormed m → (scant ample : ExecutionLimits) → IsSmaller scant ample → (i : Instance) (entries : List Entry) → AllByRecursion (IsEntry m) entries → (w : World)
    → (low_execution scant m i entries w ≡ low_execution ample m i entries w) ⊎ IsCut scant ample (low_execution scant m i entries w) (low_execution ample m i entries w)

-- Calls of depths above the room.
abbrev pub FramesEndBeforeDepth : Type 0
FramesEndBeforeDepth = (m : Module) (pages deep deeper room : ℕ) → room < deep → room < deeper → enter deep pages m low_host room ≡ enter deeper pages m low_host room

-- One call that comes to this end where nothing is wanting.
abbrev pub ComesAmply : Module → (deep ample large f : ℕ) → Store World → List ℕ → CallEnd World → Type 0
ComesAmply m deep ample large f store args end = (left n : ℕ) → left ≡ cost_of end + n → enter deep ample m low_host large f left store args ≡ called_of n end

-- What such a call lacks with fewer steps than its cost, or with fewer stack words or pages than it had.
abbrev pub CallWants : (left cost scant ample room large : ℕ) → Trap → Store World → Type 0
CallWants left cost scant ample room large trap.Steps store = (left < cost) ⊎ ((store.refused ≡ true) × (scant < ample))
CallWants left cost scant ample room large trap.Stack store = room < large
CallWants left cost scant ample room large trap.Unreachable store = (store.refused ≡ true) × (scant < ample)
CallWants left cost scant ample room large trap.Bounds store = ⊥
CallWants left cost scant ample room large trap.DivideByZero store = ⊥
CallWants left cost scant ample room large trap.Overflow store = ⊥
CallWants left cost scant ample room large trap.Indirect store = ⊥
CallWants left cost scant ample room large trap.Host store = ⊥

abbrev pub store_of : CallEnd World → Store World
store_of (Comes cost store value) = store
store_of (Dies cause cost store) = store

pub record CallIsCut (left scant ample room large : ℕ) (end : CallEnd World) (called : Called World) : Type 0 where
  pub cause : Trap
  pub store : Store World
  pub is : called ≡ Fell cause store
  pub want : CallWants left (cost_of end) scant ample room large cause store
  pub goes : IsLater store.world (store_of end).world

-- Under any limits it comes to that end with its steps, or is cut short for want, after a part of its prints.
abbrev pub CallsUnderLimits : Type 0
CallsUnderLimits =
    (m : Module) (deep scant ample room large f left : ℕ) → scant ≤ ample → room ≤ large → (store : Store World) (args : List ℕ) (end : CallEnd World) → ComesAmply m deep ample large f store args end
    → (enter deep scant m low_host room f left store args ≡ called_of (left - cost_of end) end) ⊎ CallIsCut left scant ample room large end (enter deep scant m low_host room f left store args)
