-- One execution of a canister: IC interface specification, section Entry points; its limits are those of each execution.
use Rattle.std.specs.Prelude.{ℕ, suc, List, [], ◌∷◌, Option, Some, None, Bool, true, false, cond, codes}
use Rattle.play_script.specs.declared.item.Word.{Word}
use Rattle.play_script.specs.declared.item.Word.TheVariants as word
use Rattle.wasm_tree.specs.declared.trap.Trap.{Trap}
use Rattle.wasm_tree.specs.declared.trap.Trap.TheVariants as trap
use Rattle.wasm_tree.specs.declared.module_parts.Module.{Module}
use Rattle.wasm_tree.specs.Exec.{ExecutionLimits, Store, Called, Back, Fell, Lost}
use Rattle.wasm_tree.specs.Frames.{enter}
use Rattle.wasm_tree.specs.Load.{Instance}
use Rattle.ic0_world.specs.declared.kind.ExecutionKind.{ExecutionKind}
use Rattle.ic0_world.specs.declared.world.World.{World}
use Rattle.canister_host.specs.State.{Canister}
use Rattle.canister_host.specs.Entries.{host}

-- A function that is entered, with its operands.
pub record Entry : Type 0 where
  pub kind : ExecutionKind
  pub function : ℕ
  pub operands : List ℕ

abbrev pub entered_as : ExecutionKind → Store World → Store World
entered_as kind store = record store { world = record store.world { kind = kind } }

abbrev pub then_go : Called World → (ℕ → Store World → Called World) → Called World
then_go (Back left store operands) next = next left store
then_go (Fell cause store) next = Fell cause store
then_go Lost next = Lost

-- The entries one after another, which share their steps: each is entered under the limits with the steps that are left.
abbrev pub run : ExecutionLimits → Module → List Entry → ℕ → Store World → Called World
run limits m [] left store = Back left store []
run limits m (e ∷ entries) left store =
    then_go (enter (suc limits.stack) (record limits { steps = left }) m (host m) limits.stack e.function left (entered_as e.kind store) e.operands) (run limits m entries)

-- The word of a trap. Code that reaches `unreachable` after a memory was refused to grow has run out of memory.
abbrev pub word_of : Bool → List ℕ → Trap → Word
word_of refused text trap.Steps = word.Steps
word_of refused text trap.Stack = word.Stack
word_of false text trap.Unreachable = word.Unreachable
word_of true text trap.Unreachable = word.Heap
word_of refused text trap.Bounds = word.Bounds
word_of refused text trap.DivideByZero = word.Divide
word_of refused text trap.Overflow = word.Overflow
word_of refused text trap.Indirect = word.Indirect
word_of refused text trap.Host = word.Text text

-- How an execution ends: with a store, or with a trap after these prints.
pub data End : Type 0 where
  Finishes : Store World → End
  Breaks : Word → List (List ℕ) → End

-- No execution of a valid module is lost.
abbrev pub end_of : Called World → End
end_of (Back left store operands) = Finishes store
end_of (Fell cause store) = Breaks (word_of (cond store.refused true store.world.stable_refused) store.world.trap_text cause) store.world.prints
end_of Lost = Breaks word.Unreachable []

abbrev pub store_of : Instance → World → Store World
store_of i w = record { memory = i.memory; globals = i.globals; table = i.table; refused = false; world = w }

-- An execution of a module that begins with this memory, these globals and this table.
abbrev pub execution : ExecutionLimits → Module → Instance → List Entry → World → End
execution limits m i entries w = end_of (run limits m entries limits.steps (store_of i w))

-- The canister as an execution left it.
abbrev pub left_by : Module → Store World → Canister
left_by m store = record { code = m; instance = record { memory = store.memory; globals = store.globals; table = store.table }; stable = store.world.stable.bytes }
