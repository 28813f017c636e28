-- One execution of a low module under the host: IC interface specification, section Entry points.
use Rattle.std.specs.Prelude.{⊤, ◌≡◌, ℕ, suc, List, [], ◌∷◌, length, reverse, Some, None, true, cond}
use Rattle.std.specs.List.{AllByRecursion}
use Rattle.play_script.specs.declared.item.Word.TheVariants as word
use Rattle.wasm_tree.specs.declared.types.FunctionType.{FunctionType}
use Rattle.wasm_tree.specs.Exec.{ExecutionLimits, Store}
use Rattle.wasm_tree.specs.Load.{Instance}
use Rattle.ic0_world.specs.declared.world.World.{World}
use Rattle.canister_host.specs.Execution.{Entry, End, Finishes, Breaks, entered_as, word_of, store_of}
use Rattle.low_ir.specs.Tree.{Module}
use Rattle.low_ir.specs.Numbering.{type_of}
use Rattle.low_ir.specs.Meaning.{Called, Gave, Fell, Lost}
use Rattle.low_ir.specs.Frames.{enter}
use Rattle.low_ir.specs.Formed.{ModuleIsFormed}
use Rattle.low_execution.specs.Host.{low_host}

abbrev pub then_go : Called World → (ℕ → Store World → Called World) → Called World
then_go (Gave left store value) next = next left store
then_go (Fell cause store) next = Fell cause store
then_go Lost next = Lost

-- The entries one after another, which share their steps. Operands stand with the topmost first.
abbrev pub low_run : ExecutionLimits → Module → List Entry → ℕ → Store World → Called World
low_run limits m [] left store = Gave left store None
low_run limits m (e ∷ entries) left store =
    then_go (enter (suc limits.stack) limits.pages m low_host limits.stack e.function left (entered_as e.kind store) (reverse e.operands)) (low_run limits m entries)

-- No execution of a formed module is lost.
abbrev pub low_end : Called World → End
low_end (Gave left store value) = Finishes store
low_end (Fell cause store) = Breaks (word_of (cond store.refused true store.world.stable_refused) store.world.trap_text cause) store.world.prints
low_end Lost = Breaks word.Unreachable []

-- An execution of a module that begins with this memory, these globals and this table.
abbrev pub low_execution : ExecutionLimits → Module → Instance → List Entry → World → End
low_execution limits m i entries w = low_end (low_run limits m entries limits.steps (store_of i w))

-- What is entered is there, with the operands that it takes.
pub record IsEntry (m : Module) (e : Entry) : Type 0 where
  pub type : FunctionType
  pub is : type_of m e.function ≡ Some type
  pub arity : length e.operands ≡ length type.params

abbrev pub IsNotLost : Called World → Type 0
IsNotLost (Gave left store value) = ⊤
IsNotLost (Fell cause store) = ⊤
IsNotLost Lost = ⊥

-- The entries of a formed module end with a store or a trap.
abbrev pub FormedAreNeverLost : Type 0
FormedAreNeverLost =
    (m : Module) → ModuleIsFormed m → (limits : ExecutionLimits) (entries : List Entry) → AllByRecursion (IsEntry m) entries → (left : ℕ) (store : Store World) → IsNotLost (low_run limits m entries left store)
