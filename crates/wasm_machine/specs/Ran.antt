-- What an execution comes to, exactly.
use Rattle.std.specs.Prelude.{◌≡◌, ℕ, suc, List, [], length, reverse, Option, Some, Result, Ok, Err, Bool, ⊤}
use Rattle.wasm_tree.specs.declared.trap.Trap.TheVariants as trap
use Rattle.wasm_tree.specs.declared.types.FunctionType.{FunctionType}
use Rattle.wasm_tree.specs.declared.module_parts.Module.{Module}
use Rattle.wasm_tree.specs.Exec.{ExecutionLimits, Store, Host, Called, Back, Fell, type_of}
use Rattle.wasm_tree.specs.Frames.{enter}
use Rattle.wasm_machine.specs.declared.call.Stop.{Stop}
use Rattle.wasm_machine.specs.declared.call.Stop.TheVariants as stop
use Rattle.wasm_machine.specs.Hosts.{Reply, Gives, Traps, HostCall, Play}
use Rattle.wasm_machine.specs.Asked.{FitsResult}
use Rattle.wasm_machine.specs.Running.{play, replies_of, Chain}

-- One execution of a function with arguments. Where there are none, this is `execute`.
abbrev pub execute_with : {World : Type 0} → ExecutionLimits → Module → Host World → ℕ → List ℕ → Store World → Called World
execute_with limits m host f args store = enter (suc limits.stack) limits m host limits.stack f limits.steps store (reverse args)

abbrev pub limits_of : ℕ → ℕ → ℕ → ExecutionLimits
limits_of steps pages stack = record { steps = steps; pages = pages; stack = stack }

abbrev pub store_with : List ℕ → List ℕ → List (Option ℕ) → Bool → Play → Store Play
store_with memory globals table refused world = record { memory = memory; globals = globals; table = table; refused = refused; world = world }

-- The function is there, and takes as many arguments and gives no result.
pub record IsCallable (m : Module) (f : ℕ) (args : List ℕ) : Type 0 where
  pub type : FunctionType
  pub of_type : type_of m f ≡ Some type
  pub many : length args ≡ length type.params
  pub none : type.results ≡ []

-- Where the host answers as it did, the execution ends like this: with so many steps left, or by this trap, and with
-- this store.
abbrev pub EndsAs : Called Play → Store Play → Result ℕ Stop → Type 0
EndsAs called store (Ok left) = called ≡ Back left store []
EndsAs called store (Err (stop.Trapped cause)) = called ≡ Fell cause store
EndsAs called store (Err stop.Memory) = ⊤

pub record Ran {S : Type 0} (replies : S → ℕ → List ℕ → List ℕ → Reply → S → Type 0) (before after : S) (run : Play → Called Play) (store : Play → Store Play) (result : Result ℕ Stop) : Type 0 where
  -- The calls of the host in turn, each with a reply that it may give in the state after the one before.
  pub made : List HostCall
  pub chain : Chain replies before made after
  pub ends : EndsAs (run (play [] (replies_of made))) (store (play made [])) result

-- Nothing is said where memory was wanting to the host.
abbrev pub HasRun : {S : Type 0} → (S → ℕ → List ℕ → List ℕ → Reply → S → Type 0) → S → S → (Play → Called Play) → (Play → Store Play) → Result ℕ Stop → Type 0
HasRun replies before after run store (Ok left) = Ran replies before after run store (Ok left)
HasRun replies before after run store (Err (stop.Trapped cause)) = Ran replies before after run store (Err (stop.Trapped cause))
HasRun replies before after run store (Err stop.Memory) = ⊤

-- What the call of an imported function has come to.
pub record Entered {S : Type 0} (replies : S → ℕ → List ℕ → List ℕ → Reply → S → Type 0) (before after : S) (f : ℕ) (args memory new : List ℕ) (types : List FunctionType) : Type 0 where
  pub result : Option ℕ
  pub fits : FitsResult types f result
  pub replied : replies before f args memory (Gives result new) after

abbrev pub IfEntered : {S : Type 0} → (S → ℕ → List ℕ → List ℕ → Reply → S → Type 0) → S → S → ℕ → List ℕ → List ℕ → List ℕ → Type 0 → List FunctionType → ℕ → Result ℕ Stop → Type 0
IfEntered replies before after f args memory new same types limit (Ok left) = (left ≡ limit) × Entered replies before after f args memory new types
IfEntered replies before after f args memory new same types limit (Err (stop.Trapped cause)) = (cause ≡ trap.Host) × replies before f args memory Traps after × same
IfEntered replies before after f args memory new same types limit (Err stop.Memory) = ⊤
