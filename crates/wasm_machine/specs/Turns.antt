-- What a turn of a run comes to.
use Rattle.std.specs.Prelude.{◌≡◌, ℕ, ◌+◌, ◌*◌, ◌≤◌, ◌<◌, List, [], length, Option, Some, Result, Ok, Err, slice_get, ⊤}
use Rattle.wasm_tree.specs.declared.module_parts.Module.{Module}
use Rattle.wasm_steps.specs.declared.step.Step.{Step}
use Rattle.wasm_steps.specs.declared.layout.ModuleLayout.{ModuleLayout}
use Rattle.wasm_steps.specs.Moves.{Final, Done, Trapped}
use Rattle.wasm_machine.specs.declared.frames.Saved.{Saved}
use Rattle.wasm_machine.specs.declared.frames.Here.{Here}
use Rattle.wasm_machine.specs.declared.call.Stop.{Stop}
use Rattle.wasm_machine.specs.declared.call.Stop.TheVariants as stop
use Rattle.wasm_machine.specs.declared.turn.Turn.{Turn}
use Rattle.wasm_machine.specs.declared.turn.Turn.TheVariants as turn
use Rattle.wasm_machine.specs.Hosts.{Reply, HostCall, Play}
use Rattle.wasm_machine.specs.Acts.{Parts, page_bound, store_of}
use Rattle.wasm_machine.specs.Stacks.{operands_of, IsStacked}
use Rattle.wasm_machine.specs.Running.{Machine, play, with_world, RunsAt, GoesOn}

-- Some run stands here.
pub record SomeRuns (m : Module) (layout : ModuleLayout) (table : List (Option ℕ)) (most : ℕ) (saved : List Saved) (cells : List ℕ) (here : Here) (left : ℕ) (p : Parts) : Type 0 where
  pub k : Machine
  pub of_module : k.within ≡ m
  pub of_table : k.table ≡ table
  pub whole : Final Play
  pub world : Play
  pub bound : page_bound (with_world k world) ≡ most
  pub named : length m.globals ≡ length p.globals
  pub runs : RunsAt k layout.steps whole world saved cells here left p

-- The table holds numbers of functions.
abbrev pub IsTableOf : ModuleLayout → List (Option ℕ) → Type 0
IsTableOf layout table = (i f : ℕ) → slice_get table i ≡ Some (Some f) → f < length layout.functions

-- A call takes a step, and a return a frame.
abbrev pub IsLess : Here → ℕ → Result Turn Stop → Type 0
IsLess before limit (Ok (turn.On here left)) = 2 * left + here.depth < 2 * limit + before.depth
IsLess before limit (Ok (turn.Done left held)) = left ≤ limit
IsLess before limit (Err e) = ⊤

abbrev pub IsFit : Here → List Saved → List ℕ → Result Turn Stop → Type 0
IsFit before saved cells (Ok (turn.On here left)) = IsStacked saved cells here × (here.base + here.count + here.held ≤ length cells)
IsFit before saved cells (Ok (turn.Done left held)) = ⊤
IsFit before saved cells (Err e) = ⊤

abbrev pub Turned : {S : Type 0} → (S → ℕ → List ℕ → List ℕ → Reply → S → Type 0) → S → S → List HostCall → (List Reply → Final Play) → Machine → List Step → Here → List Saved → List ℕ → Parts → Result Turn Stop → Type 0
Turned replies before after made whole k steps last saved cells p (Ok (turn.On here left)) = GoesOn replies before after made whole (λ rest end world. RunsAt k steps end world saved cells here left p)
Turned replies before after made whole k steps last saved cells p (Ok (turn.Done left held)) =
    GoesOn replies before after made whole (λ rest end world. Done left (store_of (with_world k world) p) (operands_of last cells held) ≡ end)
Turned replies before after made whole k steps last saved cells p (Err (stop.Trapped cause)) =
    GoesOn replies before after made whole (λ rest end world. Trapped cause (store_of (with_world k world) p) ≡ end)
Turned replies before after made whole k steps last saved cells p (Err stop.Memory) = ⊤

abbrev pub goes : Result Here Stop → ℕ → Result Turn Stop
goes (Ok here) left = Ok (turn.On here left)
goes (Err e) left = Err e

-- How a run ends: with steps left, or it stops.
abbrev pub Ended : {S : Type 0} → (S → ℕ → List ℕ → List ℕ → Reply → S → Type 0) → S → S → (List Reply → Final Play) → Machine → Parts → Result ℕ Stop → Type 0
Ended replies before after whole k p (Ok left) =
    GoesOn replies before after [] whole (λ rest end world. (values : List ℕ) × (Done left (store_of (with_world k world) p) values ≡ end))
Ended replies before after whole k p (Err (stop.Trapped cause)) =
    GoesOn replies before after [] whole (λ rest end world. Trapped cause (store_of (with_world k world) p) ≡ end)
Ended replies before after whole k p (Err stop.Memory) = ⊤

-- Some run begins here, whatever the host replies.
pub record SomeStart (m : Module) (layout : ModuleLayout) (table : List (Option ℕ)) (most : ℕ) (saved : List Saved) (cells : List ℕ) (here : Here) (left : ℕ) (p : Parts) : Type 0 where
  pub k : Machine
  pub of_module : k.within ≡ m
  pub of_table : k.table ≡ table
  pub bound : page_bound (with_world k (play [] [])) ≡ most
  pub named : length m.globals ≡ length p.globals
  pub whole : List Reply → Final Play
  pub runs : (rest : List Reply) → RunsAt k layout.steps (whole rest) (play [] rest) saved cells here left p
