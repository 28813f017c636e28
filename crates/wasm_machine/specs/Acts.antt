-- What the code of one step comes to.
use Rattle.std.specs.Prelude.{◌≡◌, ℕ, ◌+◌, ◌-◌, ◌*◌, ◌≤◌, ◌^◌, List, ◌++◌, Option, Bool, true, cond, nat_le, min, replicate, ⊤}
use Rattle.wasm_tree.specs.declared.module_parts.Module.{Module}
use Rattle.wasm_tree.specs.Exec.{ExecutionLimits, Store, State, pages_of, most_pages}
use Rattle.wasm_steps.specs.Moves.{Done, Trapped, Next, On, Over, Asks, Seeks}
use Rattle.wasm_steps.specs.declared.step.Step.{Step}
use Rattle.wasm_steps.specs.declared.step.Step.TheVariants as step
use Rattle.wasm_machine.specs.declared.advance.Moved.{Moved}
use Rattle.wasm_machine.specs.declared.advance.Moved.TheVariants as moved
use Rattle.wasm_machine.specs.Hosts.{Play}

-- Growing by so many pages up to so many in all.
abbrev pub fits : ℕ → List ℕ → ℕ → Bool
fits most memory by = nat_le (pages_of memory + by) most

abbrev pub grown : ℕ → List ℕ → ℕ → List ℕ
grown most memory by = cond (fits most memory by) (memory ++ replicate (65536 * by) 0) memory

abbrev pub is_refused : ℕ → List ℕ → ℕ → Bool → Bool
is_refused most memory by before = cond (fits most memory by) before true

abbrev pub grow_answer : ℕ → List ℕ → ℕ → ℕ
grow_answer most memory by = cond (fits most memory by) (pages_of memory) (2 ^ 32 - 1)

-- What no step changes: the limits, the module, the table and the host's state.
pub record Given : Type 0 where
  pub limits : ExecutionLimits
  pub within : Module
  pub table : List (Option ℕ)
  pub world : Play

-- The most pages that the memory may have.
abbrev pub page_bound : Given → ℕ
page_bound g = min g.limits.pages (most_pages g.within.memories)

-- What steps change: the memory, the globals and whether the memory was refused to grow.
pub record Parts : Type 0 where
  pub memory : List ℕ
  pub globals : List ℕ
  pub refused : Bool

abbrev pub parts : List ℕ → List ℕ → Bool → Parts
parts memory globals refused = record { memory = memory; globals = globals; refused = refused }

abbrev pub store_of : Given → Parts → Store Play
store_of g p = record { memory = p.memory; globals = p.globals; table = g.table; refused = p.refused; world = g.world }

abbrev pub state_of : Given → ℕ → List ℕ → Parts → State Play
state_of g left locals p = record { left = left; store = store_of g p; locals = locals }

-- The answer of one step's code, with what it left.
abbrev pub Moves : Given → Next Play → Moved → List ℕ → Parts → (ℕ → List ℕ) → Type 0
Moves g next (moved.On place left held) locals p tops = next ≡ On place (state_of g left locals p) (tops held)
Moves g next (moved.Asks function place left held) locals p tops = next ≡ Asks function place (state_of g left locals p) (tops held)
Moves g next (moved.Seeks signature at place left held) locals p tops = next ≡ Seeks signature at place (state_of g left locals p) (tops held)
Moves g next (moved.Done left held) locals p tops = next ≡ Over (Done left (store_of g p) (tops held))
Moves g next (moved.Trapped cause) locals p tops = next ≡ Over (Trapped cause (store_of g p))

-- No more operands than there is room for.
abbrev pub Holds : Moved → ℕ → Type 0
Holds (moved.On place left held) room = held ≤ room
Holds (moved.Asks function place left held) room = held ≤ room
Holds (moved.Seeks signature at place left held) room = held ≤ room
Holds (moved.Done left held) room = held ≤ room
Holds (moved.Trapped cause) room = ⊤

-- A step that another one may lead to.
abbrev pub IsMove : Step → Type 0
IsMove (step.Entry x) = ⊥
IsMove s = ⊤
