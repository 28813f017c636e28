-- What a place in the steps stands for: the rest of one execution of the code.
use Rattle.std.specs.Prelude.{◌≡◌, ℕ, suc, ◌+◌, ◌-◌, ◌<◌, ◌≤◌, ◌⊎◌, List, [], ◌∷◌, ◌++◌, length, Option, Some, slice_get, ⊤}
use Rattle.wasm_tree.specs.declared.types.ValueType.{ValueType}
use Rattle.wasm_tree.specs.declared.types.FunctionType.{FunctionType}
use Rattle.wasm_tree.specs.declared.module_parts.Module.{Module}
use Rattle.wasm_tree.specs.Code.{Code, Loop}
use Rattle.wasm_tree.specs.Valid.{results_of}
use Rattle.wasm_tree.specs.Exec.{ExecutionLimits, Store, State, Outcome, leave, again, turns, Called, Back, Fell, Lost, Calls, type_of, after_call, entry, indirect, exec}
use Rattle.wasm_steps.specs.declared.step.Label.{Label}
use Rattle.wasm_steps.specs.declared.step.Step.{Step}
use Rattle.wasm_steps.specs.declared.step.Step.TheVariants as step
use Rattle.wasm_steps.specs.Steps.{label}
use Rattle.wasm_steps.specs.Layout.{size, Laid}
use Rattle.wasm_steps.specs.Moves.{Final, Done, Trapped, Astray, finish, Next, On, Over, Asks, Seeks, Strays}

-- No call gives steps back.
abbrev pub CalledWithin : {World : Type 0} → ℕ → Called World → Type 0
CalledWithin most (Back left store operands) = left ≤ most
CalledWithin most (Fell cause store) = ⊤
CalledWithin most Lost = ⊤

abbrev pub Frugal : {World : Type 0} → Calls World → Type 0
Frugal {World} calls = (f left : ℕ) (store : Store World) (operands : List ℕ) → CalledWithin left (calls f left store operands)

-- What an execution goes on with after a sequence: the blocks around it, the innermost first. A sequence ends at stop,
-- and what comes after its block is at to.
pub data Around : Type 0 where
  Body : (end keep : ℕ) → Around
  InBlock : (stop to keep : ℕ) (below : List ℕ) (rest : Code) → Around → Around
  InLoop : (from to : ℕ) (kind : Option ValueType) (body : Code) (below : List ℕ) (rest : Code) → Around → Around

abbrev pub HasResults : {World : Type 0} → ℕ → Final World → Type 0
HasResults keep (Done left store values) = length values ≡ keep
HasResults keep (Trapped cause store) = ⊤
HasResults keep Astray = ⊥

-- The operands below the block's own.
abbrev pub under : Around → List ℕ
under (Body end keep) = []
under (InBlock stop to keep below rest k) = below ++ under k
under (InLoop from to kind body below rest k) = below ++ under k

abbrev pub base : Around → ℕ
base (Body end keep) = 0
base (InBlock stop to keep below rest k) = base k + length below
base (InLoop from to kind body below rest k) = base k + length below

abbrev pub labels : Around → List Label
labels (Body end keep) = label end 0 keep ∷ []
labels (InBlock stop to keep below rest k) = label to (base k + length below) keep ∷ labels k
labels (InLoop from to kind body below rest k) = label from (base k + length below) 0 ∷ labels k

abbrev pub results : Around → ℕ
results (Body end keep) = keep
results (InBlock stop to keep below rest k) = keep
results (InLoop from to kind body below rest k) = length (results_of kind)

abbrev pub end_of : Around → ℕ
end_of (Body end keep) = end
end_of (InBlock stop to keep below rest k) = stop
end_of (InLoop from to kind body below rest k) = to

module _ (m : Module) (steps : List Step) (locals room keep : ℕ) where
  abbrev pub LaidAround : Around → Type 0
  LaidAround (Body end k) = (slice_get steps end ≡ Some step.Finish) × (k ≡ keep)
  LaidAround (InBlock stop to out below rest k) =
      ((stop ≡ to) ⊎ ((stop < to) × (slice_get steps stop ≡ Some (step.Jump to))))
      × Laid m steps locals room keep to (labels k) (base k) (results k) (length below + out) rest × (to + size rest ≡ end_of k) × LaidAround k
  LaidAround (InLoop from to kind body below rest k) =
      (to ≡ from + 1 + size body) × Laid m steps locals room keep from (labels k) (base k) (results k) (length below) (Loop kind body rest)
      × (to + size rest ≡ end_of k) × LaidAround k

module _ {World : Type 0} (limits : ExecutionLimits) (m : Module) (calls : Calls World) where
  -- A loop from its beginning.
  abbrev pub loop : Code → State World → Outcome World
  loop body s = turns (suc s.left) (λ s. exec limits m calls body s []) s

  abbrev pub resume : Around → Outcome World → Final World
  resume (Body end keep) o = finish keep o
  resume (InBlock stop to keep below rest k) o = resume k (leave keep below o (exec limits m calls rest))
  resume (InLoop from to kind body below rest k) o = resume k (leave (length (results_of kind)) below (again o (loop body)) (exec limits m calls rest))

module _ {World : Type 0} (limits : ExecutionLimits) (m : Module) (calls : Calls World) (steps : List Step) (locals room keep : ℕ) where
  -- A place with a state and operands, and the execution that it is a part of, which ends as whole.
  pub record Stands (whole : Final World) (place : ℕ) (s : State World) (operands : List ℕ) : Type 0 where
    pub code : Code
    pub around : Around
    pub own : List ℕ
    pub means : resume limits m calls around (exec limits m calls code s own) ≡ whole
    pub held : operands ≡ own ++ under around
    pub laid : Laid m steps locals room keep place (labels around) (base around) (results around) (length own) code
    pub kept : LaidAround m steps locals room keep around
    pub ends : place + size code ≡ end_of around

  -- The execution after a call of a function of this type.
  pub record After (t : FunctionType) (place : ℕ) (operands : List ℕ) : Type 0 where
    pub code : Code
    pub around : Around
    pub own : List ℕ
    pub enough : length t.params ≤ length own
    pub few : length operands ≤ room
    pub fits : base around + (length own - length t.params + length t.results) ≤ room
    pub held : operands ≡ own ++ under around
    pub laid : Laid m steps locals room keep place (labels around) (base around) (results around) (length own - length t.params + length t.results) code
    pub kept : LaidAround m steps locals room keep around
    pub ends : place + size code ≡ end_of around

  -- What comes after a call, by how it ends.
  abbrev pub resumed : {t : FunctionType} {place : ℕ} {operands : List ℕ} → After t place operands → List ℕ → Called World → Final World
  resumed a locals called = resume limits m calls a.around (after_call locals called (exec limits m calls a.code))

  -- The execution waits for a call of this function.
  pub record Waits (whole : Final World) (f place : ℕ) (s : State World) (operands : List ℕ) : Type 0 where
    pub type : FunctionType
    pub of_type : type_of m f ≡ Some type
    pub after : After type place operands
    pub means : resumed after s.locals (calls f s.left s.store after.own) ≡ whole

  -- The execution waits for a call of what stands at a place of the table.
  pub record Looks (whole : Final World) (x at place : ℕ) (s : State World) (operands : List ℕ) : Type 0 where
    pub type : FunctionType
    pub of_type : slice_get m.types x ≡ Some type
    pub after : After type place operands
    pub means : resume limits m calls after.around (indirect m x (entry (slice_get s.store.table at)) s
        (λ f. after_call s.locals (calls f s.left s.store after.own) (exec limits m calls after.code))) ≡ whole

  -- What a step leads to stands for the same execution, or is its end.
  abbrev pub Good : Final World → Next World → Type 0
  Good whole (On place s operands) = Stands whole place s operands
  Good whole (Over f) = (f ≡ whole) × HasResults keep f
  Good whole (Asks f place s operands) = Waits whole f place s operands
  Good whole (Seeks x at place s operands) = Looks whole x at place s operands
  Good whole Strays = ⊥
