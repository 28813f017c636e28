-- What an execution of an actor knows and changes, whatever its language: Motoko language manual, sections "Async" and "Actors".
use Rattle.std.specs.Prelude.{ℕ, ◌+◌, List, [], ◌∷◌, ◌++◌, length, nat_lt, Option, Some, None, cond}
use Rattle.mo_types.specs.declared.node.Node.{Node}
use Rattle.mo_types.specs.declared.node.TypeId.{TypeId}
use Rattle.mo_types.specs.Calls.{CallTable, State, Open, open_count, next_number, call_at, state_of}
use Rattle.mo_values.specs.Shapes.{Bytes}
use Rattle.core_ir.specs.Primitives.{Store}
use Rattle.core_ir.specs.Values.{Value}

-- a group of functions that was made: which one of the program, and what its functions see
pub record MadeGroup : Type 0 where
  pub code : ℕ
  pub seen : List Value

-- what a call is answered with
pub data Given : Type 0 where
  Gets : (v : Value) → Given
  Throws : (error : Value) → Given

-- a call that an execution makes
pub record Request : Type 0 where
  pub callee : Bytes
  pub method : Bytes
  pub argument : Bytes
  pub results : List TypeId
  -- the number of the call whose answered future it resumes
  pub resumes : Option ℕ

-- the cells, the groups that were made, and the calls that this execution made, in order
pub record World : Type 0 where
  pub store : Store
  pub groups : List MadeGroup
  pub requests : List Request

-- What an execution is given: the types, the bytes of values at types (none where they are no values of these), the actor's own
-- principal, the outgoing calls as it finds them, and the values of the actor's names.
pub record Context : Type 0 where
  pub head : TypeId → Node TypeId
  pub message : List TypeId → List Value → Option Bytes
  pub own : Bytes
  pub table : CallTable (List TypeId) Given
  pub globals : List Value

abbrev pub with_store : World → Store → World
with_store world store = record { store = store; groups = world.groups; requests = world.requests }

abbrev pub with_group : World → ℕ → List Value → World
with_group world code seen = record { store = world.store; groups = world.groups ++ record { code = code; seen = seen } ∷ []; requests = world.requests }

abbrev pub with_request : World → Request → World
with_request world request = record { store = world.store; groups = world.groups; requests = world.requests ++ request ∷ [] }

-- ---- the outgoing calls, those of this execution behind the ones that it found

module _ (context : Context) (world : World) where
  abbrev pub open_now : ℕ
  open_now = open_count context.table + length world.requests

  abbrev pub next_call : ℕ
  next_call = next_number context.table + length world.requests

  abbrev pub state_now : ℕ → Option (State Given)
  state_now number =
      cond (nat_lt number (next_number context.table)) (state_of (call_at context.table number)) (cond (nat_lt number next_call) (Some Open) None)
