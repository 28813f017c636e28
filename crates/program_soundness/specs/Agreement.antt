-- What is known of an actor's outgoing calls: of each future the type of its answer, and of each answer that it has this type (Motoko language
-- manual, sections "Async" and "Await").
use Rattle.std.specs.Prelude.{◌≡◌, ℕ, List, [], Option, Some, None}
use Rattle.mo_types.specs.declared.node.TypeId.{TypeId}
use Rattle.mo_types.specs.Calls.{State, Answered, Call, CallTable, call_at}
use Rattle.typed_tree.specs.ActionTypes.{ResultOf}
use Rattle.typed_tree.specs.Language.{Exp}
use Rattle.typed_tree.specs.Wants.{Of}
use Rattle.mo_meaning.specs.Acts.{Store, Given, Gets, Fails, Awaits}
use Rattle.mo_meaning.specs.Reduce.{reduce}
use Rattle.mo_soundness.specs.Running.{AnswerTypes, HasValue, IsErrorValue}
use Rattle.mo_soundness.specs.Worlds.{World}

module _ (world : World) where
  -- it waits on the future of this call, over each store
  abbrev pub WaitsOn : ℕ → Exp → Type 0
  WaitsOn future e = (nodes : ℕ) × ((store : Store) → reduce world.meant None store e ≡ Awaits nodes future)

  module _ (answers : AnswerTypes) (kinds : List TypeId) where
    -- a value of the type, or an error
    abbrev pub GivenFits : TypeId → Given → Type 0
    GivenFits t (Gets v) = HasValue world answers kinds (Of t) v
    GivenFits t (Fails error) = IsErrorValue error

    abbrev pub StateFits : TypeId → State Given → Type 0
    StateFits t (Answered (Some g)) = GivenFits t g
    StateFits t _ = Unit {0}

    -- the call of this number, which is none of `__resume`, is answered with values of this type
    pub record GivesAnswer (table : CallTable (List TypeId) Given) (n : ℕ) (t : TypeId) : Type 0 where
      pub call : Call (List TypeId) Given
      pub is : call_at table n ≡ Some call
      pub result : ResultOf world.head call.results t
      pub shareable : world.IsMessage [] call.results
      pub own : call.resumes ≡ None
      pub state : StateFits t call.state

    abbrev pub Agrees : CallTable (List TypeId) Given → Type 0
    Agrees table = (n : ℕ) (t : TypeId) → answers.types n ≡ Some t → GivesAnswer table n t

-- the call whose future is waited on by one that waits on this call
abbrev pub awaited_by : ℕ → Option ℕ → ℕ
awaited_by number None = number
awaited_by number (Some future) = future

-- it waits on the call of this number, or on the future that this call resumes
abbrev pub IsWaiting : World → CallTable (List TypeId) Given → ℕ → Exp → Type 0
IsWaiting world table number e = (call : Call (List TypeId) Given) × (call_at table number ≡ Some call) × WaitsOn world (awaited_by number call.resumes) e
