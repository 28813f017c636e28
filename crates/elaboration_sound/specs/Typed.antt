-- Committed states of the machine's actor that are typed: its fields, the answers to its calls, and what waits on them (Motoko language manual, sections
-- "Actors", "Await" and "Type soundness").
use Rattle.std.specs.Prelude.{◌≡◌, ℕ, suc, true, List, [], ◌∷◌, map, Some}
use Rattle.mo_types.specs.declared.node.TypeId.{TypeId}
use Rattle.mo_types.specs.Calls.{Call, CallTable}
use Rattle.mo_types.specs.Graph.{Slot}
use Rattle.mo_actor.specs.Passes.{HeldCall, CommittedState}
use Rattle.typed_tree.specs.Programs.{Program}
use Rattle.mo_meaning.specs.Acts.{Given}
use Rattle.mo_soundness.specs.Running.{AnswerTypes}
use Rattle.program_soundness.specs.Agreement.{Agrees, WaitsOn, awaited_by}
use Rattle.program_soundness.specs.Bodies.{FieldsTyped, WaitingTyped}
use Rattle.program_soundness.specs.Worlds.{running}
use Rattle.mo_machine.specs.ActorLanguage.{machine, Waiting, unload_fields, unload_waiting}

-- the calls of the actor as its executions find them
abbrev pub table_of : CommittedState machine → CallTable (List TypeId) Given
table_of s = record { first = s.first; calls = map (λ (h : HeldCall machine). h.call) s.calls }

module _ (types : List Slot) (p : Program) (answers : AnswerTypes) (kinds : List TypeId) where
  -- what waits on the call of this number, which has made it or resumes a future, gives its results, and stands at the `await` of that future
  abbrev pub WaitsAs : ℕ → Call (List TypeId) Given → Waiting → Type 0
  WaitsAs number c w = WaitingTyped types p answers kinds (unload_waiting w) × WaitsOn (running types) (awaited_by number c.resumes) (unload_waiting w).at

  abbrev pub HeldTyped : ℕ → List (HeldCall machine) → Type 0
  HeldTyped number [] = Unit {0}
  HeldTyped number (h ∷ hs) = ((w : Waiting) → h.waiting ≡ Some w → WaitsAs number h.call w) × HeldTyped (suc number) hs

module _ (types : List Slot) (p : Program) where
  -- with some types of the answers and of the cells
  pub record CommittedTyped (s : CommittedState machine) : Type 0 where
    pub answers : AnswerTypes
    pub kinds : List TypeId
    pub may_call : answers.may_call ≡ true
    pub fields : FieldsTyped types p answers kinds (unload_fields s.store)
    pub calls : Agrees (running types) answers kinds (table_of s)
    pub waits : HeldTyped types p answers kinds s.first s.calls
