-- The executions of an actor's methods, and of bodies that waited: what they begin with, and what they leave (Motoko language manual, sections "Shared
-- functions", "Async" and "Await").
use Rattle.std.specs.Prelude.{◌≡◌, ◌⊎◌, ◌≤◌, ℕ, List, [], ◌++◌, length, map, Some, None, slice_get}
use Rattle.mo_types.specs.declared.node.TypeId.{TypeId}
use Rattle.mo_types.specs.Calls.{CallTable}
use Rattle.mo_types.specs.Graph.{Slot, head_at}
use Rattle.mo_types.specs.Sub.{Each}
use Rattle.mo_actor.specs.Completions.{open_call}
use Rattle.mo_actor.specs.Programs.{Effects, Ending, Answers, Awaits, AwaitsNothing, Unchanged}
use Rattle.typed_tree.specs.Programs.{Program, Method}
use Rattle.typed_tree.specs.Shareable.{IsShareable}
use Rattle.typed_tree.specs.Wants.{Of}
use Rattle.mo_meaning.specs.Acts.{Given}
use Rattle.mo_meaning.specs.Kernel.{kernel, Fields, Waiting, Entry, Body, Enters, Resumes, Outgoing}
use Rattle.mo_soundness.specs.Keeps.{HasEach}
use Rattle.mo_soundness.specs.Running.{AnswerTypes, StoreTyped}
use Rattle.program_soundness.specs.Agreement.{GivenFits, Agrees, WaitsOn, IsWaiting}
use Rattle.program_soundness.specs.Exports.{ExportsTyped}
use Rattle.program_soundness.specs.Results.{GivesResults}
use Rattle.program_soundness.specs.Runs.{Further}
use Rattle.program_soundness.specs.Worlds.{running, IsCarried}

-- what goes into messages and into stable memory is shareable
pub record Shares (types : List Slot) (p : Program) : Type 0 where
  pub parameters : Each (λ (m : Method). Each (IsCarried types) m.parameters) p.methods
  pub results : Each (λ (m : Method). Each (IsCarried types) m.results) p.methods
  pub stable : Each (λ v. IsShareable (head_at types) v.of_type) p.stable

-- a method of the program, or `__resume`
abbrev pub IsEntry : Program → Entry → Type 0
IsEntry p entry =
    ((i : ℕ) × (m : Method) × (entry.place ≡ Some i) × (slice_get p.methods i ≡ Some m) × (entry.parameters ≡ m.parameters) × (entry.results ≡ m.results))
    ⊎ ((entry.place ≡ None) × (entry.parameters ≡ []) × (entry.results ≡ []))

-- the table with the calls that an execution made
abbrev pub with_calls : CallTable (List TypeId) Given → List Outgoing → CallTable (List TypeId) Given
with_calls table calls = record table { calls = table.calls ++ map (open_call {L = kernel} 0) calls }

module _ (types : List Slot) (p : Program) (answers : AnswerTypes) (kinds : List TypeId) where
  pub record FieldsTyped (fields : Fields) : Type 0 where
    pub cells : StoreTyped (running types) answers kinds fields.cells kinds
    pub exports : ExportsTyped types answers kinds p fields.exports

  -- a body that waits gives its results
  abbrev pub WaitingTyped : Waiting → Type 0
  WaitingTyped w = Each (IsCarried types) w.results × GivesResults (running types) w.results answers kinds w.at

  -- a method with arguments of its types; or a body that waits on a future, with an answer of its type
  abbrev pub BodyFits : Body → Type 0
  BodyFits (Enters entry caller vs) = IsEntry p entry × (length caller ≤ 29) × HasEach (running types) answers kinds (map (λ t. Of t) entry.parameters) vs
  BodyFits (Resumes w g) = WaitingTyped w × ((future : ℕ) × (t : TypeId) × (answers.types future ≡ Some t) × WaitsOn (running types) future w.at × GivenFits (running types) answers kinds t g)

  abbrev pub EndingFits : CallTable (List TypeId) Given → Ending kernel → Type 0
  EndingFits table (Awaits number w) = WaitingTyped w × IsWaiting (running types) table number w.at
  EndingFits table (Answers answer) = Unit {0}
  EndingFits table AwaitsNothing = Unit {0}
  EndingFits table Unchanged = Unit {0}

-- what a completed execution leaves is typed
abbrev pub EffectsFit : List Slot → Program → AnswerTypes → List TypeId → CallTable (List TypeId) Given → Effects kernel → Type 0
EffectsFit types p answers kinds table effects =
    Further answers kinds (λ more longer.
    FieldsTyped types p more longer effects.store × Agrees (running types) more longer (with_calls table effects.calls) × EndingFits types p more longer (with_calls table effects.calls) effects.ending)
