-- What executions come to that begin at typed expressions (Motoko language manual, sections "Type soundness", "Async" and "Await"). How an
-- expression is typed, and what is known of its value, are parameters here: an actor's declarations end in a value that has no type.
use Rattle.std.specs.Prelude.{◌≡◌, List, [], ◌++◌, map, true, false, Option, None}
use Rattle.std.specs.Str.{is_utf8}
use Rattle.mo_types.specs.declared.node.TypeId.{TypeId}
use Rattle.mo_types.specs.Calls.{CallTable}
use Rattle.mo_types.specs.Sub.{AtSome}
use Rattle.mo_actor.specs.Completions.{open_call}
use Rattle.typed_tree.specs.Language.{Value, Exp, Val}
use Rattle.typed_tree.specs.Wants.{Want}
use Rattle.mo_meaning.specs.Acts.{Store, Given, Act, Goes, Prints, Asks, Awaits, Leaves, Throws}
use Rattle.mo_meaning.specs.Acts as act
use Rattle.mo_meaning.specs.Configurations.{Configuration, End, Returns, Responds, Suspends, Sleeps, Traps, Breaks, Run, Still, Ended, Surroundings}
use Rattle.mo_meaning.specs.Kernel.{kernel}
use Rattle.mo_meaning.specs.Reduce.{reduce}
use Rattle.mo_soundness.specs.Keeps.{IsLonger, IsNoValue, IsRequest, KnowsMore, Suits, closed}
use Rattle.mo_soundness.specs.Running.{AnswerTypes, HasValue, StoreTyped, Typed, IsErrorValue}
use Rattle.program_soundness.specs.Agreement.{Agrees, IsWaiting}
use Rattle.program_soundness.specs.Worlds.{running}
use Rattle.mo_soundness.specs.Worlds.{World}

-- which expressions, and which values, fit with the types of answers and cells
abbrev pub Fitting : Type 0 → Type 1
Fitting X = AnswerTypes → List TypeId → X → Type 0

-- More may be known of calls. Where none may be made, no more is.
abbrev pub Grows : AnswerTypes → AnswerTypes → Type 0
Grows answers more = KnowsMore answers more × (answers.may_call ≡ false → more ≡ answers)

-- what holds with the types of more answers and cells
abbrev pub Further : AnswerTypes → List TypeId → (AnswerTypes → List TypeId → Type 0) → Type 0
Further answers kinds p = (more : AnswerTypes) × (longer : List TypeId) × Grows answers more × IsLonger kinds longer × p more longer

module _ (world : World) (w : Want TypeId) where
  -- closed expressions that give this, outside all labels
  abbrev pub Gives : Fitting Exp
  Gives answers kinds e = Typed world answers kinds (closed []) e w

  abbrev pub IsValueOf : Fitting Value
  IsValueOf answers kinds v = HasValue world answers kinds w v

module _ (world : World) (P : Fitting Exp) where
  -- what a reduction keeps outside all labels
  abbrev pub KeepsFit : AnswerTypes → List TypeId → Act → Type 0
  KeepsFit answers kinds (Goes cost store e) = (more : List TypeId) × IsLonger kinds more × StoreTyped world answers more store more × P answers more e
  KeepsFit answers kinds (Prints cost text e) = (is_utf8 text ≡ true) × P answers kinds e
  KeepsFit answers kinds (Asks request) = IsRequest world answers kinds request
  KeepsFit answers kinds (Awaits nodes call) = AtSome (answers.types call) (λ t. Unit {0}) × (answers.may_call ≡ true)
  KeepsFit answers kinds (Leaves label v) = ⊥
  KeepsFit answers kinds (Throws cost error) = IsErrorValue error × (answers.may_call ≡ true)
  KeepsFit answers kinds (act.Traps cost text) = Unit {0}
  KeepsFit answers kinds act.Stuck = ⊥

  -- it goes on with what fits, or traps
  abbrev pub Begins : AnswerTypes → List TypeId → Act → Type 0
  Begins answers kinds (Goes cost store e) = KeepsFit answers kinds (Goes cost store e)
  Begins answers kinds (act.Traps cost text) = Unit {0}
  Begins answers kinds _ = ⊥

  -- each reduction keeps what fits, and a value is one that fits
  pub record IsKept (Q : Fitting Value) : Type 0 where
    pub value : (answers : AnswerTypes) (kinds : List TypeId) (v : Value) → P answers kinds (Val v) → Q answers kinds v
    pub grows : (answers more : AnswerTypes) (kinds longer : List TypeId) (e : Exp) → KnowsMore answers more → IsLonger kinds longer → P answers kinds e → P more longer e
    pub keeps : (answers : AnswerTypes) (kinds : List TypeId) (given : Option Given) (store : Store) (e : Exp) → IsNoValue e → StoreTyped world answers kinds store kinds → P answers kinds e
        → Suits world answers kinds given (reduce world.meant None store e) → KeepsFit answers kinds (reduce world.meant given store e)

module _ (s : Surroundings) where
  -- the outgoing calls, those of this execution among them
  abbrev pub table_now : Configuration → CallTable (List TypeId) Given
  table_now c = record s.table { calls = s.table.calls ++ map (open_call {L = kernel} 0) c.calls }

  module _ (answers : AnswerTypes) (kinds : List TypeId) where
    -- the store is typed; what is known of the calls agrees, where any may be made, and else none was
    abbrev pub IsTypedState : Configuration → Type 0
    IsTypedState c =
        StoreTyped (running s.types) answers kinds c.store kinds × (answers.may_call ≡ true → Agrees (running s.types) answers kinds (table_now c)) × (answers.may_call ≡ false → c.calls ≡ [])

  module _ (P : Fitting Exp) (Q : Fitting Value) where
    -- an execution that has come so far
    abbrev pub Stands : Configuration → AnswerTypes → List TypeId → Type 0
    Stands c answers kinds = IsTypedState answers kinds c × P answers kinds c.at

    -- How it may end: never for want of an operand's form; and with an answer or at an `await` only where calls may be made.
    abbrev pub EndFits : Configuration → End → AnswerTypes → List TypeId → Type 0
    EndFits c (Returns v) answers kinds = IsTypedState answers kinds c × Q answers kinds v
    EndFits c (Responds answer) answers kinds = IsTypedState answers kinds c × (answers.may_call ≡ true)
    EndFits c (Suspends number nodes) answers kinds = Stands c answers kinds × IsWaiting (running s.types) (table_now c) number c.at × (answers.may_call ≡ true)
    EndFits c Sleeps answers kinds = IsTypedState answers kinds c × (answers.may_call ≡ true)
    EndFits c (Traps text) answers kinds = Unit {0}
    EndFits c Breaks answers kinds = ⊥

    -- nothing is asked of one that goes on
    abbrev pub EndsFit : AnswerTypes → List TypeId → Run → Type 0
    EndsFit answers kinds (Still c) = Unit {0}
    EndsFit answers kinds (Ended c end) = Further answers kinds (EndFits c end)

    abbrev pub RunFits : AnswerTypes → List TypeId → Run → Type 0
    RunFits answers kinds (Still c) = Further answers kinds (Stands c)
    RunFits answers kinds (Ended c end) = Further answers kinds (EndFits c end)

-- how executions end in which no calls may be made
abbrev pub ReturnsOrTraps : End → Type 0
ReturnsOrTraps (Returns v) = Unit {0}
ReturnsOrTraps (Traps text) = Unit {0}
ReturnsOrTraps _ = ⊥
