-- What the actor of nested expressions keeps of the typed one, execution by execution (Motoko language manual, section "Shared functions").
use Rattle.std.specs.Prelude.{◌≡◌, ℕ, ◌+◌, ◌≤◌, List}
use Rattle.mo_types.specs.declared.node.TypeId.{TypeId}
use Rattle.mo_types.specs.Calls.{CallTable}
use Rattle.mo_types.specs.Graph.{head_at}
use Rattle.mo_values.specs.Shapes.{Bytes}
use Rattle.core_ir.specs.Values as core_value
use Rattle.core_ir.specs.Worlds.{Given, Context}
use Rattle.core_ir.specs.Expressions.{Core}
use Rattle.core_ir.specs.CoreMachine.{Waiting, core_machine}
use Rattle.core_ir.specs.Messages.{Messages}
use Rattle.core_ir.specs.Actor.{MethodEntry, Fields, Pending, context_of, run_body}
use Rattle.core_ir.specs.Actor as core_actor
use Rattle.typed_tree.specs.Language as language
use Rattle.mo_meaning.specs.Acts as meaning
use Rattle.mo_meaning.specs.Configurations.{Surroundings}
use Rattle.mo_meaning.specs.Kernel.{Entry, Kept}
use Rattle.mo_machine.specs.Values.{load_list}
use Rattle.mo_machine.specs.ActorLanguage as machine
use Rattle.mo_machine.specs.Bodies.{entering, execution_of}
use Rattle.elaboration_values.specs.Belonging.{Known, EachBelongs}
use Rattle.elaboration_steps.specs.Follows.{owed}
use Rattle.elaboration_runs.specs.Calling.{Surrounded}
use Rattle.elaboration_runs.specs.Resuming.{endings}
use Rattle.elaboration_runs.specs.Waiting.{Accounted}
use Rattle.elaboration_actors.specs.Ends.{EndsToo}
use Rattle.elaboration_actors.specs.Bodies.{Sound, Follows, FieldsBelong, WaitingBelongs, EffectsBelong, SameMethod, Takes, GivenBelongs, continued}

module _ (coding : Messages Kept) (program : Core) (own : Bytes) (table : CallTable (List TypeId) Given) (names : List core_value.Value) (s : Surroundings) where
  abbrev pub context : Context
  context = context_of (core_machine program) coding program own table names

  -- both know the same types, calls and messages
  pub record SameSurroundings : Type 0 where
    pub head : context.head ≡ head_at s.types
    pub surrounded : (nodes : ℕ) → Surrounded program context nodes s
    pub accounted : (nodes : ℕ) → Accounted program context nodes s

  -- a method with arguments that belong together
  abbrev pub MethodsFollow : Type 0
  MethodsFollow =
      (times : ℕ) → 1 ≤ times → SameSurroundings → (known : List Known) (f : machine.Fields) (g : Fields) → FieldsBelong program names context.globals known f g
      → (entry : Entry) (m : MethodEntry) (e : SameMethod program context known f.exports entry m) (caller : Bytes) (vs : List language.Value) (ws : List core_value.Value) → EachBelongs known (load_list vs) ws → Takes e.function caller ws
      → Sound times s (entering f entry caller vs)
      → Follows times (EffectsBelong program names context.globals f.exports known) (execution_of s f (machine.Enters entry caller vs)) (run_body (core_machine program) coding program own table g (core_actor.Enters m caller ws))

  -- what waited, with an answer that belongs; ends of branches are no more than the body's nodes and what is owed
  abbrev pub ResumptionsFollow : Type 0
  ResumptionsFollow =
      (times : ℕ) → 1 ≤ times → SameSurroundings → (known : List Known) (f : machine.Fields) (g : Fields) → FieldsBelong program names context.globals known f g
      → (w : machine.Waiting) (p : Pending Waiting) → WaitingBelongs program names context.globals known w p → endings w.stack ≤ w.nodes + owed w.stack → (given : meaning.Given) (answer : Given) → GivenBelongs known given answer
      → Sound times s (continued given f.cells w)
      → Follows times (EffectsBelong program names context.globals f.exports known) (execution_of s f (machine.Resumes w given)) (run_body (core_machine program) coding program own table g (core_actor.GoesOn p answer))

  -- ---- where the typed execution has ended, that of the elaborated one has

  abbrev pub MethodsEnd : Type 0
  MethodsEnd =
      (times : ℕ) → 1 ≤ times → SameSurroundings → (known : List Known) (f : machine.Fields) (g : Fields) → FieldsBelong program names context.globals known f g
      → (entry : Entry) (m : MethodEntry) (e : SameMethod program context known f.exports entry m) (caller : Bytes) (vs : List language.Value) (ws : List core_value.Value) → EachBelongs known (load_list vs) ws → Takes e.function caller ws
      → Sound times s (entering f entry caller vs)
      → EndsToo (execution_of s f (machine.Enters entry caller vs)) (run_body (core_machine program) coding program own table g (core_actor.Enters m caller ws))

  abbrev pub ResumptionsEnd : Type 0
  ResumptionsEnd =
      (times : ℕ) → 1 ≤ times → SameSurroundings → (known : List Known) (f : machine.Fields) (g : Fields) → FieldsBelong program names context.globals known f g
      → (w : machine.Waiting) (p : Pending Waiting) → WaitingBelongs program names context.globals known w p → endings w.stack ≤ w.nodes + owed w.stack → (given : meaning.Given) (answer : Given) → GivenBelongs known given answer
      → Sound times s (continued given f.cells w)
      → EndsToo (execution_of s f (machine.Resumes w given)) (run_body (core_machine program) coding program own table g (core_actor.GoesOn p answer))
