-- What it is that an execution of an actor of nested expressions follows one of a typed program (Motoko language manual, sections "Shared functions",
-- "Async" and "Await").
use Rattle.std.specs.Prelude.{◌≡◌, ℕ, suc, ◌+◌, ◌*◌, ◌≤◌, true, List, [], ◌∷◌, ◌++◌, length, Option, Some, None, slice_get}
use Rattle.mo_values.specs.Costs.{weighing}
use Rattle.mo_values.specs.Shapes.{Bytes, Future}
use Rattle.mo_actor.specs.Executions.{Progress, Execution, Completion, Completes}
use Rattle.mo_actor.specs.Executions as actor_end
use Rattle.mo_actor.specs.Programs.{OutgoingCall, Ending, Answers, Awaits, AwaitsNothing, Unchanged, Effects}
use Rattle.mo_actor.specs.Results.{IsPrefix}
use Rattle.core_ir.specs.Values as core_value
use Rattle.core_ir.specs.Contexts.{call_context}
use Rattle.core_ir.specs.Programs.{Method}
use Rattle.core_ir.specs.Worlds as worlds
use Rattle.core_ir.specs.Worlds.{Context}
use Rattle.core_ir.specs.Expressions.{Body, Core}
use Rattle.core_ir.specs.CoreMachine as core_machine
use Rattle.core_ir.specs.Actor.{MethodEntry, Pending, core_language}
use Rattle.core_ir.specs.Actor as core_actor
use Rattle.typed_tree.specs.declared.action.Action.TheVariants as action
use Rattle.typed_tree.specs.Language.{Functions}
use Rattle.mo_meaning.specs.Acts.{Given, Gets, Fails}
use Rattle.mo_meaning.specs.Configurations.{Surroundings}
use Rattle.mo_meaning.specs.Kernel.{Entry}
use Rattle.mo_machine.specs.Values.{Value, Made, Closure, NoValue, load}
use Rattle.mo_machine.specs.Environments.{Environment}
use Rattle.mo_machine.specs.Exports.{function_at}
use Rattle.mo_machine.specs.ActorLanguage.{machine, Fields, Waiting}
use Rattle.mo_machine.specs.Acts.{Store}
use Rattle.mo_machine.specs.Bodies.{beginning}
use Rattle.mo_machine.specs.Configurations.{Configuration, Breaks, Run, Still, Ended, moved}
use Rattle.mo_machine.specs.Frames.{Ready, Give}
use Rattle.mo_machine.specs.Turns.{steps}
use Rattle.elaboration.specs.Elaboration.{number_of_parameters}
use Rattle.elaboration.specs.Meeting.{MeetEach}
use Rattle.elaboration_values.specs.Belonging.{Known, Belongs, EachBelongs}
use Rattle.elaboration_steps.specs.Stacks.{Labels, StackBelongs, GroupsBelong}
use Rattle.elaboration_steps.specs.Follows.{owed}
use Rattle.elaboration_runs.specs.Entering.{Function, SameBody}
use Rattle.elaboration_runs.specs.Whole.{Serves}

-- ---- turns and steps

-- the same, or both still go on with the same prints, weight and depth
pub data Alike : Run → Run → Type 0 where
  Going : (a b : Configuration) → a.weight ≡ b.weight → a.depth ≡ b.depth → a.prints ≡ b.prints → Alike (Still a) (Still b)
  Same : (r : Run) → Alike r r

-- ---- premises, which typing gives

abbrev pub reached : Run → Configuration
reached (Still c) = c
reached (Ended c end) = c

-- an execution from here on: values stand where values of their types do, it does not break, and few labels and handlers are open
pub record Sound (times : ℕ) (s : Surroundings) (c : Configuration) : Type 0 where
  pub serves : (j : ℕ) (c' : Configuration) → steps s j c ≡ Still c' → Serves c'
  pub whole : (j : ℕ) (c' : Configuration) → steps s j c ≡ Ended c' Breaks → ⊥
  pub light : (j : ℕ) → 2 * (reached (steps s j c)).weight + owed (reached (steps s j c)).stack ≤ times * (reached (steps s j c)).weight

-- ---- what executions have come to

module _ {A B : Type 0} (times : ℕ) (Both : A → B → Type 0) where
  -- where the second has ended, the first has ended alike
  abbrev pub CompletionsBelong : Option (Completion A) → Option (Completion B) → Type 0
  CompletionsBelong x None = Unit {0}
  CompletionsBelong (Some (Completes a)) (Some (Completes b)) = Both a b
  CompletionsBelong (Some (actor_end.Traps text)) (Some (actor_end.Traps said)) = said ≡ text
  CompletionsBelong x y = ⊥

  abbrev pub ShownWhole : List Bytes → List Bytes → Option (Completion B) → Type 0
  ShownWhole prints shown None = Unit {0}
  ShownWhole prints shown (Some end) = shown ≡ prints

  -- the second has shown no more than the first
  pub record ProgressBelongs (x : Progress A) (y : Progress B) : Type 0 where
    pub begun : IsPrefix y.prints x.prints
    pub whole : ShownWhole x.prints y.prints y.completion
    pub weight : y.weight ≤ times * x.weight
    pub depth : y.depth ≤ x.depth
    pub completion : CompletionsBelong x.completion y.completion

  -- after each number of turns of the second, the first has come as far after some
  abbrev pub Follows : Execution A → Execution B → Type 0
  Follows x y = (k : ℕ) → (n : ℕ) × ProgressBelongs (x n) (y k)

-- ---- what executions leave

module _ (program : Core) (names globals : List core_value.Value) where
  -- cells and groups of functions; the names of the actor stay as they are
  pub record FieldsBelong (known : List Known) (f : Fields) (g : core_actor.Fields) : Type 0 where
    pub cells : EachBelongs known f.cells g.cells
    pub groups : GroupsBelong program.groups known globals g.groups
    pub names_are : g.names ≡ names

  -- what stands at an `await`
  pub record WaitingBelongs (known : List Known) (w : Waiting) (p : Pending core_machine.Waiting) : Type 0 where
    pub results : p.results ≡ w.results
    pub nodes : p.waiting.nodes ≡ w.nodes
    pub labels : Labels
    pub held : ℕ
    pub around : StackBelongs program.groups known globals w.nodes true labels held w.stack p.waiting.stack
    pub future : ℕ
    pub focus : w.focus ≡ Ready action.Await (Made (Future future) NoValue ∷ [])

module _ {K : Type 0} (program : Core) (names globals : List core_value.Value) where
  abbrev pub EndingsBelong : List Known → Ending machine → Ending (core_language core_machine.Waiting K) → Type 0
  EndingsBelong known (Answers a) (Answers b) = b ≡ a
  EndingsBelong known (Awaits m w) (Awaits n p) = (n ≡ m) × WaitingBelongs program names globals known w p
  EndingsBelong known AwaitsNothing AwaitsNothing = Unit {0}
  EndingsBelong known Unchanged Unchanged = Unit {0}
  EndingsBelong known _ _ = ⊥

  abbrev pub CallBelongs : OutgoingCall machine → OutgoingCall (core_language core_machine.Waiting K) → Type 0
  CallBelongs c d = (d.callee ≡ c.callee) × (d.method ≡ c.method) × (d.argument ≡ c.argument) × (d.results ≡ c.results) × (d.resumes ≡ c.resumes)

  abbrev pub CallsBelong : List (OutgoingCall machine) → List (OutgoingCall (core_language core_machine.Waiting K)) → Type 0
  CallsBelong [] [] = Unit {0}
  CallsBelong (c ∷ cs) (d ∷ ds) = CallBelongs c d × CallsBelong cs ds
  CallsBelong _ _ = ⊥

  pub record EffectsBelong (exports : Value) (known : List Known) (x : Effects machine) (y : Effects (core_language core_machine.Waiting K)) : Type 0 where
    pub known' : List Known
    pub grows : (more : List Known) × (known' ≡ known ++ more)
    pub fields : FieldsBelong program names globals known' x.store y.store
    pub exports_are : x.store.exports ≡ exports
    pub calls : CallsBelong x.calls y.calls
    pub ending : EndingsBelong known' x.ending y.ending
    pub quiet : x.ending ≡ Unchanged → x.calls ≡ []

-- ---- methods

module _ (program : Core) (context : Context) (known : List Known) (exports : Value) where
  -- a method of both: what its function is, and its types
  pub record SameMethod (entry : Entry) (m : MethodEntry) : Type 0 where
    pub parameters : m.parameters ≡ entry.parameters
    pub results : m.results ≡ entry.results
    pub group : Functions
    pub which : ℕ
    pub env : Environment
    pub function : Function
    pub is : function_at exports entry.place ≡ Closure group which env
    pub method : Method Body
    pub there : slice_get program.methods m.place ≡ Some method
    pub same : SameBody program context known group which env function method.body

-- what is given to it is what its parameters take
abbrev pub Takes : Function → Bytes → List core_value.Value → Type 0
Takes f caller ws = (suc (length ws) ≡ number_of_parameters f.parameters) × MeetEach f.parameters (call_context caller ∷ ws)

-- an answer to a call
abbrev pub GivenBelongs : List Known → Given → worlds.Given → Type 0
GivenBelongs known (Gets v) (worlds.Gets w) = Belongs known (load v) w
GivenBelongs known (Fails e) (worlds.Throws w) = Belongs known (load e) w
GivenBelongs known _ _ = ⊥

-- how what waited goes on
abbrev pub continued : Given → Store → Waiting → Configuration
continued (Gets v) store w = moved (weighing 1) store (Give (load v)) w.stack (beginning w.nodes store w.focus w.stack)
continued (Fails e) store w = beginning w.nodes store (Ready action.Throw (load e ∷ [])) w.stack
