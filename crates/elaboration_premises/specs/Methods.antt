-- A method of a typed program is entered as elaboration asks, and its execution is typed from then on (Motoko language manual, sections "Shared functions"
-- and "Type soundness").
use Rattle.std.specs.Prelude.{◌≡◌, ℕ, ◌+◌, ◌≤◌, true, List, [], ◌∷◌, length, map, Some, None}
use Rattle.mo_types.specs.declared.node.TypeId.{TypeId}
use Rattle.mo_types.specs.Graph.{head_at}
use Rattle.mo_values.specs.Costs.{Cost}
use Rattle.mo_values.specs.Shapes.{Bytes}
use Rattle.core_ir.specs.Values as core
use Rattle.typed_tree.specs.declared.action.Action.TheVariants as action
use Rattle.typed_tree.specs.Basics.{HasBasics}
use Rattle.typed_tree.specs.Language as language
use Rattle.typed_tree.specs.Language.{Functions}
use Rattle.typed_tree.specs.Types.{AreLawful}
use Rattle.typed_tree.specs.Wants.{Of}
use Rattle.mo_meaning.specs.Bodies.{context}
use Rattle.mo_meaning.specs.Configurations.{Surroundings}
use Rattle.mo_soundness.specs.Keeps.{HasEach}
use Rattle.mo_soundness.specs.Running.{AnswerTypes, StoreTyped}
use Rattle.program_soundness.specs.Agreement.{Agrees}
use Rattle.program_soundness.specs.Roles.{AMethod, IsFunctionAs}
use Rattle.program_soundness.specs.Runs.{Further}
use Rattle.program_soundness.specs.Worlds.{running}
use Rattle.mo_machine.specs.Acts.{Store, Goes}
use Rattle.mo_machine.specs.Bodies.{beginning}
use Rattle.mo_machine.specs.Configurations.{Configuration, moved}
use Rattle.mo_machine.specs.Environments.{Environment}
use Rattle.mo_machine.specs.Frames.{Focus, Stack, Ready}
use Rattle.mo_machine.specs.Reductions.{reduces}
use Rattle.mo_machine.specs.Turns.{steps}
use Rattle.mo_machine.specs.Unload.{unload, unload_list}
use Rattle.mo_machine.specs.Values.{Closure, load, load_list}
use Rattle.elaboration.specs.Elaboration.{number_of_parameters}
use Rattle.elaboration.specs.Meeting.{MeetEach}
use Rattle.elaboration_values.specs.Belonging.{Known, EachBelongs}
use Rattle.elaboration_runs.specs.Entering.{Function, function_in}
use Rattle.elaboration_premises.specs.Serving.{Served, IsTyped}

module _ (s : Surroundings) (answers : AnswerTypes) (kinds : List TypeId) (group : Functions) (which : ℕ) (env : Environment) (ps rs : List TypeId) (caller : Bytes) (vs : List language.Value) where
  -- the function of a method is called by this principal with arguments of its types
  pub record IsCall : Type 0 where
    pub function : IsFunctionAs s.types answers kinds (AMethod ps rs) (unload (Closure group which env))
    pub principal : length caller ≤ 29
    pub arguments : HasEach (running s.types) answers kinds (map (λ t. Of t) ps) vs

  abbrev pub focus : Focus
  focus = Ready action.Call (Closure group which env ∷ load (context caller) ∷ load_list vs)

  abbrev pub entry : Store → Configuration
  entry store = beginning (2 + length caller) store focus []

-- as many arguments as parameters, of which each is met by its pattern
abbrev pub MethodsMeet : Type 0
MethodsMeet =
    (s : Surroundings) → AreLawful s.types → HasBasics s.types → (answers : AnswerTypes) (kinds : List TypeId) (group : Functions) (which : ℕ) (env : Environment) (ps rs : List TypeId) (caller : Bytes) (vs : List language.Value)
    → IsCall s answers kinds group which env ps rs caller vs → (known : List Known) (f : Function) (ws : List core.Value) → function_in group which ≡ Some f → EachBelongs known (load (context caller) ∷ load_list vs) ws
    → (length ws ≡ number_of_parameters f.parameters) × MeetEach f.parameters ws

-- what the call comes to is typed
abbrev pub MethodsAreTyped : Type 0
MethodsAreTyped =
    (s : Surroundings) → AreLawful s.types → HasBasics s.types → (answers : AnswerTypes) (kinds : List TypeId) (group : Functions) (which : ℕ) (env : Environment) (ps rs : List TypeId) (caller : Bytes) (vs : List language.Value)
    → IsCall s answers kinds group which env ps rs caller vs → answers.may_call ≡ true → (store : Store) → StoreTyped (running s.types) answers kinds (unload_list store) kinds → Agrees (running s.types) answers kinds s.table
    → (cost : Cost) (later : Store) (f : Focus) (k : Stack) → reduces (head_at s.types) None store (focus s answers kinds group which env ps rs caller vs) [] ≡ Goes cost later f k
    → Further answers kinds (λ more longer. IsTyped s rs more longer (moved cost later f k (entry s answers kinds group which env ps rs caller vs store)))

-- so all of its execution is as elaboration asks
abbrev pub MethodsServe : Type 0
MethodsServe =
    (s : Surroundings) → AreLawful s.types → HasBasics s.types → (answers : AnswerTypes) (kinds : List TypeId) (group : Functions) (which : ℕ) (env : Environment) (ps rs : List TypeId) (caller : Bytes) (vs : List language.Value)
    → IsCall s answers kinds group which env ps rs caller vs → answers.may_call ≡ true → (store : Store) → StoreTyped (running s.types) answers kinds (unload_list store) kinds → Agrees (running s.types) answers kinds s.table
    → Served (λ j. steps s j (entry s answers kinds group which env ps rs caller vs store))
