-- A method is entered: what its function is in both languages, and what it is that an execution and Core's run enter it alike.
use Rattle.std.specs.Prelude.{◌≡◌, ℕ, zero, suc, ◌+◌, ◌*◌, ◌≤◌, true, List, [], ◌∷◌, length, Option, Some, None}
use Rattle.mo_values.specs.Costs.{weighing}
use Rattle.mo_values.specs.Shapes.{Bytes}
use Rattle.core_ir.specs.Values as core_value
use Rattle.core_ir.specs.Worlds.{World, Context}
use Rattle.core_ir.specs.Executions.{Go, Over, Traps, run}
use Rattle.core_ir.specs.Expressions as core
use Rattle.core_ir.specs.Expressions.{Core}
use Rattle.core_ir.specs.CoreMachine.{Frame, Focus, Eval, at, begins, core_machine}
use Rattle.typed_tree.specs.declared.action.Action.TheVariants as action
use Rattle.typed_tree.specs.Patterns.{Pats, Found, matches_all}
use Rattle.typed_tree.specs.Language.{Exp, Functions, NoFunction, AFunction}
use Rattle.mo_meaning.specs.Calls.{failing}
use Rattle.mo_meaning.specs.Depth.{levels_of_body}
use Rattle.mo_meaning.specs.Matching.{pattern_failed}
use Rattle.mo_machine.specs.Values.{Value, Closure, Code, shapes_list, values_list}
use Rattle.mo_machine.specs.Acts.{Store, Act, Goes}
use Rattle.mo_machine.specs.Acts as acts
use Rattle.mo_machine.specs.Bodies.{beginning}
use Rattle.mo_machine.specs.Calls.{entering}
use Rattle.mo_machine.specs.Configurations.{Configuration, moved}
use Rattle.mo_machine.specs.Environments.{Environment, extended, with_group}
use Rattle.mo_machine.specs.Frames as machine
use Rattle.mo_machine.specs.Frames.{Returning, Ready}
use Rattle.mo_machine.specs.Reductions.{reduces}
use Rattle.elaboration.specs.Scopes.{Place, in_body}
use Rattle.elaboration.specs.Checks.{around_all, behind, fails}
use Rattle.elaboration.specs.Elaboration.{number_of_parameters, on_parameters}
use Rattle.elaboration.specs.Meeting.{MeetEach}
use Rattle.elaboration.specs.Programs.{outside}
use Rattle.elaboration_forms.specs.Elaborates.{Elaborates}
use Rattle.elaboration_values.specs.Belonging.{Known, EachBelongs, EnvironmentBelongs}
use Rattle.elaboration_steps.specs.Stacks.{WorldBelongs}
use Rattle.elaboration_runs.specs.Together.{Together}

pub record Function : Type 0 where
  pub nodes : ℕ
  pub parameters : Pats
  pub body : Exp

abbrev pub function_in : Functions → ℕ → Option Function
function_in NoFunction n = None
function_in (AFunction how nodes ps body fns) zero = Some (record { nodes = nodes; parameters = ps; body = body })
function_in (AFunction how nodes ps body fns) (suc n) = function_in fns n

module _ (program : Core) (context : Context) (known : List Known) where
  -- Core's body is what is made of the function, whose names are those of the actor
  pub record SameBody (group : Functions) (which : ℕ) (env : Environment) (f : Function) (b : core.Body) : Type 0 where
    pub there : function_in group which ≡ Some f
    pub places : List Place
    pub code : core.Exp
    pub elaborates : Elaborates program.groups true (behind (on_parameters f.parameters (outside places)) (in_body (number_of_parameters f.parameters) (outside places))) f.body code
    pub names : EnvironmentBelongs known context.globals places (with_group group env) []
    pub is : b ≡ record { parameters = number_of_parameters f.parameters; nodes = f.nodes; expression = around_all (on_parameters f.parameters (outside places)).checks fails code }

  module _ (store : Store) (world : World) (caller : Bytes) (group : Functions) (which : ℕ) (env : Environment) (f : Function) (vs : List Value) (ws : List core_value.Value) where
    abbrev pub called : Configuration
    called = beginning (2 + length caller) store (Ready action.Call (Closure group which env ∷ vs)) []

    abbrev pub turn : Act
    turn = reduces context.head None store (Ready action.Call (Closure group which env ∷ vs)) []

    abbrev pub paid : ℕ
    paid = 2 + length caller + (1 + f.nodes)

    -- the parameters have their values: the run comes to where the execution is then
    pub record EntersBody (b : core.Body) (c : Configuration) : Type 0 where
      pub steps : ℕ
      pub weight' : ℕ
      pub depth' : ℕ
      pub prints' : List Bytes
      pub f' : Focus
      pub k' : List Frame
      pub by : (more : ℕ) → run (core_machine program) context (steps + more) paid 0 [] world (at program context f.nodes (Eval b.expression ws) []) ≡ run (core_machine program) context more weight' depth' prints' world (at program context f.nodes f' k')
      pub together : Together program context f.nodes 0 known c weight' depth' prints' world f' k'

    -- they have none: both trap, Core in the body
    pub record FailsToMatch (b : core.Body) : Type 0 where
      pub steps : ℕ
      pub weight' : ℕ
      pub depth' : ℕ
      pub prints' : List Bytes
      pub by : (more : ℕ) → run (core_machine program) context (steps + more) paid 0 [] world (at program context f.nodes (Eval b.expression ws) []) ≡ Over weight' depth' prints' world (Traps pattern_failed)
      pub shown : prints' ≡ []
      pub light : weight' ≤ 2 * (2 + length caller + (entering f.nodes f.parameters (shapes_list vs) + length pattern_failed))
      pub shallow : depth' ≤ 16 * levels_of_body f.nodes

    abbrev pub Entered : core.Body → Found Code → Type 0
    Entered b None = (turn ≡ acts.Traps (failing (entering f.nodes f.parameters (shapes_list vs)) f.nodes) pattern_failed) × FailsToMatch b
    Entered b (Some us) =
        (turn ≡ Goes (weighing (entering f.nodes f.parameters (shapes_list vs))) store (machine.Eval f.body (extended (values_list us) (with_group group env))) (Returning f.nodes ∷ []))
        × EntersBody b (moved (weighing (entering f.nodes f.parameters (shapes_list vs))) store (machine.Eval f.body (extended (values_list us) (with_group group env))) (Returning f.nodes ∷ []) called)

-- Core pays for the entry at once, and then both look at the parameters.
abbrev pub EntriesFollow : Type 0
EntriesFollow =
    (program : Core) (context : Context) (known : List Known) (store : Store) (world : World) (caller : Bytes) (group : Functions) (which : ℕ) (env : Environment) (f : Function) (b : core.Body) (vs : List Value) (ws : List core_value.Value)
    → WorldBelongs program.groups known context.globals store world → SameBody program context known group which env f b → EachBelongs known vs ws → length ws ≡ number_of_parameters f.parameters → MeetEach f.parameters ws
    → (begins program context world (2 + length caller) b ws ≡ Go (weighing (paid program context known store world caller group which env f vs ws)) [] world (at program context f.nodes (Eval b.expression ws) []))
    × Entered program context known store world caller group which env f vs ws b (matches_all f.parameters (shapes_list vs))
