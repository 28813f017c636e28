-- What refinement says of the modules of constant queries, told of their methods alone.
use Rattle.std.specs.Prelude.{◌≡◌, ℕ, List, ◌∷◌, Some, slice_get}
use Rattle.std.specs.List.{AllByRecursion}
use Rattle.mo_num.specs.PrincipalText.{IsPrincipal}
use Rattle.query_source.specs.declared.query.Method.{Method}
use Rattle.play_script.specs.declared.event.Event.{Event}
use Rattle.play_script.specs.declared.event.Event.TheVariants.{Install}
use Rattle.play_script.specs.declared.item.Item.{Item}
use Rattle.wasm_tree.specs.declared.module_parts.Module.{Module}
use Rattle.wasm_tree.specs.Exec.{ExecutionLimits}
use Rattle.canister_host.specs.HostRun.{host_run}
use Rattle.mo_actor.specs.Programs.{Program, IsSettled}
use Rattle.mo_actor.specs.Steps.{ActorRun}
use Rattle.actor_refinement.specs.Limits.{IsWithin}
use Rattle.actor_refinement.specs.Laws.{no_exhaustion}
use Rattle.query_module.specs.ActorRun.{IsRunOf, IsGiven}
use Rattle.query_module.specs.Program.{queries, IsProgramOf, QueryRefines}

-- The run of such actors is told by the methods of the one that is installed.
abbrev pub RunsAreAnswers : Type 0
RunsAreAnswers =
    (programs : List (Program queries)) (number : ℕ) (p : Program queries) → slice_get programs number ≡ Some p → (methods : List Method) → IsProgramOf methods p
    → (limits : ExecutionLimits) (own : List ℕ) (events : List Event) → AllByRecursion IsGiven events → (items : List Item)
    → ActorRun (no_exhaustion limits) programs own (Install number ∷ events) items → IsRunOf methods events items

-- Wherever the module stands in a list of modules, under all limits that a command line can set, for each principal of the
-- canister's own and all events after its installation, the host's run is the actor's: nothing traps, and nothing is
-- exhausted.
abbrev pub Answers : List Method → Module → Type 0
Answers methods tree =
    (modules : List Module) (number : ℕ) → slice_get modules number ≡ Some tree
    → (limits : ExecutionLimits) → IsWithin limits → (own : List ℕ) → IsPrincipal own → (events : List Event) → AllByRecursion IsGiven events
    → IsRunOf methods events (host_run modules limits own (Install number ∷ events))

-- So does a module that refines the program of the methods.
abbrev pub RefinedModulesAnswer : Type 0
RefinedModulesAnswer = (methods : List Method) (p : Program queries) → IsProgramOf methods p → (tree : Module) → QueryRefines p tree → Answers methods tree

-- Executions of such programs have ended at once.
abbrev pub QueriesSettle : Type 0
QueriesSettle = (methods : List Method) (p : Program queries) → IsProgramOf methods p → IsSettled p
