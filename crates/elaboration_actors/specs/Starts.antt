-- The end of a start: the names of the actor have their values, and the methods are functions of the group around the exports (Motoko language
-- manual, section "Actors").
use Rattle.std.specs.Prelude.{◌≡◌, ℕ, suc, ◌-◌, ◌≤◌, true, List, [], ◌∷◌, ◌++◌, length, map, take, replicate, Option, Some, None}
use Rattle.mo_values.specs.Shapes.{Bytes}
use Rattle.core_ir.specs.Actor as core_actor
use Rattle.core_ir.specs.Actor.{actor_program}
use Rattle.core_ir.specs.CoreMachine.{core_machine}
use Rattle.core_ir.specs.Expressions as core
use Rattle.core_ir.specs.Expressions.{Body, Core}
use Rattle.core_ir.specs.Messages.{Messages}
use Rattle.core_ir.specs.Programs.{Group}
use Rattle.core_ir.specs.Values as core_value
use Rattle.typed_tree.specs.Language as source
use Rattle.typed_tree.specs.Language.{Functions, NoFunction, AFunction}
use Rattle.typed_tree.specs.Programs.{Program}
use Rattle.typed_tree.specs.Substitution.{count}
use Rattle.mo_meaning.specs.Coding.{Types, Coding}
use Rattle.mo_meaning.specs.Kernel.{Kept}
use Rattle.mo_meaning.specs.Starting.{all_taken, all_kept}
use Rattle.mo_machine.specs.ActorLanguage.{Fields}
use Rattle.mo_machine.specs.Environments.{Environment, with_group}
use Rattle.mo_machine.specs.Exports.{function_at}
use Rattle.mo_machine.specs.States.{with_states}
use Rattle.mo_machine.specs.Starting.{kept_value, outer_values}
use Rattle.mo_machine.specs.Values.{Closure}
use Rattle.elaboration.specs.Scopes.{Place, Local, Nowhere, in_body}
use Rattle.elaboration.specs.Checks.{around_all, behind, fails}
use Rattle.elaboration.specs.Elaboration.{elaborate_functions, number_of_parameters, on_parameters}
use Rattle.elaboration.specs.Meeting.{Reads}
use Rattle.elaboration.specs.Playing.{messages_of}
use Rattle.elaboration.specs.Programs.{start_scope, outside, numbered, firsts, methods_of}
use Rattle.elaboration_forms.specs.Elaborates.{HasGroups, Elaborates, Stands}
use Rattle.elaboration_values.specs.Belonging.{Known, EachBelongs, EnvironmentBelongs}
use Rattle.elaboration_steps.specs.Stacks.{GroupsBelong}
use Rattle.elaboration_actors.specs.Actors.{SameMessages, Begun, globals}
use Rattle.elaboration_actors.specs.Bodies.{Follows}
use Rattle.elaboration_actors.specs.Saving.{SavingBelongs}

-- the values of the names that have a place in Core, the nearest first
abbrev pub ReadNames : List core_value.Value → List Place → List core_value.Value → Type 0
ReadNames vals [] names = names ≡ []
ReadNames vals (Local level ∷ places) names = (w : core_value.Value) × (ws : List core_value.Value) × Reads vals level w × ReadNames vals places ws × (names ≡ w ∷ ws)
ReadNames vals (p ∷ places) names = ReadNames vals places names

-- the bodies of methods, which may wait
abbrev pub MethodBodies : List (Group Body) → List Place → Functions → List Body → Type 0
MethodBodies table places NoFunction bodies = bodies ≡ []
MethodBodies table places (AFunction how nodes ps body fns) bodies =
    (y : core.Exp) × (others : List Body) × Elaborates table true (behind (on_parameters ps (outside places)) (in_body (number_of_parameters ps) (outside places))) body y × MethodBodies table places fns others
    × (bodies ≡ record { parameters = number_of_parameters ps; nodes = nodes; expression = around_all (on_parameters ps (outside places)).checks fails y } ∷ others)

-- what is asked of methods that are elaborated
abbrev pub MethodsStand : List Place → Functions → Type 0
MethodsStand places NoFunction = Unit {0}
MethodsStand places (AFunction how nodes ps body fns) = Stands true (behind (on_parameters ps (outside places)) (in_body (number_of_parameters ps) (outside places))) body × MethodsStand places fns

-- places of the names of declarations, all but those of what was kept
abbrev pub declared_in : List Place → Program → List Place
declared_in places p = take (length places - length p.stable) places

-- where a method finds the names around it: those of the group are no names of the actor
abbrev pub places_around : Program → Functions → List Place → List Place
places_around p fns places = replicate (count fns) Nowhere ++ (numbered (suc (suc (length p.methods))) (declared_in places p) ++ replicate (length p.stable) Nowhere)

module _ (p : Program) (core : Core) (own : Bytes) where
  -- in this environment ends the start of both, and these are the functions behind the declarations
  pub record EndsOfStarts (known : List Known) (f : Fields) (g : core_actor.Fields) : Type 0 where
    pub places : List Place
    pub env : Environment
    pub vals : List core_value.Value
    pub fns : Functions
    pub bodies : List Body
    pub cells : EachBelongs known f.cells g.cells
    pub groups : GroupsBelong core.groups known (core_actor.outer_names own core.methods) g.groups
    pub names : EnvironmentBelongs known (core_actor.outer_names own core.methods) places env vals
    pub read : ReadNames vals (declared_in places p) g.names
    pub methods : core.methods ≡ methods_of p.methods bodies
    pub enough : length p.methods ≤ count fns
    pub code : MethodBodies core.groups (places_around p fns places) (firsts (length p.methods) fns) bodies
    pub functions : (i : ℕ) → suc i ≤ length p.methods → function_at f.exports (Some i) ≡ Closure fns i env
    pub saving : EnvironmentBelongs known (globals core own g.names) (places_around p fns places) (with_group fns env) [] → SavingBelongs p core known (globals core own g.names) f.exports

-- what was kept of each stable variable, if it is of its type
module _ (p : Program) (core : Core) (messages : Messages Kept) where
  abbrev pub as_given : Option core_value.Value → core_value.Value
  as_given o = core_actor.kept_value (core_machine core) messages core o

  abbrev pub KeptBelongs : Option (List (Option source.Value)) → Option (List (Option core_value.Value)) → Type 0
  KeptBelongs None None = Unit {0}
  KeptBelongs (Some kept) (Some os) = (length kept ≡ length p.stable) × ((known : List Known) → EachBelongs known (map kept_value kept) (map as_given os))
  KeptBelongs _ _ = ⊥

abbrev pub KeptIsRestored : Type 0
KeptIsRestored =
    (coding : Coding) (types : Types) (p : Program) (core : Core) (kept : Kept)
    → KeptBelongs p core (messages_of coding types p) (all_kept (all_taken coding kept.types types kept.variables p.stable)) ((messages_of coding types p).restore kept)

-- the names at the beginning of a start: the actor, its methods, and what was kept
abbrev pub StartsBegin : Type 0
StartsBegin =
    (p : Program) (core : Core) (own : Bytes) (known : List Known) (bodies : List Body) (kept : List (Option source.Value)) (ws : List core_value.Value) (flag : core_value.Value)
    → core.methods ≡ methods_of p.methods bodies → length kept ≡ length p.stable → EachBelongs known (map kept_value kept) ws
    → EnvironmentBelongs known (core_actor.outer_names own core.methods) (start_scope (length p.methods) (length p.stable)).places (outer_values own p.methods kept) (ws ++ flag ∷ [])

-- what is made of methods is code of them
abbrev pub MethodsAreCode : Type 0
MethodsAreCode =
    (table : List (Group Body)) (places : List Place) (n : ℕ) (fns : Functions) → MethodsStand places fns → HasGroups table n (elaborate_functions (outside places) n fns).groups
    → MethodBodies table places fns (elaborate_functions (outside places) n fns).bodies

-- an actor that has started so has begun
abbrev pub StartsEnd : Type 0
StartsEnd =
    (coding : Coding) (types : Types) (p : Program) (core : Core) (messages : Messages Kept) (own : Bytes) (known : List Known) (f : Fields) (g : core_actor.Fields)
    → EndsOfStarts p core own known f g → Begun coding types p core messages own f g

-- an upgrade to a program whose stable variables are of other types: both trap
abbrev pub IncompatibleFollow : Type 0
IncompatibleFollow =
    (times : ℕ) → 1 ≤ times → (coding : Coding) (types : Types) (p : Program) (core : Core) (messages : Messages Kept) (first memory : ℕ) (own : Bytes) → SameMessages coding types p messages
    → (kept : Kept) → all_kept (all_taken coding kept.types types kept.variables p.stable) ≡ None
    → Follows times (Begun coding types p core messages own) ((with_states coding first types p).start own (Some kept)) ((actor_program (core_machine core) messages core memory).start own (Some kept))
