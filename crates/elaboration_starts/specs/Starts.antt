-- Installs of the actor of an elaborated program, and upgrades to it, do what those of the typed program do (Motoko language manual, sections "Actors" and
-- "Stable variables").
use Rattle.std.specs.Prelude.{◌≡◌, ◌⊎◌, ℕ, ◌≤◌, Bool, false, List, length, Option, Some, None}
use Rattle.std.specs.List.{AllByRecursion}
use Rattle.mo_types.specs.Graph.{head_at}
use Rattle.mo_values.specs.Shapes.{Bytes}
use Rattle.core_ir.specs.Actor.{actor_program}
use Rattle.core_ir.specs.CoreMachine.{core_machine}
use Rattle.typed_tree.specs.Language as source
use Rattle.typed_tree.specs.Language.{Exp, Functions}
use Rattle.typed_tree.specs.Patterns.{NoPat}
use Rattle.typed_tree.specs.Programs.{Program}
use Rattle.typed_tree.specs.Substitution.{count}
use Rattle.mo_meaning.specs.Coding.{Types, Coding}
use Rattle.mo_meaning.specs.Configurations.{Surroundings}
use Rattle.mo_meaning.specs.Kernel.{Kept}
use Rattle.mo_meaning.specs.Saving.{alone}
use Rattle.mo_meaning.specs.Starting.{all_taken, all_kept}
use Rattle.mo_machine.specs.Configurations.{Configuration, Still}
use Rattle.mo_machine.specs.Starting.{start_from}
use Rattle.mo_machine.specs.States.{with_states}
use Rattle.mo_machine.specs.Turns.{steps}
use Rattle.elaboration.specs.Playing.{messages_of}
use Rattle.elaboration.specs.Programs.{start_scope, firsts, outside, elaborated}
use Rattle.elaboration.specs.Scopes.{Place, labelled}
use Rattle.elaboration_forms.specs.Elaborates.{DeclarationsStand, Stands}
use Rattle.elaboration_runs.specs.Entering.{Function, function_in}
use Rattle.elaboration_actors.specs.Actors.{Begun}
use Rattle.elaboration_actors.specs.Ends.{EndsToo}
use Rattle.elaboration_actors.specs.Bodies.{Sound, Follows}
use Rattle.elaboration_actors.specs.Starts.{MethodsStand}
use Rattle.elaboration_starts.specs.Declarations.{Declares, PartsStand, DeclaresNothing, places_known}
use Rattle.elaboration_starts.specs.Staying.{StaysAt}

-- the hook before an upgrade has no parameters, and stands under its label
abbrev pub HookStands : List Place → Functions → Option ℕ → Type 0
HookStands places last None = Unit {0}
HookStands places last (Some h) = (f : Function) × (function_in last h ≡ Some f) × (f.parameters ≡ NoPat) × (1 ≤ f.nodes) × Stands false (labelled (outside places)) f.body

-- the hook behind an upgrade has none either
abbrev pub CalledBehind : Functions → Option ℕ → Type 0
CalledBehind last None = Unit {0}
CalledBehind last (Some h) = (f : Function) × (function_in last h ≡ Some f) × (f.parameters ≡ NoPat)

-- the program is one of declarations, and each name has its place
pub record ActorStands (p : Program) : Type 0 where
  pub last : Functions
  pub total : ℕ
  pub before : Option ℕ
  pub after : Option ℕ
  pub labels : List Bytes
  pub cells : List ℕ
  -- in a start, or an upgrade
  pub named : Bool → Exp
  pub declares : (upgraded : Bool) → Declares (length p.methods) last before after labels cells total upgraded 0 p.body (named upgraded)
  pub parts : PartsStand (length p.methods) last before after labels cells total
  pub stand : DeclarationsStand (start_scope (length p.methods) (length p.stable)) p.body
  pub methods : MethodsStand (places_known (length p.methods) (length p.stable) total last) (firsts (length p.methods) last)
  pub hook : HookStands (places_known (length p.methods) (length p.stable) total last) last before
  pub upgraded : CalledBehind last after
  -- each stable variable has a cell among the declared names
  pub as_many : length cells ≡ length p.stable
  pub declared : AllByRecursion (λ x. count last ≤ x) cells
  -- each name that they declare is one of their nodes at least
  pub names : total ≤ p.nodes
  -- the declarations have a node, or there are none
  pub nodes : (1 ≤ p.nodes) ⊎ DeclaresNothing p.body

-- a start is sound, and stays inside the declarations
pub record StartIsSound (times : ℕ) (s : Surroundings) (c : Configuration) : Type 0 where
  pub sound : Sound times s c
  pub inside : (j : ℕ) (c' : Configuration) → steps s j c ≡ Still c' → StaysAt (head_at s.types) c'.store c'.focus c'.stack

module _ (times : ℕ) (coding : Coding) (types : Types) (p : Program) (first memory : ℕ) (own : Bytes) where
  abbrev pub StartFollows : Option Kept → Type 0
  StartFollows kept =
      StartIsSound times (alone coding types own) (start_from coding types p own kept)
      → Follows times (Begun coding types p (elaborated p) (messages_of coding types p) own) ((with_states coding first types p).start own kept) ((actor_program (core_machine (elaborated p)) (messages_of coding types p) (elaborated p) memory).start own kept)

  -- where it has ended, Core's has
  abbrev pub StartEnds : Option Kept → Type 0
  StartEnds kept =
      StartIsSound times (alone coding types own) (start_from coding types p own kept)
      → EndsToo ((with_states coding first types p).start own kept) ((actor_program (core_machine (elaborated p)) (messages_of coding types p) (elaborated p) memory).start own kept)

abbrev pub InstallsFollow : Type 0
InstallsFollow =
    (times : ℕ) → 3 ≤ times → (coding : Coding) (types : Types) (p : Program) (first memory : ℕ) (own : Bytes) → (elaborated p).head ≡ head_at types → ActorStands p → StartFollows times coding types p first memory own None

-- over values of the new types
abbrev pub UpgradesFollow : Type 0
UpgradesFollow =
    (times : ℕ) → 3 ≤ times → (coding : Coding) (types : Types) (p : Program) (first memory : ℕ) (own : Bytes) → (elaborated p).head ≡ head_at types → ActorStands p
    → (kept : Kept) (vs : List (Option source.Value)) → all_kept (all_taken coding kept.types types kept.variables p.stable) ≡ Some vs → StartFollows times coding types p first memory own (Some kept)

abbrev pub InstallsEnd : Type 0
InstallsEnd =
    (times : ℕ) → 3 ≤ times → (coding : Coding) (types : Types) (p : Program) (first memory : ℕ) (own : Bytes) → (elaborated p).head ≡ head_at types → ActorStands p → StartEnds times coding types p first memory own None

abbrev pub UpgradesEnd : Type 0
UpgradesEnd =
    (times : ℕ) → 3 ≤ times → (coding : Coding) (types : Types) (p : Program) (first memory : ℕ) (own : Bytes) → (elaborated p).head ≡ head_at types → ActorStands p
    → (kept : Kept) (vs : List (Option source.Value)) → all_kept (all_taken coding kept.types types kept.variables p.stable) ≡ Some vs → StartEnds times coding types p first memory own (Some kept)
