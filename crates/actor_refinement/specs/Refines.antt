-- When a module does what the actor of a program does. Nothing is said of how the module holds the actor's state.
use Rattle.std.specs.Prelude.{◌≡◌, ⊤, ℕ, zero, suc, List, [], ◌∷◌, Option, Some, None}
use Rattle.mo_num.specs.PrincipalText.{IsPrincipal}
use Rattle.play_script.specs.declared.event.Event.{Event}
use Rattle.play_script.specs.declared.event.Event.TheVariants as event
use Rattle.wasm_tree.specs.declared.module_parts.Module.{Module}
use Rattle.wasm_tree.specs.Exec.{ExecutionLimits}
use Rattle.canister_host.specs.State.{HostState}
use Rattle.canister_host.specs.declared.calls.IncomingCall.{IncomingCall}
use Rattle.canister_host.specs.Execution.{End, left_by}
use Rattle.canister_host.specs.HostRun.{step}
use Rattle.mo_actor.specs.Languages.{Language}
use Rattle.mo_actor.specs.Programs.{Program}
use Rattle.mo_actor.specs.Measures.{Measure}
use Rattle.mo_actor.specs.Results.{Result, HasResult}
use Rattle.mo_actor.specs.States.{Activation, Actor}
use Rattle.mo_actor.specs.Outcomes.{Outcome}
use Rattle.mo_actor.specs.Upgrades.{started, saving}
use Rattle.mo_actor.specs.Steps.{LifeStep}
use Rattle.actor_refinement.specs.Limits.{IsWithin}
use Rattle.actor_refinement.specs.SoundEvents.{IsInLife}
use Rattle.actor_refinement.specs.Ends.{EndsAlike, install_end, upgrade_end, save_end}
use Rattle.actor_refinement.specs.Agreement.{SameIncoming, Agrees}

-- A stable memory with which a program may start: it holds values that were kept, or it was never used.
abbrev pub Keeps : {Kept : Type 0} → (Kept → List ℕ → Type 0) → Option Kept → List ℕ → Type 0
Keeps Stable None stable = stable ≡ []
Keeps Stable (Some kept) stable = Stable kept stable

-- Stable: the stable memories that hold these values. Given: the events that are spoken of. Pays: what is asked of an
-- exhaustion under these limits.
module _ {L : Language} (Stable : L.kept → List ℕ → Type 0) where
  module _ (Given : Event → Type 0) (pays : Measure) (limits : ExecutionLimits) (own : List ℕ) (p : Program L) where
    -- The host gives for each event the items of a step of the actor, and what comes then follows, too. And the module saves
    -- as the program does: where it comes to an end, the stable memory holds what the program keeps.
    pub record FollowsOnce (Then : Actor L → HostState → Type 0) (a : Actor L) (s : HostState) : Type 0 where
      pub agrees : Agrees a s
      pub steps : (e : Event) → IsInLife e → Given e
          → (reached : Outcome (Actor L)) × LifeStep pays p own e a reached
          × (reached.items ≡ (step [] limits own e s).items) × Then reached.next (step [] limits own e s).next
      pub saves : (number : ℕ) → Given (event.Upgrade number)
          → (r : Result L.kept) × HasResult pays p.first_memory a.charged (saving p own a) r
          × EndsAlike (λ weight kept store. Stable kept store.world.stable.bytes) r (save_end limits own agrees.canister)

    -- So many events, one after another.
    abbrev pub Follows : (count : ℕ) → Actor L → HostState → Type 0
    Follows zero a s = ⊤
    Follows (suc count) a s = FollowsOnce (Follows count) a s

    -- The module begins as the program starts, and then follows its actor, over any number of events, whatever calls came
    -- and were made before.
    abbrev pub Starts : Module → Option L.kept → End → Type 0
    Starts m kept end =
        (r : Result L.store) × HasResult pays p.first_memory 0 (p.start own kept) r
        × EndsAlike (λ weight store left. (count made : ℕ) (activations : List (Activation L)) (incoming : List IncomingCall) → SameIncoming activations incoming
        → Follows count (started made activations store weight) (record { canister = Some (left_by m left); incoming = incoming; made = made; waiting = [] })) r end

  -- Under all limits, for each principal of the canister's own, and where upgrades are given from each stable memory.
  pub record Refines (Given : Event → Type 0) (pays : ExecutionLimits → Measure) (p : Program L) (m : Module) : Type 0 where
    pub installs : (limits : ExecutionLimits) → IsWithin limits → (own : List ℕ) → IsPrincipal own
        → Starts Given (pays limits) limits own p m None (install_end limits own m)
    pub upgrades : (number : ℕ) → Given (event.Upgrade number) → (limits : ExecutionLimits) → IsWithin limits → (own : List ℕ) → IsPrincipal own
        → (kept : Option L.kept) (stable : List ℕ) → Keeps Stable kept stable → Starts Given (pays limits) limits own p m kept (upgrade_end limits own m stable)

  -- Each module of the list does what the actor of the program in its place does.
  abbrev pub AllRefine : (Event → Type 0) → (ExecutionLimits → Measure) → List (Program L) → List Module → Type 0
  AllRefine Given pays [] [] = ⊤
  AllRefine Given pays (p ∷ programs) (m ∷ modules) = Refines Given pays p m × AllRefine Given pays programs modules
  AllRefine Given pays _ _ = ⊥
