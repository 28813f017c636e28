-- What follows of refinement, for any language, as statements.
use Rattle.std.specs.Prelude.{◌≡◌, ℕ, List, drop, Option, None, Bool, true}
use Rattle.std.specs.List.{AllByRecursion}
use Rattle.mo_num.specs.PrincipalText.{IsPrincipal}
use Rattle.play_script.specs.Events.{IsNoInstall}
use Rattle.play_script.specs.Scripts.{ScriptOf}
use Rattle.play_script.specs.declared.event.Event.{Event}
use Rattle.play_script.specs.declared.event.Event.TheVariants as event
use Rattle.wasm_tree.specs.declared.module_parts.Module.{Module}
use Rattle.wasm_tree.specs.Exec.{ExecutionLimits}
use Rattle.canister_host.specs.State.{Canister}
use Rattle.canister_host.specs.declared.calls.OpenCall.{OpenCall}
use Rattle.canister_host.specs.HostRun.{host_run}
use Rattle.mo_actor.specs.Languages.{Language}
use Rattle.mo_actor.specs.Programs.{Program}
use Rattle.mo_actor.specs.Measures.{Measure, Spent, Unmeasured, Never}
use Rattle.mo_actor.specs.Steps.{ActorRun}
use Rattle.mo_actor.specs.Passes.{CommittedState}
use Rattle.mo_actor.specs.Passes.{Keeps as PassKeeps}
use Rattle.actor_refinement.specs.Limits.{IsWithin}
use Rattle.actor_refinement.specs.SoundEvents.{IsSound}
use Rattle.actor_refinement.specs.Ends.{install_end, upgrade_end}
use Rattle.actor_refinement.specs.Refines.{Keeps, Refines, AllRefine}
use Rattle.actor_refinement.specs.Segments.{SegmentsAlike}
use Rattle.actor_refinement.specs.Simulates.{Simulates}

-- What is asked of an exhaustion under the limits of a command line: nothing, the share of its limit, or that there is none.

abbrev pub any_exhaustion : ExecutionLimits → Measure
any_exhaustion limits e = Unmeasured e

abbrev pub spent_exhaustion : ExecutionLimits → Measure
spent_exhaustion limits e = Spent limits.steps limits.stack limits.pages e

abbrev pub no_exhaustion : ExecutionLimits → Measure
no_exhaustion limits e = Never e

-- Events of a test that are sound.
abbrev pub SoundAnd : (Event → Bool) → Event → Type 0
SoundAnd given e = IsSound e × (given e ≡ true)

-- The events of a script are sound, and an installation comes first or not at all.
abbrev pub ScriptsAreSound : Type 0
ScriptsAreSound =
    (text : List ℕ) (modules : ℕ) (events : List Event) → ScriptOf text modules events → AllByRecursion IsSound events × AllByRecursion IsNoInstall (drop 1 events)

module _ (L : Language) (pays : ExecutionLimits → Measure) where
  -- A relation is here what a test says; the lemmas have it for any relation.

  -- A module whose single executions come out as a program's do refines the program.
  abbrev pub SimulationsRefine : Type 0
  SimulationsRefine =
      (stable : L.kept → List ℕ → Bool) (given : Event → Bool) (related : ExecutionLimits → List ℕ → (charged : ℕ) → CommittedState L → Canister → List OpenCall → Bool) (p : Program L) (m : Module)
      → ((limits : ExecutionLimits) → IsWithin limits → (own : List ℕ) → IsPrincipal own
      → Simulates (λ charged state c waiting. related limits own charged state c waiting ≡ true) (λ kept memory. stable kept memory ≡ true) (SoundAnd given) (pays limits) limits own p m)
      → Refines (λ kept memory. stable kept memory ≡ true) (SoundAnd given) pays p m

  -- Where each module of a list refines the program in its place, the host's run over the modules is a run of the actors of
  -- the programs: over every list of events, under all limits, for every principal.
  abbrev pub HostRunsAreActorRuns : Type 0
  HostRunsAreActorRuns =
      (stable : L.kept → List ℕ → Bool) (given : Event → Bool) (programs : List (Program L)) (modules : List Module)
      → AllRefine (λ kept memory. stable kept memory ≡ true) (SoundAnd given) pays programs modules
      → (limits : ExecutionLimits) → IsWithin limits → (own : List ℕ) → IsPrincipal own
      → (events : List Event) → AllByRecursion (SoundAnd given) events → AllByRecursion IsNoInstall (drop 1 events)
      → ActorRun (pays limits) programs own events (host_run modules limits own events)

  -- What refines for more events refines for fewer.
  abbrev pub FewerEventsAreRefined : Type 0
  FewerEventsAreRefined =
      (stable : L.kept → List ℕ → Bool) (more fewer : Event → Bool) → ((e : Event) → fewer e ≡ true → more e ≡ true) → (p : Program L) (m : Module)
      → Refines (λ kept memory. stable kept memory ≡ true) (SoundAnd more) pays p m → Refines (λ kept memory. stable kept memory ≡ true) (SoundAnd fewer) pays p m

  -- What refines by this measure refines by a looser one.
  abbrev pub IsLooserRefined : (ExecutionLimits → Measure) → Type 0
  IsLooserRefined loose =
      (stable : L.kept → List ℕ → Bool) (given : Event → Bool) (p : Program L) (m : Module)
      → Refines (λ kept memory. stable kept memory ≡ true) (SoundAnd given) pays p m → Refines (λ kept memory. stable kept memory ≡ true) (SoundAnd given) loose p m

-- A pass carries refinement: where each execution of a new program comes out as one of the old program, from states that are
-- related to related ones, what refines the new program refines the old one.
abbrev pub PassesCarryRefinement : (S T : Language) → (pays_old pays_new : ExecutionLimits → Measure) → Type 0
PassesCarryRefinement S T pays_old pays_new =
    (stable_old : S.kept → List ℕ → Bool) (stable_new : T.kept → List ℕ → Bool) (alike_kept : S.kept → T.kept → Bool) (weighs : ℕ → ℕ → Bool) (given : Event → Bool)
    (related : ExecutionLimits → List ℕ → CommittedState S → CommittedState T → Bool) (p : Program S) (q : Program T) (m : Module)
    → ((kept : S.kept) (memory : List ℕ) → stable_old kept memory ≡ true → (there : T.kept) × (alike_kept kept there ≡ true) × (stable_new there memory ≡ true))
    → ((kept : S.kept) (there : T.kept) (memory : List ℕ) → alike_kept kept there ≡ true → stable_new there memory ≡ true → stable_old kept memory ≡ true)
    → ((limits : ExecutionLimits) → IsWithin limits → (own : List ℕ) → IsPrincipal own
    → PassKeeps (λ s t. related limits own s t ≡ true) (λ k l. alike_kept k l ≡ true) (λ x y. weighs x y ≡ true) (SoundAnd given) (pays_old limits) (pays_new limits) own p q)
    → Refines (λ kept memory. stable_new kept memory ≡ true) (SoundAnd given) pays_new q m → Refines (λ kept memory. stable_old kept memory ≡ true) (SoundAnd given) pays_old p m

-- What refines has lives that are lives of the actor, from an installation and from each upgrade on.
pub record HasSegments {L : Language} (Stable : L.kept → List ℕ → Type 0) (Given : Event → Type 0) (pays : ExecutionLimits → Measure) (p : Program L) (m : Module) : Type 0 where
  pub installs : (limits : ExecutionLimits) → IsWithin limits → (own : List ℕ) → IsPrincipal own → SegmentsAlike Stable Given (pays limits) limits own p m None (install_end limits own m)
  pub upgrades : (number : ℕ) → Given (event.Upgrade number) → (limits : ExecutionLimits) → IsWithin limits → (own : List ℕ) → IsPrincipal own
      → (kept : Option L.kept) (stable : List ℕ) → Keeps Stable kept stable → SegmentsAlike Stable Given (pays limits) limits own p m kept (upgrade_end limits own m stable)

abbrev pub RefinedSegmentsAreAlike : (L : Language) → (pays : ExecutionLimits → Measure) → Type 0
RefinedSegmentsAreAlike L pays =
    (stable : L.kept → List ℕ → Bool) (given : Event → Bool) (p : Program L) (m : Module)
    → Refines (λ kept memory. stable kept memory ≡ true) (SoundAnd given) pays p m → HasSegments (λ kept memory. stable kept memory ≡ true) (SoundAnd given) pays p m
