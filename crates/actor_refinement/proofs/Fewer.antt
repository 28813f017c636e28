-- What refines for more events and by a stricter measure refines for fewer and by a looser one.
use Rattle.std.proofs.Common.{ℕ, suc, zero, List, [], Option, None}
use Rattle.play_script.specs.declared.event.Event.{Event}
use Rattle.play_script.specs.declared.event.Event.TheVariants as event
use Rattle.wasm_tree.specs.declared.module_parts.Module.{Module}
use Rattle.wasm_tree.specs.Exec.{ExecutionLimits, Store}
use Rattle.ic0_world.specs.declared.world.World.{World}
use Rattle.canister_host.specs.State.{HostState}
use Rattle.canister_host.specs.Execution.{End, Finishes, Breaks}
use Rattle.canister_host.specs.HostRun.{step}
use Rattle.mo_actor.specs.Languages.{Language}
use Rattle.mo_actor.specs.Programs.{Program}
use Rattle.mo_actor.specs.Measures.{Exhaustion, Measure}
use Rattle.mo_actor.specs.Results.{Result, Completed, Trapped, Exhausted}
use Rattle.mo_actor.specs.States.{Actor}
use Rattle.mo_actor.specs.Upgrades.{saving}
use Rattle.mo_actor.specs.Steps.{life_course}
use Rattle.mo_actor.proofs.Looser.{looser_result, looser_course}
use Rattle.actor_refinement.specs.Ends.{EndsAlike, install_end, upgrade_end}
use Rattle.actor_refinement.specs.Refines.{Follows, Starts, Refines}

-- What an execution leaves may be told in another way.
pub ends_alike : {A : Type 0} {P Q : ℕ → A → Store World → Type 0} → ((weight : ℕ) (a : A) (store : Store World) → P weight a store → Q weight a store) → (r : Result A) (end : End)
    → EndsAlike P r end → EndsAlike Q r end
ends_alike f (Completed prints weight a) (Finishes store) alike = (alike.0, f weight a store alike.1)
ends_alike f (Trapped prints text) (Breaks cause shown) alike = alike
ends_alike f (Exhausted prints limit) (Breaks cause shown) alike = alike
ends_alike f (Completed prints weight a) (Breaks cause shown) alike = absurd alike
ends_alike f (Trapped prints text) (Finishes store) alike = absurd alike
ends_alike f (Exhausted prints limit) (Finishes store) alike = absurd alike

-- What follows for one more event follows.
pub one_event_less : {L : Language} (Stable : L.kept → List ℕ → Type 0) (Given : Event → Type 0) (pays : Measure) (limits : ExecutionLimits) (own : List ℕ) (p : Program L) (count : ℕ) (a : Actor L) (s : HostState)
    → Follows Stable Given pays limits own p (suc count) a s → Follows Stable Given pays limits own p count a s
one_event_less Stable Given pays limits own p zero a s f = tt
one_event_less Stable Given pays limits own p (suc count) a s f = record {
  agrees = f.agrees;
  steps = λ e life given. let x = f.steps e life given in (x.0, x.1, x.2, one_event_less Stable Given pays limits own p count x.0.next (step [] limits own e s).next x.3);
  saves = f.saves;
}

module _ (strict loose : Measure) (weaker : (e : Exhaustion) → strict e → loose e) where
  module _ {L : Language} (Stable : L.kept → List ℕ → Type 0) (More Fewer : Event → Type 0) (fewer : (e : Event) → Fewer e → More e) (limits : ExecutionLimits) (own : List ℕ) (p : Program L) where
    follows_fewer : (count : ℕ) (a : Actor L) (s : HostState) → Follows Stable More strict limits own p count a s → Follows Stable Fewer loose limits own p count a s
    follows_fewer zero a s f = tt
    follows_fewer (suc count) a s f = record {
      agrees = f.agrees;
      steps = λ e life given. let x = f.steps e life (fewer e given) in
          (x.0, looser_course strict loose weaker (life_course p own e a) x.0 x.1, x.2, follows_fewer count x.0.next (step [] limits own e s).next x.3);
      saves = λ number given. let x = f.saves number (fewer (event.Upgrade number) given) in
          (x.0, looser_result strict loose weaker p.first_memory a.charged (saving p own a) x.0 x.1, x.2);
    }

    starts_fewer : (m : Module) (kept : Option L.kept) (end : End) → Starts Stable More strict limits own p m kept end → Starts Stable Fewer loose limits own p m kept end
    starts_fewer m kept end x = (
      x.0,
      looser_result strict loose weaker p.first_memory 0 (p.start own kept) x.0 x.1,
      ends_alike (λ weight store left f count made activations incoming same. follows_fewer count _ _ (f count made activations incoming same)) x.0 end x.2,
    )

pub refines_fewer : {L : Language} (Stable : L.kept → List ℕ → Type 0) (More Fewer : Event → Type 0) (strict loose : ExecutionLimits → Measure) → ((e : Event) → Fewer e → More e)
    → ((limits : ExecutionLimits) (e : Exhaustion) → strict limits e → loose limits e) → (p : Program L) (m : Module) → Refines Stable More strict p m → Refines Stable Fewer loose p m
refines_fewer Stable More Fewer strict loose fewer weaker p m r = record {
  installs = λ limits within own self. starts_fewer (strict limits) (loose limits) (weaker limits) Stable More Fewer fewer limits own p m None (install_end limits own m) (r.installs limits within own self);
  upgrades = λ number given limits within own self kept stable keeps.
      starts_fewer (strict limits) (loose limits) (weaker limits) Stable More Fewer fewer limits own p m kept (upgrade_end limits own m stable) (r.upgrades number (fewer (event.Upgrade number) given) limits within own self kept stable keeps);
}
