-- What follows an actor does so over every list of events.
use Rattle.std.proofs.Common.{ℕ, List, [], ◌∷◌, length, Option, None, refl, sym, subst}
use Rattle.std.specs.List.{AllByRecursion}
use Rattle.play_script.specs.Events.{IsNoInstall}
use Rattle.play_script.specs.declared.event.Event.{Event}
use Rattle.play_script.specs.declared.event.Event.TheVariants as event
use Rattle.wasm_tree.specs.declared.module_parts.Module.{Module}
use Rattle.wasm_tree.specs.Exec.{ExecutionLimits}
use Rattle.canister_host.specs.State.{HostState}
use Rattle.canister_host.specs.Execution.{End}
use Rattle.canister_host.specs.HostRun.{step}
use Rattle.mo_actor.specs.Languages.{Language}
use Rattle.mo_actor.specs.Programs.{Program}
use Rattle.mo_actor.specs.Measures.{Measure}
use Rattle.mo_actor.specs.States.{Actor}
use Rattle.actor_refinement.specs.Ends.{EndsAlike, install_end, upgrade_end}
use Rattle.actor_refinement.specs.Refines.{Follows, Starts, Refines}
use Rattle.actor_refinement.specs.Segments.{Shown, Saved, saving_end, LivesAlike, SegmentsAlike}
use Rattle.actor_refinement.specs.Laws.{HasSegments}
use Rattle.actor_refinement.proofs.Fewer.{ends_alike, one_event_less}

module _ {L : Language} (Stable : L.kept → List ℕ → Type 0) (Given : Event → Type 0) (pays : Measure) (limits : ExecutionLimits) (own : List ℕ) (p : Program L) where
  lives_alike : (events : List Event) → AllByRecursion Given events → AllByRecursion IsNoInstall events → (a : Actor L) (s : HostState) → Follows Stable Given pays limits own p (length events) a s → LivesAlike Stable pays limits own p events a s
  lives_alike [] given later a s f = ([], refl, tt)
  lives_alike (event.Install number ∷ events) given later a s f = absurd later.0
  lives_alike (event.Call query name caller bytes ∷ events) given later a s f =
      let x = f.steps (event.Call query name caller bytes) tt given.0 in
      let y = lives_alike events given.1 later.1 x.0.next (step [] limits own (event.Call query name caller bytes) s).next x.3 in
      (Shown x.0.items ∷ y.0, (x.0, x.1, y.0, refl, y.1), (x.2, y.2))
  lives_alike (event.Reply number bytes ∷ events) given later a s f =
      let x = f.steps (event.Reply number bytes) tt given.0 in
      let y = lives_alike events given.1 later.1 x.0.next (step [] limits own (event.Reply number bytes) s).next x.3 in
      (Shown x.0.items ∷ y.0, (x.0, x.1, y.0, refl, y.1), (x.2, y.2))
  lives_alike (event.Reject number code text ∷ events) given later a s f =
      let x = f.steps (event.Reject number code text) tt given.0 in
      let y = lives_alike events given.1 later.1 x.0.next (step [] limits own (event.Reject number code text) s).next x.3 in
      (Shown x.0.items ∷ y.0, (x.0, x.1, y.0, refl, y.1), (x.2, y.2))
  lives_alike (event.Upgrade number ∷ events) given later a s f =
      let x = f.saves number given.0 in
      let y = lives_alike events given.1 later.1 a s (one_event_less Stable Given pays limits own p (length events) a s f) in
      (Saved x.0 ∷ y.0, (x.0, x.1, y.0, refl, y.1), (subst (λ c. EndsAlike (λ weight kept store. Stable kept store.world.stable.bytes) x.0 (saving_end limits own c)) (sym f.agrees.there) x.2, y.2))

  pub segments_alike : (m : Module) (kept : Option L.kept) (end : End) → Starts Stable Given pays limits own p m kept end → SegmentsAlike Stable Given pays limits own p m kept end
  segments_alike m kept end x =
      (x.0, x.1, ends_alike (λ weight store left f events given later made activations incoming same. lives_alike events given later _ _ (f (length events) made activations incoming same)) x.0 end x.2)

pub has_segments : {L : Language} (Stable : L.kept → List ℕ → Type 0) (Given : Event → Type 0) (pays : ExecutionLimits → Measure) (p : Program L) (m : Module) → Refines Stable Given pays p m → HasSegments Stable Given pays p m
has_segments Stable Given pays p m r = record {
  installs = λ limits within own self. segments_alike Stable Given (pays limits) limits own p m None (install_end limits own m) (r.installs limits within own self);
  upgrades = λ number given limits within own self kept stable keeps.
      segments_alike Stable Given (pays limits) limits own p m kept (upgrade_end limits own m stable) (r.upgrades number given limits within own self kept stable keeps);
}
