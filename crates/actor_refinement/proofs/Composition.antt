-- Where each program is refined by its module, the host's run over the modules is a run of the actors.
use Rattle.std.proofs.Common.{◌≡◌, ℕ, suc, Bool, false, List, [], ◌∷◌, ◌++◌, length, Option, refl, sym, ap, subst, codes, slice_get, slice_set, find, nat_eq, drop}
use Rattle.std.specs.List.{AllByRecursion}
use Rattle.mo_num.specs.PrincipalText.{IsPrincipal}
use Rattle.play_script.specs.Events.{IsNoInstall}
use Rattle.play_script.specs.declared.event.Event.{Event}
use Rattle.play_script.specs.declared.event.Event.TheVariants as event
use Rattle.play_script.specs.declared.item.Item.TheVariants as item
use Rattle.wasm_tree.specs.declared.module_parts.Module.{Module}
use Rattle.wasm_tree.specs.Exec.{ExecutionLimits}
use Rattle.canister_host.specs.State.{HostState, first_state}
use Rattle.canister_host.specs.declared.calls.IncomingCall.{IncomingCall}
use Rattle.canister_host.specs.HostRun.{Received, Reply, Reject, answer, answered, answered_call, enter_call, step, items_from, host_run, upgrade}
use Rattle.canister_host.specs.HostRun.{Outcome as HostOutcome}
use Rattle.mo_actor.specs.Languages.{Language}
use Rattle.mo_actor.specs.Programs.{Program}
use Rattle.mo_actor.specs.Measures.{Measure}
use Rattle.mo_actor.specs.States.{Activation, IsAnswered, Actor, ActorState, NoActor, Running}
use Rattle.mo_actor.specs.Outcomes.{Outcome, outcome}
use Rattle.mo_actor.specs.Courses.{ComesTo}
use Rattle.mo_actor.specs.Steps.{life_course, in_life, Step, RunsFrom, ActorRun}
use Rattle.mo_actor.proofs.Lists.{set_last}
use Rattle.mo_actor.proofs.CarriedLife.{to_states}
use Rattle.actor_refinement.specs.Limits.{IsWithin}
use Rattle.actor_refinement.specs.SoundEvents.{IsInLife}
use Rattle.actor_refinement.specs.Agreement.{SameIncoming}
use Rattle.actor_refinement.specs.Refines.{Follows, AllRefine}
use Rattle.actor_refinement.proofs.Incoming.{incoming_push, incoming_counted}
use Rattle.actor_refinement.proofs.Starting.{Tied, both_at, install_step, upgrade_step}

module _ {L : Language} (Stable : L.kept → List ℕ → Type 0) (Given : Event → Type 0) (pays : ExecutionLimits → Measure) (limits : ExecutionLimits) (within : IsWithin limits) (own : List ℕ) (self : IsPrincipal own)
    (programs : List (Program L)) (modules : List Module) (refined : AllRefine Stable Given pays programs modules) where
  abbrev AreTied : ℕ → ActorState L → HostState → Type 0
  AreTied n state s = Tied Stable Given pays limits within own self n state s

  -- One event of the whole.
  abbrev Stepped : ℕ → Event → ActorState L → HostState → Type 0
  Stepped n e state s = (o : Outcome (ActorState L)) × Step (pays limits) programs own e state o × (o.items ≡ (step modules limits own e s).items) × AreTied n o.next (step modules limits own e s).next

  lives_on : (n : ℕ) (e : Event) (p : Program L) (a : Actor L) (s : HostState) (next : HostOutcome) → next ≡ step [] limits own e s → IsInLife e → Given e → Follows Stable Given (pays limits) limits own p (suc n) a s
      → (o : Outcome (ActorState L)) × ComesTo (pays limits) (in_life p own e a) o × (o.items ≡ next.items) × AreTied n o.next next.next
  lives_on n e p a s next is life given f =
      let x = f.steps e life given in
      subst (λ q. (o : Outcome (ActorState L)) × ComesTo (pays limits) (in_life p own e a) o × (o.items ≡ q.items) × AreTied n o.next q.next) (sym is)
      (outcome x.0.items (Running p x.0.next), to_states (pays limits) (Running p) (life_course p own e a) x.0 x.1, x.2, x.3)

  empty_call : (n made : ℕ) (activations : List (Activation L)) (s : HostState) (query : Bool) (name caller bytes : List ℕ) → AreTied (suc n) (NoActor made activations) s → Stepped n (event.Call query name caller bytes) (NoActor made activations) s
  empty_call n made activations s query name caller bytes t =
      let call : IncomingCall = record { caller = caller; answered = false } in
      let now : HostState = record s { incoming = s.incoming ++ call ∷ [] } in
      let done : IncomingCall = answered_call (slice_get (s.incoming ++ call ∷ []) (length s.incoming)) in
      let o : Outcome (ActorState L) = outcome (item.Rejected (length activations) 3 (codes "no canister") ∷ []) (NoActor made (activations ++ IsAnswered ∷ [])) in
      let same : SameIncoming (activations ++ IsAnswered ∷ []) (slice_set (s.incoming ++ call ∷ []) (length s.incoming) done) =
      subst (SameIncoming (activations ++ IsAnswered ∷ [])) (sym (set_last s.incoming call done)) (incoming_push activations s.incoming IsAnswered done t.1 refl) in
      subst (λ c. (o : Outcome (ActorState L)) × Step (pays limits) programs own (event.Call query name caller bytes) (NoActor made activations) o
      × (o.items ≡ (enter_call limits own query name bytes c (length s.incoming) now).items) × AreTied n o.next (enter_call limits own query name bytes c (length s.incoming) now).next) (sym t.0)
      (o, refl, ap (λ k. item.Rejected k 3 (codes "no canister") ∷ []) (incoming_counted activations s.incoming t.1), (t.0, same, t.2, t.3))

  empty_answer : (n made : ℕ) (activations : List (Activation L)) (s : HostState) (number : ℕ) (received : Received) → AreTied (suc n) (NoActor made activations) s
      → (o : Outcome (ActorState L)) × (o ≡ outcome (item.Ignored ∷ []) (NoActor made activations)) × (o.items ≡ (answer limits own number received s).items) × AreTied n o.next (answer limits own number received s).next
  empty_answer n made activations s number received t =
      subst (λ c. (o : Outcome (ActorState L)) × (o ≡ outcome (item.Ignored ∷ []) (NoActor made activations)) × (o.items ≡ (answered limits own number received c (find (λ w. nat_eq w.number number) s.waiting) s).items)
      × AreTied n o.next (answered limits own number received c (find (λ w. nat_eq w.number number) s.waiting) s).next) (sym t.0)
      (outcome (item.Ignored ∷ []) (NoActor made activations), refl, refl, t)

  empty_upgrade : (n made : ℕ) (activations : List (Activation L)) (s : HostState) (m : Option Module) → AreTied (suc n) (NoActor made activations) s
      → (o : Outcome (ActorState L)) × (o ≡ outcome (item.Ignored ∷ []) (NoActor made activations)) × (o.items ≡ (upgrade limits own m s.canister s).items) × AreTied n o.next (upgrade limits own m s.canister s).next
  empty_upgrade n made activations s m t =
      subst (λ c. (o : Outcome (ActorState L)) × (o ≡ outcome (item.Ignored ∷ []) (NoActor made activations)) × (o.items ≡ (upgrade limits own m c s).items) × AreTied n o.next (upgrade limits own m c s).next) (sym t.0)
      (outcome (item.Ignored ∷ []) (NoActor made activations), refl, refl, t)

  step_lift : (n : ℕ) (e : Event) (state : ActorState L) (s : HostState) → Given e → AreTied (suc n) state s → IsNoInstall e → Stepped n e state s
  step_lift n (event.Install number) state s given t later = absurd later
  step_lift n (event.Call query name caller bytes) (NoActor made activations) s given t later = empty_call n made activations s query name caller bytes t
  step_lift n (event.Reply number bytes) (NoActor made activations) s given t later = empty_answer n made activations s number (Reply bytes) t
  step_lift n (event.Reject number code text) (NoActor made activations) s given t later = empty_answer n made activations s number (Reject code text) t
  step_lift n (event.Upgrade number) (NoActor made activations) s given t later = empty_upgrade n made activations s (slice_get modules number) t
  step_lift n (event.Call query name caller bytes) (Running p a) s given t later = lives_on n (event.Call query name caller bytes) p a s (step modules limits own (event.Call query name caller bytes) s) refl tt given t
  step_lift n (event.Reply number bytes) (Running p a) s given t later = lives_on n (event.Reply number bytes) p a s (step modules limits own (event.Reply number bytes) s) refl tt given t
  step_lift n (event.Reject number code text) (Running p a) s given t later = lives_on n (event.Reject number code text) p a s (step modules limits own (event.Reject number code text) s) refl tt given t
  step_lift n (event.Upgrade number) (Running p a) s given t later = upgrade_step Stable Given pays limits within own self number given n p a s (slice_get programs number) (slice_get modules number) (both_at Stable Given pays limits within own self programs modules refined number) t

  runs_from : (events : List Event) (state : ActorState L) (s : HostState) → AllByRecursion Given events → AllByRecursion IsNoInstall events → AreTied (length events) state s
      → RunsFrom (pays limits) programs own state events (items_from modules limits own events s)
  runs_from [] state s given later t = refl
  runs_from (e ∷ events) state s given later t =
      let x = step_lift (length events) e state s given.0 t later.0 in (
        x.0,
        x.1,
        items_from modules limits own events (step modules limits own e s).next,
        ap (λ i. i ++ items_from modules limits own events (step modules limits own e s).next) (sym x.2),
        runs_from events x.0.next (step modules limits own e s).next given.1 later.1 x.3,
      )

  -- An install comes first or not at all.
  pub host_runs : (events : List Event) → AllByRecursion Given events → AllByRecursion IsNoInstall (drop 1 events) → ActorRun (pays limits) programs own events (host_run modules limits own events)
  host_runs [] given later = refl
  host_runs (event.Install number ∷ events) given later =
      let x = install_step Stable Given pays limits within own self (length events) 0 [] first_state (slice_get programs number) (slice_get modules number) (both_at Stable Given pays limits within own self programs modules refined number) (refl, tt, refl, refl) in (
        x.0,
        x.1,
        items_from modules limits own events (step modules limits own (event.Install number) first_state).next,
        ap (λ i. i ++ items_from modules limits own events (step modules limits own (event.Install number) first_state).next) (sym x.2),
        runs_from events x.0.next (step modules limits own (event.Install number) first_state).next given.1 later x.3,
      )
  host_runs (event.Call query name caller bytes ∷ events) given later = runs_from (event.Call query name caller bytes ∷ events) (NoActor 0 []) first_state given (tt, later) (refl, tt, refl, refl)
  host_runs (event.Reply number bytes ∷ events) given later = runs_from (event.Reply number bytes ∷ events) (NoActor 0 []) first_state given (tt, later) (refl, tt, refl, refl)
  host_runs (event.Reject number code text ∷ events) given later = runs_from (event.Reject number code text ∷ events) (NoActor 0 []) first_state given (tt, later) (refl, tt, refl, refl)
  host_runs (event.Upgrade number ∷ events) given later = runs_from (event.Upgrade number ∷ events) (NoActor 0 []) first_state given (tt, later) (refl, tt, refl, refl)
