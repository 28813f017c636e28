-- A module whose executions come out as a program's do refines the program.
use Rattle.std.proofs.Common.{ℕ, suc, zero, List, [], Option, Some, None, refl, arith}
use Rattle.mo_num.specs.PrincipalText.{IsPrincipal}
use Rattle.play_script.specs.declared.event.Event.{Event}
use Rattle.play_script.specs.declared.event.Event.TheVariants as event
use Rattle.wasm_tree.specs.declared.module_parts.Module.{Module}
use Rattle.wasm_tree.specs.Exec.{ExecutionLimits}
use Rattle.canister_host.specs.State.{Canister, HostState}
use Rattle.canister_host.specs.declared.calls.IncomingCall.{IncomingCall}
use Rattle.canister_host.specs.declared.calls.OpenCall.{OpenCall}
use Rattle.canister_host.specs.Execution.{End, Finishes, Breaks, left_by}
use Rattle.canister_host.specs.HostRun.{step}
use Rattle.mo_actor.specs.Languages.{Language}
use Rattle.mo_actor.specs.Programs.{Program}
use Rattle.mo_actor.specs.Measures.{Measure}
use Rattle.mo_actor.specs.Results.{Result, Completed, Trapped, Exhausted, HasResult}
use Rattle.mo_actor.specs.States.{Activation, Actor}
use Rattle.mo_actor.specs.CallAnswers.{Reply, Reject}
use Rattle.mo_actor.specs.Upgrades.{started}
use Rattle.mo_actor.specs.Steps.{LifeStep}
use Rattle.mo_actor.specs.Passes.{CommittedState, fresh_state}
use Rattle.actor_refinement.specs.Limits.{IsWithin}
use Rattle.actor_refinement.specs.SoundEvents.{IsInLife}
use Rattle.actor_refinement.specs.Ends.{EndsAlike, install_end, upgrade_end}
use Rattle.actor_refinement.specs.Agreement.{SameIncoming}
use Rattle.actor_refinement.specs.Refines.{Follows, Starts, Refines}
use Rattle.actor_refinement.specs.Simulates.{Simulates}
use Rattle.actor_refinement.proofs.Finishing.{Tied, Lifted}
use Rattle.actor_refinement.proofs.Calling.{call_lift}
use Rattle.actor_refinement.proofs.Answering.{answer_lift}

module _ {L : Language} (Related : (charged : ℕ) → CommittedState L → Canister → List OpenCall → Type 0) where
  module _ (Stable : L.kept → List ℕ → Type 0) (Given : Event → Type 0) (pays : Measure) (limits : ExecutionLimits) (own : List ℕ) (p : Program L) (m : Module) (simulates : Simulates Related Stable Given pays limits own p m) where
    event_lift : (a : Actor L) (s : HostState) → Tied Related a s → (e : Event) → IsInLife e → Given e → Lifted Related (λ o. LifeStep pays p own e a o) (step [] limits own e s)
    event_lift a s r (event.Install number) life given = absurd life
    event_lift a s r (event.Call query name caller bytes) life given = call_lift Related Stable Given pays limits own p m simulates a s r query name caller bytes given
    event_lift a s r (event.Reply number bytes) life given = answer_lift Related Stable Given pays limits own p m simulates a s r number (Reply bytes) given
    event_lift a s r (event.Reject number code text) life given = answer_lift Related Stable Given pays limits own p m simulates a s r number (Reject code text) given
    event_lift a s r (event.Upgrade number) life given = absurd life

    pub follows : (n : ℕ) (a : Actor L) (s : HostState) → Tied Related a s → Follows Stable Given pays limits own p n a s
    follows zero a s r = tt
    follows (suc n) a s r = record {
      agrees = r.agrees;
      steps = λ e life given. let x = event_lift a s r e life given in (x.0, x.1, x.2, follows n x.0.next (step [] limits own e s).next x.3);
      saves = λ number given. simulates.saves number given a r.agrees.canister s.waiting (record { calls = r.agrees.calls; related = r.related });
    }

    related_first : (made weight : ℕ) (store : L.store) (activations : List (Activation L)) (calls : List IncomingCall) (c : Canister) → SameIncoming activations calls → Related weight (fresh_state store made) c []
        → Tied Related (started made activations store weight) (record { canister = Some c; incoming = calls; made = made; waiting = [] })
    related_first made weight store activations calls c same h = record {
      agrees = record { canister = c; there = refl; incoming = same; calls = refl; made = omega arith };
      related = h;
    }

    starts : (kept : Option L.kept) (r : Result L.store) (e : End) → HasResult pays p.first_memory 0 (p.start own kept) r
        → EndsAlike (λ weight store left. (made : ℕ) → Related weight (fresh_state store made) (left_by m left) []) r e → Starts Stable Given pays limits own p m kept e
    starts kept (Completed prints weight store) (Finishes left) has c = (
      Completed prints weight store,
      has,
      (
        c.0,
        λ n made activations calls same. follows n (started made activations store weight) (record { canister = Some (left_by m left); incoming = calls; made = made; waiting = [] })
            (related_first made weight store activations calls (left_by m left) same (c.1 made)),
      ),
    )
    starts kept (Completed prints weight store) (Breaks cause shown) has c = absurd c
    starts kept (Trapped prints text) (Finishes left) has c = absurd c
    starts kept (Trapped prints text) (Breaks cause shown) has c = (Trapped prints text, has, c)
    starts kept (Exhausted prints w) (Finishes left) has c = absurd c
    starts kept (Exhausted prints w) (Breaks cause shown) has c = (Exhausted prints w, has, c)

-- From single executions to whole lives.
pub refines : {L : Language} (Related : ExecutionLimits → List ℕ → (charged : ℕ) → CommittedState L → Canister → List OpenCall → Type 0) (Stable : L.kept → List ℕ → Type 0) (Given : Event → Type 0) (pays : ExecutionLimits → Measure) (p : Program L) (m : Module)
    → ((limits : ExecutionLimits) → IsWithin limits → (own : List ℕ) → IsPrincipal own → Simulates (Related limits own) Stable Given (pays limits) limits own p m) → Refines Stable Given pays p m
refines Related Stable Given pays p m simulates = record {
  installs = λ limits within own self. let s = simulates limits within own self in
      starts (Related limits own) Stable Given (pays limits) limits own p m s None s.installs.0 (install_end limits own m) s.installs.1 s.installs.2;
  upgrades = λ number given limits within own self kept stable keeps. let s = simulates limits within own self in let x = s.upgrades number given kept stable keeps in
      starts (Related limits own) Stable Given (pays limits) limits own p m s kept x.0 (upgrade_end limits own m stable) x.1 x.2;
}
