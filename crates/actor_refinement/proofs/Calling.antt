-- Incoming calls: where the module's executions come out as the program's do, its host does what the actor does.
use Rattle.std.proofs.Common.{◌≡◌, ℕ, Bool, true, false, List, [], ◌∷◌, ◌++◌, length, Option, Some, None, refl, sym, ap, ◌∙◌, subst, slice_get, codes}
use Rattle.play_script.specs.declared.event.Event.{Event}
use Rattle.play_script.specs.declared.event.Event.TheVariants as event
use Rattle.wasm_tree.specs.declared.module_parts.Module.{Module}
use Rattle.wasm_tree.specs.Exec.{ExecutionLimits}
use Rattle.ic0_world.specs.declared.kind.ExecutionKind.{ExecutionKind}
use Rattle.ic0_world.specs.declared.kind.ExecutionKind.TheVariants as kind
use Rattle.ic0_world.specs.declared.world.World.{World}
use Rattle.canister_host.specs.State.{Canister, HostState}
use Rattle.canister_host.specs.declared.calls.OpenCall.{OpenCall}
use Rattle.canister_host.specs.Entries.{update_entry, query_entry}
use Rattle.canister_host.specs.Execution.{End, execution}
use Rattle.canister_host.specs.HostRun.{incoming, enter_call, enter_update, enter_query, enter_method, entry_of, called_world, refuse, caller_of}
use Rattle.canister_host.specs.HostRun.{is_answered as host_answered}
use Rattle.mo_actor.specs.Languages.{Language}
use Rattle.mo_actor.specs.Programs.{Effects, Program}
use Rattle.mo_actor.specs.Measures.{Measure}
use Rattle.mo_actor.specs.Results.{Result, HasResult}
use Rattle.mo_actor.specs.States.{IsDead, Actor, activation_at, is_answered}
use Rattle.mo_actor.specs.Outcomes.{rejected}
use Rattle.mo_actor.specs.Courses.{ComesTo}
use Rattle.mo_actor.specs.Completions.{update_outcome, query_outcome}
use Rattle.mo_actor.specs.IncomingCalls.{arrived, entered, query_course, update_course, call_course}
use Rattle.mo_actor.specs.Passes.{CommittedState}
use Rattle.mo_actor.proofs.Books.{last_dead}
use Rattle.actor_refinement.specs.Ends.{EndsAlike}
use Rattle.actor_refinement.specs.Simulates.{world_of, SameMethod, StatesRelate, CommitsAlike, QueriesAlike, Simulates}
use Rattle.actor_refinement.proofs.Incoming.{get_last, incoming_counted}
use Rattle.actor_refinement.proofs.Finishing.{Tied, Same, after_method, enters_by, came_update, answered_quiet, came_query, arrived_related, Lifted}

module _ {L : Language} (Related : (charged : ℕ) → CommittedState L → Canister → List OpenCall → Type 0) where
  module _ (Stable : L.kept → List ℕ → Type 0) (Given : Event → Type 0) (pays : Measure) (limits : ExecutionLimits) (own : List ℕ) (p : Program L) (m : Module) (simulates : Simulates Related Stable Given pays limits own p m) where
    no_method : (a : Actor L) (s : HostState) → Tied Related (arrived a) s → Lifted Related (λ o. o ≡ rejected (length a.activations) 5 (codes "no method") [] (arrived a)) (refuse (length a.activations) 5 (codes "no method") s)
    no_method a s r =
        (rejected (length a.activations) 5 (codes "no method") [] (arrived a), refl, refl, answered_quiet Related (arrived a) s (length a.activations) r (last_dead a.activations))

    -- A call arrives, and is the actor's next: a is the actor before, s the host before.
    module _ (a : Actor L) (s : HostState) (r : Tied Related a s) (asked : Bool) (name caller argument : List ℕ) (given : Given (event.Call asked name caller argument)) where
      abbrev now : HostState
      now = record s { incoming = s.incoming ++ record { caller = caller; answered = false } ∷ [] }

      abbrev place : ℕ
      place = length a.activations

      abbrev related_now : Tied Related (arrived a) now
      related_now = arrived_related Related a s r (record { caller = caller; answered = false }) refl

      dead_now : activation_at (arrived a).activations place ≡ IsDead
      dead_now = last_dead a.activations

      place_is : place ≡ length s.incoming
      place_is = incoming_counted a.activations s.incoming r.agrees.incoming

      found_now : slice_get now.incoming place ≡ Some (record { caller = caller; answered = false })
      found_now = ap (slice_get now.incoming) place_is ∙ get_last s.incoming (record { caller = caller; answered = false })

      world_now : called_world limits own r.agrees.canister place argument now ≡ world_of limits own r.agrees.canister caller argument false (length s.waiting)
      world_now = ap (λ x. world_of limits own r.agrees.canister (caller_of x) argument (host_answered x) (length s.waiting)) found_now

      at_now : StatesRelate Related a r.agrees.canister s.waiting
      at_now = record { calls = r.agrees.calls; related = r.related }

      -- The executions of the method, as the host enters them.
      abbrev host_end : ExecutionKind → ℕ → World → End
      host_end k f w = execution limits r.agrees.canister.code r.agrees.canister.instance (entry_of k (Some f) []) w

      entered_update : (body : L.method) (f : ℕ) (result : Result (Effects L)) → HasResult pays p.first_memory a.charged (entered p own a body caller argument) result
          → EndsAlike (CommitsAlike Related (arrived a) place r.agrees.canister s.waiting) result (host_end kind.Update f (world_of limits own r.agrees.canister caller argument false (length s.waiting)))
          → Lifted Related (λ o. (result : Result (Effects L)) × HasResult pays p.first_memory a.charged (entered p own a body caller argument) result × (o ≡ update_outcome place (arrived a) result)) (enter_method limits own r.agrees.canister kind.Update false f place argument now)
      entered_update body f result has c =
          let e : End = host_end kind.Update f (called_world limits own r.agrees.canister place argument now) in
          let came : EndsAlike (CommitsAlike Related (arrived a) place r.agrees.canister s.waiting) result e = subst (λ w. EndsAlike (CommitsAlike Related (arrived a) place r.agrees.canister s.waiting) result (host_end kind.Update f w)) (sym world_now) c in
          let same : Same Related (update_outcome place (arrived a) result) (after_method false r.agrees.canister place now e) =
          came_update Related (arrived a) now related_now.agrees place related_now.related (ap is_answered dead_now) result e came in
          let is : enter_method limits own r.agrees.canister kind.Update false f place argument now ≡ after_method false r.agrees.canister place now e = enters_by limits own r.agrees.canister kind.Update false f place argument now e refl in
          let end : Same Related (update_outcome place (arrived a) result) (enter_method limits own r.agrees.canister kind.Update false f place argument now) = subst (Same Related (update_outcome place (arrived a) result)) (sym is) same in
          (update_outcome place (arrived a) result, (result, has, refl), end.0, end.1)

      entered_query : (body : L.method) (f : ℕ) (result : Result (Effects L)) → HasResult pays p.first_memory a.charged (entered p own a body caller argument) result
          → EndsAlike (QueriesAlike) result (host_end kind.Query f (world_of limits own r.agrees.canister caller argument false (length s.waiting)))
          → Lifted Related (λ o. (result : Result (Effects L)) × HasResult pays p.first_memory a.charged (entered p own a body caller argument) result × (o ≡ query_outcome place (arrived a) result)) (enter_method limits own r.agrees.canister kind.Query true f place argument now)
      entered_query body f result has c =
          let e : End = host_end kind.Query f (called_world limits own r.agrees.canister place argument now) in
          let came : EndsAlike (QueriesAlike) result e = subst (λ w. EndsAlike (QueriesAlike) result (host_end kind.Query f w)) (sym world_now) c in
          let same : Same Related (query_outcome place (arrived a) result) (after_method true r.agrees.canister place now e) =
          came_query Related (arrived a) now related_now place dead_now result e came in
          let is : enter_method limits own r.agrees.canister kind.Query true f place argument now ≡ after_method true r.agrees.canister place now e = enters_by limits own r.agrees.canister kind.Query true f place argument now e refl in
          let end : Same Related (query_outcome place (arrived a) result) (enter_method limits own r.agrees.canister kind.Query true f place argument now) = subst (Same Related (query_outcome place (arrived a) result)) (sym is) same in
          (query_outcome place (arrived a) result, (result, has, refl), end.0, end.1)

      abbrev QueryDoes : L.method → ℕ → Type 0
      QueryDoes body f = (asked : Bool) (caller argument : List ℕ) → Given (event.Call asked name caller argument)
          → (r' : Result (Effects L)) × HasResult pays p.first_memory a.charged (entered p own a body caller argument) r'
          × EndsAlike (QueriesAlike) r' (host_end kind.Query f (world_of limits own r.agrees.canister caller argument false (length s.waiting)))

      abbrev UpdateDoes : L.method → ℕ → Type 0
      UpdateDoes body f = (caller argument : List ℕ) → Given (event.Call false name caller argument)
          → (r' : Result (Effects L)) × HasResult pays p.first_memory a.charged (entered p own a body caller argument) r'
          × EndsAlike (CommitsAlike Related (arrived a) place r.agrees.canister s.waiting) r' (host_end kind.Update f (world_of limits own r.agrees.canister caller argument false (length s.waiting)))

      query_lift : (body : Option L.method) (f : Option ℕ) → SameMethod QueryDoes body f → Lifted Related (λ o. ComesTo pays (query_course p own a body caller argument) o) (enter_query limits own r.agrees.canister f place argument now)
      query_lift None None does = no_method a now related_now
      query_lift None (Some f) does = absurd does
      query_lift (Some body) None does = absurd does
      query_lift (Some body) (Some f) does = let x = does asked caller argument given in entered_query body f x.0 x.1 x.2

      update_lift : Given (event.Call false name caller argument) → (body query : Option L.method) (f g : Option ℕ) → SameMethod UpdateDoes body f → SameMethod QueryDoes query g
          → Lifted Related (λ o. ComesTo pays (update_course p own a body query caller argument) o) (enter_update limits own r.agrees.canister f g place argument now)
      update_lift came None query None g does also = query_lift query g also
      update_lift came None query (Some f) g does also = absurd does
      update_lift came (Some body) query None g does also = absurd does
      update_lift came (Some body) query (Some f) g does also = let x = does caller argument came in entered_update body f x.0 x.1 x.2

      call_found : (t : Bool) → Given (event.Call t name caller argument) → Lifted Related (λ o. ComesTo pays (call_course p own a t name caller argument) o) (enter_call limits own t name argument (Some r.agrees.canister) place now)
      call_found true came = query_lift (p.query name) (query_entry r.agrees.canister.code name) (simulates.queries a r.agrees.canister s.waiting at_now name)
      call_found false came = update_lift came (p.update name) (p.query name) (update_entry r.agrees.canister.code name) (query_entry r.agrees.canister.code name)
          (simulates.updates a r.agrees.canister s.waiting at_now name) (simulates.queries a r.agrees.canister s.waiting at_now name)

      pub call_lift : Lifted Related (λ o. ComesTo pays (call_course p own a asked name caller argument) o) (incoming limits own asked name caller argument s)
      call_lift =
          subst (λ c. Lifted Related (λ o. ComesTo pays (call_course p own a asked name caller argument) o) (enter_call limits own asked name argument c (length s.incoming) now)) (sym r.agrees.there)
          (subst (λ k. Lifted Related (λ o. ComesTo pays (call_course p own a asked name caller argument) o) (enter_call limits own asked name argument (Some r.agrees.canister) k now)) place_is (call_found asked given))
