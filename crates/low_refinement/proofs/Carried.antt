-- What a low module simulates, the module that it becomes refines.
use Rattle.std.proofs.Common.{◌≡◌, ℕ, List, [], ◌++◌, length, Option, Some, None, Bool, false, refl, sym, ap, ◌∙◌, subst, codes}
use Rattle.mo_num.specs.PrincipalText.{IsPrincipal}
use Rattle.mo_types.specs.Calls.{Call}
use Rattle.play_script.specs.declared.event.Event.{Event}
use Rattle.play_script.specs.declared.event.Event.TheVariants as event
use Rattle.wasm_tree.specs.Exec.{ExecutionLimits, Store}
use Rattle.ic0_world.specs.declared.kind.ExecutionKind.{ExecutionKind}
use Rattle.ic0_world.specs.declared.kind.ExecutionKind.TheVariants as kind
use Rattle.ic0_world.specs.declared.world.World.{World}
use Rattle.canister_host.specs.State.{Canister}
use Rattle.canister_host.specs.declared.calls.OpenCall.{OpenCall}
use Rattle.canister_host.specs.Entries.{exported, update_entry, query_entry}
use Rattle.canister_host.specs.Execution.{End, Finishes, Breaks, execution, left_by}
use Rattle.canister_host.specs.HostRun.{entry_of, callback_end, callback_kind, callback_of, received_world}
use Rattle.mo_actor.specs.Languages.{Language}
use Rattle.mo_actor.specs.Programs.{Effects, Program}
use Rattle.mo_actor.specs.Measures.{Measure}
use Rattle.mo_actor.specs.Results.{Result, Completed, Trapped, Exhausted, HasResult}
use Rattle.mo_actor.specs.States.{Actor, activation_at, is_answered}
use Rattle.mo_actor.specs.IncomingCalls.{arrived, entered}
use Rattle.mo_actor.specs.CallAnswers.{Received, received_value, filled}
use Rattle.mo_actor.specs.Passes.{CommittedState, fresh_state}
use Rattle.actor_refinement.specs.Limits.{IsWithin}
use Rattle.actor_refinement.specs.Ends.{EndsAlike, save_end}
use Rattle.actor_refinement.specs.Refines.{Refines}
use Rattle.actor_refinement.specs.Simulates.{world_of, host_received, others_open, SameMethod, QueriesAlike, answer_end, StatesRelate, CommitsAlike, CleansUp, Simulates}
use Rattle.actor_refinement.proofs.Lifting.{refines}
use Rattle.low_ir.specs.Tree.{Module}
use Rattle.low_ir.specs.Formed.{ModuleIsFormed}
use Rattle.low_execution.specs.Execution.{low_execution}
use Rattle.low_execution.specs.Entries.{low_exported}
use Rattle.wasm_emit.proofs.Compile.{emitted_keep}
use Rattle.low_refinement.specs.LowEnds.{Contents, contents_left, low_world}
use Rattle.low_refinement.specs.LowSimulates.{LowStatesRelate, LowCommitsAlike, low_answer_end, LowCleansUp, LowSimulates}
use Rattle.low_refinement.proofs.Ended.{to_wasm, canister, method_end, start_is, save_is, callback_is}

abbrev pub contents_of : Canister → Contents
contents_of c = record { instance = c.instance; stable = c.stable }

-- What an end leaves may be said in other words, and ends that are the same leave the same.
leaves : {A : Type 0} (P Q : ℕ → A → Store World → Type 0) → ((weight : ℕ) (a : A) (store : Store World) → P weight a store → Q weight a store) → (r : Result A) (e : End) → EndsAlike P r e → EndsAlike Q r e
leaves P Q f (Completed prints weight a) (Finishes store) h = (h.0, f weight a store h.1)
leaves P Q f (Completed prints weight a) (Breaks cause shown) h = h
leaves P Q f (Trapped prints text) (Finishes store) h = h
leaves P Q f (Trapped prints text) (Breaks cause shown) h = h
leaves P Q f (Exhausted prints limit) (Finishes store) h = h
leaves P Q f (Exhausted prints limit) (Breaks cause shown) h = h

ends_as : {A : Type 0} (P Q : ℕ → A → Store World → Type 0) → ((weight : ℕ) (a : A) (store : Store World) → P weight a store → Q weight a store) → (r : Result A) (d e : End) → d ≡ e → EndsAlike P r e → EndsAlike Q r d
ends_as P Q f r d e same h = subst (λ d. EndsAlike Q r d) (sym same) (leaves P Q f r e h)

same_method : {A : Type 0} (P Q : A → ℕ → Type 0) (method : Option A) (function : Option ℕ) → ((a : A) (f : ℕ) → function ≡ Some f → P a f → Q a f) → SameMethod P method function → SameMethod Q method function
same_method P Q None None h s = s
same_method P Q None (Some f) h s = s
same_method P Q (Some a) None h s = s
same_method P Q (Some a) (Some f) h s = h a f refl s

module _ {L : Language} (Related : (charged : ℕ) → CommittedState L → Contents → List OpenCall → Type 0) (limits : ExecutionLimits) (own : List ℕ) (m : Module) (formed : ModuleIsFormed m) where
  -- The canister runs the emitted module, and its contents are related.
  abbrev pub CodeAnd : (charged : ℕ) → CommittedState L → Canister → List OpenCall → Type 0
  CodeAnd charged state c waiting = (c.code ≡ to_wasm m) × Related charged state (contents_of c) waiting

  -- A canister that runs it is that of its contents.
  is_canister : (c : Canister) → c.code ≡ to_wasm m → c ≡ canister limits m formed (contents_of c)
  is_canister c e = λ i. record { code = e i; instance = c.instance; stable = c.stable }

  relates : (a : Actor L) (c : Canister) (waiting : List OpenCall) → StatesRelate CodeAnd a c waiting → LowStatesRelate Related limits own m a (contents_of c) waiting
  relates a c waiting s = record { calls = s.calls; related = s.related.1 }

  commits : (a : Actor L) (owner : ℕ) (c : Canister) (waiting : List OpenCall) → c.code ≡ to_wasm m → (weight : ℕ) (effects : Effects L) (store : Store World) → LowCommitsAlike Related limits own m a owner waiting weight effects store → CommitsAlike CodeAnd a owner c waiting weight effects store
  commits a owner c waiting e weight effects store h = record { calls = h.calls; answer = h.answer; related = (e, h.related) }

  method_is : (c : Canister) → c.code ≡ to_wasm m → (k : ExecutionKind) (name : List ℕ) (f : ℕ) (w : World) → low_exported m name ≡ Some f → execution limits c.code c.instance (entry_of k (Some f) []) w ≡ low_execution limits m c.instance (entry_of k (Some f) []) w
  method_is c e k name f w found = ap (λ code. execution limits code c.instance (entry_of k (Some f) []) w) e ∙ method_end limits m formed c.instance k name f w found

  -- The world of a callback, and of a cleanup, before what was received.
  abbrev owner_world : Actor L → Contents → List OpenCall → ℕ → Call L.results L.value → List ℕ → World
  owner_world a c waiting number call caller = low_world limits own c.stable caller [] (is_answered (activation_at a.activations call.owner)) (length (others_open number waiting))

  answer_is : (a : Actor L) (c : Canister) (waiting : List OpenCall) → c.code ≡ to_wasm m → (number : ℕ) (call : Call L.results L.value) (o : OpenCall) (received : Received) (caller : List ℕ)
      → answer_end limits own a c waiting number call o received caller ≡ low_answer_end Related limits own m a (contents_of c) waiting number call o received caller
  answer_is a c waiting e number call o received caller = ap (λ c. answer_end limits own a c waiting number call o received caller) (is_canister c e)
      ∙ callback_is limits m formed (contents_of c) (callback_kind (host_received received)) (callback_of (host_received received) o.call) (received_world (host_received received) (owner_world a (contents_of c) waiting number call caller))

  cleans : (a : Actor L) (c : Canister) (waiting : List OpenCall) → c.code ≡ to_wasm m → (number : ℕ) (call : Call L.results L.value) (o : OpenCall) (caller : List ℕ) → LowCleansUp Related limits own m a (contents_of c) waiting number call o caller → CleansUp CodeAnd limits own a c waiting number call o caller
  cleans a c waiting e number call o caller h = record {
    callback = h.callback;
    set = h.set;
    store = h.store;
    ends =
        ap (λ (d : Canister). callback_end limits d kind.Cleanup h.callback (owner_world a (contents_of c) waiting number call caller)) (is_canister c e)
        ∙ callback_is limits m formed (contents_of c) kind.Cleanup h.callback (owner_world a (contents_of c) waiting number call caller) ∙ h.ends;
    quiet = h.quiet;
    related = (e, h.related);
  }

  entered_at : (c : Canister) → c.code ≡ to_wasm m → (name : List ℕ) → exported c.code name ≡ low_exported m name
  entered_at c e name = ap (λ code. exported code name) e ∙ (emitted_keep m formed).exports name

  -- What is asked of a method and the function that the host enters for it, by either meaning.
  module _ (Given : Event → Type 0) (pays : Measure) (p : Program L) (a : Actor L) where
    abbrev LowUpdates : Contents → List OpenCall → List ℕ → L.method → ℕ → Type 0
    LowUpdates c waiting name method function =
        (caller argument : List ℕ) → Given (event.Call false name caller argument)
        → (r : Result (Effects L)) × HasResult pays p.first_memory a.charged (entered p own a method caller argument) r
        × EndsAlike (LowCommitsAlike Related limits own m (arrived a) (length a.activations) waiting) r
        (low_execution limits m c.instance (entry_of kind.Update (Some function) []) (low_world limits own c.stable caller argument false (length waiting)))

    abbrev Updates : Canister → List OpenCall → List ℕ → L.method → ℕ → Type 0
    Updates c waiting name method function =
        (caller argument : List ℕ) → Given (event.Call false name caller argument)
        → (r : Result (Effects L)) × HasResult pays p.first_memory a.charged (entered p own a method caller argument) r
        × EndsAlike (CommitsAlike CodeAnd (arrived a) (length a.activations) c waiting) r
        (execution limits c.code c.instance (entry_of kind.Update (Some function) []) (world_of limits own c caller argument false (length waiting)))

    abbrev LowQueries : Contents → List OpenCall → List ℕ → L.method → ℕ → Type 0
    LowQueries c waiting name method function =
        (query : Bool) (caller argument : List ℕ) → Given (event.Call query name caller argument)
        → (r : Result (Effects L)) × HasResult pays p.first_memory a.charged (entered p own a method caller argument) r
        × EndsAlike QueriesAlike r (low_execution limits m c.instance (entry_of kind.Query (Some function) []) (low_world limits own c.stable caller argument false (length waiting)))

    abbrev Queries : Canister → List OpenCall → List ℕ → L.method → ℕ → Type 0
    Queries c waiting name method function =
        (query : Bool) (caller argument : List ℕ) → Given (event.Call query name caller argument)
        → (r : Result (Effects L)) × HasResult pays p.first_memory a.charged (entered p own a method caller argument) r
        × EndsAlike QueriesAlike r (execution limits c.code c.instance (entry_of kind.Query (Some function) []) (world_of limits own c caller argument false (length waiting)))

    updates_too : (c : Canister) (waiting : List OpenCall) → c.code ≡ to_wasm m → (name : List ℕ) → SameMethod (LowUpdates (contents_of c) waiting name) (p.update name) (low_exported m (codes "canister_update " ++ name)) → SameMethod (Updates c waiting name) (p.update name) (update_entry c.code name)
    updates_too c waiting e name h =
        subst (λ o. SameMethod (Updates c waiting name) (p.update name) o) (sym (entered_at c e (codes "canister_update " ++ name)))
        (same_method (LowUpdates (contents_of c) waiting name) (Updates c waiting name) (p.update name) (low_exported m (codes "canister_update " ++ name))
        (λ method f found h caller argument given.
        let x = h caller argument given in
        (x.0, x.1, ends_as (LowCommitsAlike Related limits own m (arrived a) (length a.activations) waiting) (CommitsAlike CodeAnd (arrived a) (length a.activations) c waiting) (commits (arrived a) (length a.activations) c waiting e) x.0 _ _ (method_is c e kind.Update (codes "canister_update " ++ name) f (world_of limits own c caller argument false (length waiting)) found) x.2))
        h)

    queries_too : (c : Canister) (waiting : List OpenCall) → c.code ≡ to_wasm m → (name : List ℕ) → SameMethod (LowQueries (contents_of c) waiting name) (p.query name) (low_exported m (codes "canister_query " ++ name)) → SameMethod (Queries c waiting name) (p.query name) (query_entry c.code name)
    queries_too c waiting e name h =
        subst (λ o. SameMethod (Queries c waiting name) (p.query name) o) (sym (entered_at c e (codes "canister_query " ++ name)))
        (same_method (LowQueries (contents_of c) waiting name) (Queries c waiting name) (p.query name) (low_exported m (codes "canister_query " ++ name))
        (λ method f found h query caller argument given.
        let x = h query caller argument given in
        (x.0, x.1, ends_as QueriesAlike QueriesAlike (λ weight effects store h. h) x.0 _ _ (method_is c e kind.Query (codes "canister_query " ++ name) f (world_of limits own c caller argument false (length waiting)) found) x.2))
        h)

  -- What a start leaves.
  abbrev LowLeft : ℕ → L.store → Store World → Type 0
  LowLeft weight store left = (made : ℕ) → Related weight (fresh_state store made) (contents_left left) []

  abbrev Left : ℕ → L.store → Store World → Type 0
  Left weight store left = (made : ℕ) → CodeAnd weight (fresh_state store made) (left_by (to_wasm m) left) []

  pub carried : (Stable : L.kept → List ℕ → Type 0) (Given : Event → Type 0) (pays : Measure) (p : Program L) → LowSimulates Related limits own m Stable Given pays p → Simulates CodeAnd Stable Given pays limits own p (to_wasm m)
  carried Stable Given pays p s = record {
    installs =
        let h = s.installs in
        (h.0, h.1, ends_as LowLeft Left (λ weight store left f made. (refl, f made)) h.0 _ _ (start_is limits m formed own kind.Init (codes "canister_init") []) h.2);
    upgrades = λ number given kept stable keeps.
        let h = s.upgrades number given kept stable keeps in
        (h.0, h.1, ends_as LowLeft Left (λ weight store left f made. (refl, f made)) h.0 _ _ (start_is limits m formed own kind.PostUpgrade (codes "canister_post_upgrade") stable) h.2);
    updates = λ a c waiting r name. updates_too Given pays p a c waiting r.related.0 name (s.updates a (contents_of c) waiting (relates a c waiting r) name);
    queries = λ a c waiting r name. queries_too Given pays p a c waiting r.related.0 name (s.queries a (contents_of c) waiting (relates a c waiting r) name);
    answers = λ a c waiting r number call at opened o there received given caller.
        let x = s.answers a (contents_of c) waiting (relates a c waiting r) number call at opened o there received given caller in
        let same = answer_is a c waiting r.related.0 number call o received caller in
        let after : Actor L = filled number (received_value p own a call received) a in (
          x.0,
          x.1,
          ends_as (LowCommitsAlike Related limits own m after call.owner (others_open number waiting)) (CommitsAlike CodeAnd after call.owner c (others_open number waiting)) (commits after call.owner c (others_open number waiting) r.related.0) x.0 _ _ same x.2,
          λ cause prints broke. cleans a c waiting r.related.0 number call o caller (x.3 cause prints (sym same ∙ broke)),
        );
    saves = λ number given a c waiting r.
        let h = s.saves number given a (contents_of c) waiting (relates a c waiting r) in
        (h.0, h.1, ends_as (λ weight kept store. Stable kept store.world.stable.bytes) (λ weight kept store. Stable kept store.world.stable.bytes) (λ weight kept store h. h) h.0 _ _ (ap (save_end limits own) (is_canister c r.related.0) ∙ save_is limits m formed own (contents_of c)) h.2);
  }

-- From single executions of a low module to whole lives of the module that it becomes.
pub low_refines : {L : Language} (Related : ExecutionLimits → List ℕ → (charged : ℕ) → CommittedState L → Contents → List OpenCall → Type 0) (Stable : L.kept → List ℕ → Type 0) (Given : Event → Type 0) (pays : ExecutionLimits → Measure) (p : Program L) (m : Module) → ModuleIsFormed m
    → ((limits : ExecutionLimits) → IsWithin limits → (own : List ℕ) → IsPrincipal own → LowSimulates (Related limits own) limits own m Stable Given (pays limits) p) → Refines Stable Given pays p (to_wasm m)
low_refines Related Stable Given pays p m formed s =
    refines (λ limits own. CodeAnd (Related limits own) limits own m formed) Stable Given pays p (to_wasm m) (λ limits within own self. carried (Related limits own) limits own m formed Stable Given (pays limits) p (s limits within own self))
