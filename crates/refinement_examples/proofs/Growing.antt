-- The module that grows its stable memory refines its program, upgrades included.
use Rattle.std.proofs.Common.{◌≡◌, ℕ, ◌+◌, ◌/◌, Bool, true, false, cond, List, [], ◌++◌, length, length-append, Option, Some, None, refl, sym, ap, ◌∙◌, subst, arith, codes, nat_le, nat_eq, find}
use Rattle.std.specs.Str.{bytes_eq}
use Rattle.mo_types.specs.Calls.{open_count}
use Rattle.play_script.specs.declared.event.Event.TheVariants as event
use Rattle.play_script.specs.declared.item.Word.TheVariants as word
use Rattle.page_store.specs.Pages.{zero_pages}
use Rattle.wasm_tree.specs.Exec.{ExecutionLimits, Store}
use Rattle.ic0_world.specs.declared.kind.ExecutionKind.TheVariants as kind
use Rattle.ic0_world.specs.declared.world.World.{World}
use Rattle.canister_host.specs.State.{Canister}
use Rattle.canister_host.specs.declared.calls.OpenCall.{OpenCall}
use Rattle.canister_host.specs.Entries.{update_entry, query_entry}
use Rattle.canister_host.specs.Execution.{Finishes, execution, store_of, left_by}
use Rattle.canister_host.specs.HostRun.{quiet_world, entry_of}
use Rattle.mo_actor.specs.Programs.{Answers, Replies, Effects, Program}
use Rattle.mo_actor.specs.Measures.{Measure}
use Rattle.mo_actor.specs.Results.{Result, Completed, Exhausted, HasResult}
use Rattle.mo_actor.specs.States.{Actor}
use Rattle.mo_actor.specs.IncomingCalls.{arrived}
use Rattle.mo_actor.specs.IncomingCalls.{entered as begins}
use Rattle.mo_actor.specs.Upgrades.{saving}
use Rattle.mo_actor.specs.Passes.{CommittedState, fresh_state}
use Rattle.actor_refinement.specs.Limits.{IsWithin}
use Rattle.actor_refinement.specs.Ends.{EndsAlike, install_end, upgrade_end, save_end}
use Rattle.actor_refinement.specs.Laws.{any_exhaustion}
use Rattle.actor_refinement.specs.Refines.{Keeps}
use Rattle.actor_refinement.specs.Simulates.{world_of, SameMethod, QueriesAlike, StatesRelate, CommitsAlike, Simulates}
use Rattle.actor_refinement.proofs.Counts.{count_waiting}
use Rattle.actor_refinement.proofs.Lifting.{refines}
use Rattle.refinement_examples.specs.CallingModule.{Nothing}
use Rattle.refinement_examples.specs.GrowingModule.{growing_module, growing, growing_program, HasPages, AnyEvent, GrowingModuleRefines}
use Rattle.refinement_examples.proofs.GrowingExecutions.{first, on, loads, page_long, grown_ends, refused_ends}

-- The canister stays but for its stable memory, which has so many pages; no call is open.
pub record Stays (charged : ℕ) (state : CommittedState growing) (c : Canister) (waiting : List OpenCall) : Type 0 where
  pub stable : List ℕ
  pub stays : c ≡ on stable
  pub pages : HasPages state.store stable
  pub none : waiting ≡ []

module _ (limits : ExecutionLimits) (own : List ℕ) (within : IsWithin limits) where
  abbrev p : Program growing
  p = growing_program

  abbrev pays : Measure
  pays e = any_exhaustion limits e

  -- ---- the method

  abbrev grows_to : ℕ → Effects growing
  grows_to pages = record { store = pages; calls = []; ending = Answers (Replies []) }

  one_page_more : (pages : ℕ) (stable : List ℕ) → HasPages pages stable → HasPages (pages + 1) (stable ++ zero_pages 1)
  one_page_more pages stable h = omega (arith, h, length-append stable (zero_pages 1), page_long)

  abbrev Goes : Actor growing → Canister → List OpenCall → List ℕ → List ℕ → Type 0
  Goes a c waiting caller argument =
      (r : Result (Effects growing)) × HasResult pays 0 a.charged (begins p own a tt caller argument) r
      × EndsAlike (CommitsAlike Stays (arrived a) (length a.activations) c waiting) r (execution limits c.code c.instance (entry_of kind.Update (Some 2) []) (world_of limits own c caller argument false (length waiting)))

  goes : (a : Actor growing) (stable caller argument : List ℕ) → HasPages a.store stable → (t : Bool) → nat_le (length stable / 65536 + 1) limits.pages ≡ t → Goes a (on stable) [] caller argument
  goes a stable caller argument h true e = (
    Completed [] 0 (grows_to (a.store + 1)),
    (0, 0, refl),
    subst (EndsAlike (CommitsAlike Stays (arrived a) (length a.activations) (on stable) []) (Completed [] 0 (grows_to (a.store + 1)))) (sym (grown_ends limits within own stable caller argument e))
        (refl, record { calls = tt; answer = refl; related = record { stable = stable ++ zero_pages 1; stays = refl; pages = one_page_more a.store stable h; none = refl } }),
  )
  goes a stable caller argument h false e = (
    Exhausted [] word.Heap,
    (0, refl, ([], refl), tt),
    subst (EndsAlike (CommitsAlike Stays (arrived a) (length a.activations) (on stable) []) (Exhausted [] word.Heap)) (sym (refused_ends limits within own stable caller argument e)) (refl, refl),
  )

  abbrev UpdateDoes : Actor growing → Canister → List OpenCall → List ℕ → Nothing → ℕ → Type 0
  UpdateDoes a c waiting name method f = (caller argument : List ℕ) → AnyEvent (event.Call false name caller argument)
      → (r : Result (Effects growing)) × HasResult pays 0 a.charged (begins p own a method caller argument) r
      × EndsAlike (CommitsAlike Stays (arrived a) (length a.activations) c waiting) r (execution limits c.code c.instance (entry_of kind.Update (Some f) []) (world_of limits own c caller argument false (length waiting)))

  update_does : (a : Actor growing) (stable name : List ℕ) → HasPages a.store stable → (t : Bool) → bytes_eq (codes "grow") name ≡ t → SameMethod (UpdateDoes a (on stable) [] name) (cond t (Some tt) None) (update_entry growing_module name)
  update_does a stable name h false e =
      let is : update_entry growing_module name ≡ None = rw e refl in
      subst (SameMethod (UpdateDoes a (on stable) [] name) None) (sym is) tt
  update_does a stable name h true e =
      let is : update_entry growing_module name ≡ Some 2 = rw e refl in
      let does : UpdateDoes a (on stable) [] name tt 2 = λ caller argument given. goes a stable caller argument h (nat_le (length stable / 65536 + 1) limits.pages) refl in
      subst (SameMethod (UpdateDoes a (on stable) [] name) (Some tt)) (sym is) does

  update_at : (a : Actor growing) (c : Canister) (waiting : List OpenCall) (name : List ℕ) → StatesRelate Stays a c waiting → SameMethod (UpdateDoes a c waiting name) (p.update name) (update_entry c.code name)
  update_at a c waiting name at =
      let r = at.related in
      subst (λ c. SameMethod (UpdateDoes a c waiting name) (p.update name) (update_entry c.code name)) (sym r.stays)
      (subst (λ waiting. SameMethod (UpdateDoes a (on r.stable) waiting name) (p.update name) (update_entry growing_module name)) (sym r.none)
      (update_does a r.stable name r.pages (bytes_eq (codes "grow") name) refl))

  -- ---- installation and upgrade

  installs : install_end limits own growing_module ≡ Finishes (store_of first (quiet_world limits own []))
  installs = rw (loads limits) refl

  starts_on : (stable : List ℕ) → upgrade_end limits own growing_module stable ≡ Finishes (store_of first (quiet_world limits own stable))
  starts_on stable = rw (loads limits) refl

  abbrev Starts : ℕ → ℕ → Store World → Type 0
  Starts weight store left = (made : ℕ) → Stays weight (fresh_state store made) (left_by growing_module left) []

  abbrev Saves : ℕ → ℕ → Store World → Type 0
  Saves weight kept store = HasPages kept store.world.stable.bytes

  started : (pages : ℕ) (stable : List ℕ) → HasPages pages stable → EndsAlike Starts (Completed [] 0 pages) (upgrade_end limits own growing_module stable)
  started pages stable h = subst (EndsAlike Starts (Completed [] 0 pages)) (sym (starts_on stable)) (refl, λ made. record { stable = stable; stays = refl; pages = h; none = refl })

  upgraded : (kept : Option ℕ) (stable : List ℕ) → Keeps HasPages kept stable
      → (r : Result ℕ) × HasResult pays 0 0 (p.start own kept) r × EndsAlike Starts r (upgrade_end limits own growing_module stable)
  upgraded None stable h = (Completed [] 0 0, (0, 0, refl), started 0 stable (ap length h))
  upgraded (Some pages) stable h = (Completed [] 0 pages, (0, 0, refl), started pages stable h)

  saved : (a : Actor growing) (c : Canister) (waiting : List OpenCall) → StatesRelate Stays a c waiting → (r : Result ℕ) × HasResult pays 0 a.charged (saving p own a) r × EndsAlike Saves r (save_end limits own c)
  saved a c waiting at =
      let r = at.related in
      let closed : open_count a.table ≡ 0 = count_waiting a.table.first a.table.calls waiting at.calls ∙ ap length r.none in
      let has : HasResult pays 0 a.charged (saving p own a) (Completed [] 0 a.store) = rw closed (0, 0, refl) in
      (Completed [] 0 a.store, has, subst (λ c. EndsAlike Saves (Completed [] 0 a.store) (save_end limits own c)) (sym r.stays) (refl, r.pages))

  simulates : Simulates Stays HasPages AnyEvent pays limits own p growing_module
  simulates = record {
    installs = (Completed [] 0 0, (0, 0, refl), subst (EndsAlike Starts (Completed [] 0 0)) (sym installs) (refl, λ made. record { stable = []; stays = refl; pages = refl; none = refl }));
    upgrades = λ number given kept stable keeps. upgraded kept stable keeps;
    updates = λ a c waiting at name. update_at a c waiting name at;
    queries = λ a c waiting at name. subst (λ c. SameMethod (λ method f. (query : Bool) (caller argument : List ℕ) → AnyEvent (event.Call query name caller argument)
        → (r : Result (Effects growing)) × HasResult pays 0 a.charged (begins p own a method caller argument) r
        × EndsAlike QueriesAlike r (execution limits c.code c.instance (entry_of kind.Query (Some f) []) (world_of limits own c caller argument false (length waiting)))) None (query_entry c.code name)) (sym at.related.stays) tt;
    answers = λ a c waiting at number call found open_now o finds received given caller.
        let none : None ≡ Some o = ap (find (λ w. nat_eq w.number number)) (sym at.related.none) ∙ finds in
        absurd (cc);
    saves = λ number given a c waiting at. saved a c waiting at;
  }

pub growing_module_refines : GrowingModuleRefines
growing_module_refines = refines (λ limits own. Stays) HasPages AnyEvent any_exhaustion growing_program growing_module (λ limits within own self. simulates limits own within)
