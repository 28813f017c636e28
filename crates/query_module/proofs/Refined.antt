-- The module of constant queries comes out as their program does.
use Rattle.std.proofs.Common.{◌≡◌, ℕ, suc, ◌+◌, ◌*◌, ◌≤◌, Bool, true, false, cond, List, [], ◌∷◌, ◌++◌, length, Option, Some, None, refl, sym, ap, ◌∙◌, subst, arith, codes, find, nat_eq, slice_get}
use Rattle.std.specs.Bool.{⊤}
use Rattle.std.specs.List.{concat}
use Rattle.std.specs.Str.{bytes_eq}
use Rattle.query_source.specs.declared.query.Method.{Method}
use Rattle.play_script.specs.declared.event.Event.TheVariants as event
use Rattle.mo_types.specs.Calls.{open_count}
use Rattle.wasm_tree.specs.declared.module_parts.ExportKind.TheVariants as export
use Rattle.wasm_tree.specs.declared.module_parts.Export.{Export}
use Rattle.wasm_tree.specs.declared.module_parts.Module.{Module}
use Rattle.wasm_tree.specs.Exec.{ExecutionLimits, Store}
use Rattle.ic0_world.specs.declared.kind.ExecutionKind.{ExecutionKind}
use Rattle.ic0_world.specs.declared.kind.ExecutionKind.TheVariants as kind
use Rattle.ic0_world.specs.Allowed.{answers}
use Rattle.ic0_world.specs.declared.world.World.{World}
use Rattle.canister_host.specs.State.{Canister}
use Rattle.canister_host.specs.declared.calls.OpenCall.{OpenCall}
use Rattle.canister_host.specs.Entries.{function_in, update_entry, query_entry}
use Rattle.canister_host.specs.Execution.{Finishes, execution, store_of, left_by}
use Rattle.canister_host.specs.HostRun.{quiet_world, entry_of}
use Rattle.mo_actor.specs.Programs.{Replies, Answers, Effects, Program}
use Rattle.mo_actor.specs.Measures.{Measure}
use Rattle.mo_actor.specs.Results.{Result, Completed, HasResult}
use Rattle.mo_actor.specs.States.{Actor}
use Rattle.mo_actor.specs.IncomingCalls.{arrived}
use Rattle.mo_actor.specs.IncomingCalls.{entered as begins}
use Rattle.mo_actor.specs.Upgrades.{saving}
use Rattle.mo_actor.specs.Passes.{CommittedState, fresh_state}
use Rattle.actor_refinement.specs.Limits.{IsWithin}
use Rattle.actor_refinement.specs.Ends.{EndsAlike, install_end, upgrade_end, save_end}
use Rattle.actor_refinement.specs.Laws.{no_exhaustion}
use Rattle.actor_refinement.specs.Simulates.{world_of, SameMethod, QueriesAlike, StatesRelate, CommitsAlike, Simulates}
use Rattle.actor_refinement.proofs.Counts.{count_waiting}
use Rattle.actor_refinement.proofs.Lifting.{refines}
use Rattle.query_module.specs.Message.{empty_message}
use Rattle.query_module.specs.Answers.{AreQueries}
use Rattle.query_module.specs.Tree.{AreReplies, functions_from, exports_from, query_exports, query_export, resume_export, query_tree, tree_of_parts, query_function}
use Rattle.query_module.specs.Program.{Nothing, queries, query_program, reply_at, IsAsked, AnyMemory, QueryRefines}
use Rattle.query_module.proofs.Replies.{joined_short}
use Rattle.query_module.proofs.Runs.{IsPart, MayAnswer, replied, of_kind, execution_replies}
use Rattle.query_module.proofs.Loads.{first_memory, first_instance, loads, function_at, part_inside, part_short, front_short, part_is}
use Rattle.query_module.proofs.Finds.{query_named, resume_found, no_update, no_init, no_pre_upgrade, no_post_upgrade}
use Rattle.query_module.proofs.Calls.{entered}
use Rattle.query_module.proofs.Places.{Placed, placed}

-- The module as it was installed, over this stable memory.
abbrev installed_on : List Method → List (List ℕ) → List ℕ → Canister
installed_on methods replies stable = record { code = query_tree methods replies; instance = first_instance (concat replies); stable = stable }

-- The canister stays as it was installed, and no call is open.
abbrev Stays : List Method → List (List ℕ) → (charged : ℕ) → CommittedState queries → Canister → List OpenCall → Type 0
Stays methods replies charged state c waiting = (stable : List ℕ) × (c ≡ installed_on methods replies stable) × (waiting ≡ [])

module _ (methods : List Method) (replies : List (List ℕ)) (all : AreReplies methods replies) (limits : ExecutionLimits) (own : List ℕ) (within : IsWithin limits) (short : length (concat replies) ≤ 65536) where
  abbrev tree : Module
  tree = query_tree methods replies

  abbrev program : Program queries
  program = query_program methods all.numbers

  abbrev pays : Measure
  pays e = no_exhaustion limits e

  abbrev Related : (charged : ℕ) → CommittedState queries → Canister → List OpenCall → Type 0
  Related charged state c waiting = Stays methods replies charged state c waiting

  pub record Stands (before : List (List ℕ)) (reply : List ℕ) : Type 0 where
    pub after : List (List ℕ)
    pub replies_are : replies ≡ before ++ reply ∷ after

  abbrev world : List ℕ → List ℕ → List ℕ → World
  world stable caller argument = world_of limits own (installed_on methods replies stable) caller argument false 0

  -- The function behind these others replies with its reply.
  replying : (before : List (List ℕ)) (reply : List ℕ) → Stands before reply → (k : ExecutionKind) → answers k ≡ true → (stable caller argument : List ℕ)
      → execution limits tree (first_instance (concat replies)) (entry_of k (Some (suc (suc (length before)))) []) (world stable caller argument)
      ≡ Finishes (store_of (first_instance (concat replies)) (replied (of_kind k (world stable caller argument)) reply))
  replying before reply s k allowed stable caller argument =
      let rs = before ++ reply ∷ s.after in
      let few : length (concat rs) ≤ 65536 = subst (λ rs. length (concat rs) ≤ 65536) s.replies_are short in
      let part : IsPart (first_memory (concat rs)) (0 + length (concat before)) (length reply) = record {
        inside = part_inside before reply s.after;
        low = omega (arith, few, front_short before reply s.after);
        short = omega (arith, few, part_short before reply s.after);
      } in
      let may : MayAnswer (of_kind k (world stable caller argument)) = record { allowed = allowed; unanswered = refl; no_data = refl } in
      subst (λ rs. execution limits (tree_of_parts (functions_from 0 rs) (query_exports methods) (concat rs)) (first_instance (concat rs)) (entry_of k (Some (suc (suc (length before)))) []) (world stable caller argument)
      ≡ Finishes (store_of (first_instance (concat rs)) (replied (of_kind k (world stable caller argument)) reply))) (sym s.replies_are)
      (execution_replies (functions_from 0 rs) (query_exports methods) (concat rs) limits (first_instance (concat rs)) k (world stable caller argument) (length before) (0 + length (concat before)) (length reply)
      within (function_at before reply s.after 0) may part
      ∙ ap (λ r. Finishes (store_of (first_instance (concat rs)) (replied (of_kind k (world stable caller argument)) r))) (part_is before reply s.after))

  abbrev effects_of : List ℕ → Effects queries
  effects_of reply = record { store = tt; calls = []; ending = Answers (Replies reply) }

  has : (a : Actor queries) (reply caller argument : List ℕ) → argument ≡ empty_message → HasResult pays 0 a.charged (begins program own a reply caller argument) (Completed [] 0 (effects_of reply))
  has a reply caller argument empty =
      subst (λ arg. HasResult pays 0 a.charged (begins program own a reply caller arg) (Completed [] 0 (effects_of reply))) (sym empty) (0, 0, refl)

  entry_at : (before : List (List ℕ)) (reply name : List ℕ) → Stands before reply → function_in tree (Some (record { name = name; kind = export.Function (suc (suc (length before))) })) ≡ Some (suc (suc (length before)))
  entry_at before reply name s =
      entered (functions_from 0 replies) (query_exports methods) (concat replies) name (length before) (0 + length (concat before)) (length reply)
      (subst (λ rs. slice_get (functions_from 0 rs) (length before) ≡ Some (query_function (0 + length (concat before)) (length reply))) (sym s.replies_are) (function_at before reply s.after 0))

  -- ---- queries

  abbrev QueryDoes : Actor queries → List ℕ → List ℕ → List ℕ → ℕ → Type 0
  QueryDoes a name stable reply f = (query : Bool) (caller argument : List ℕ) → IsAsked (event.Call query name caller argument)
      → (r : Result (Effects queries)) × HasResult pays 0 a.charged (begins program own a reply caller argument) r
      × EndsAlike QueriesAlike r (execution limits tree (first_instance (concat replies)) (entry_of kind.Query (Some f) []) (world stable caller argument))

  query_does : (a : Actor queries) (name stable : List ℕ) (reply : Option (List ℕ)) (e : Option Export) → Placed all.numbers 3 reply e → SameMethod (QueryDoes a name stable) reply (function_in tree e)
  query_does a name stable None e p = subst (λ e. SameMethod (QueryDoes a name stable) None (function_in tree e)) (sym p) tt
  query_does a name stable (Some reply) e p =
      let before : List (List ℕ) = empty_message ∷ p.before in
      let stands : Stands before reply = record { after = p.after; replies_are = all.replies_are ∙ ap (λ rs. empty_message ∷ rs) p.numbers_are } in
      let place : 3 + length p.before ≡ suc (suc (length before)) = omega arith in
      let is : function_in tree e ≡ Some (suc (suc (length before))) =
      ap (function_in tree) (p.is ∙ ap (λ n. Some (query_export p.method n)) place) ∙ entry_at before reply (codes "canister_query " ++ p.method) stands in
      let does : QueryDoes a name stable reply (suc (suc (length before))) = λ query caller argument given. (
        Completed [] 0 (effects_of reply),
        has a reply caller argument given,
        subst (EndsAlike QueriesAlike (Completed [] 0 (effects_of reply))) (sym (replying before reply stands kind.Query refl stable caller argument)) (refl, record { none = refl; answer = refl }),
      ) in
      subst (SameMethod (QueryDoes a name stable) (Some reply)) (sym is) does

  -- ---- `__resume`

  abbrev UpdateDoes : Actor queries → List ℕ → List ℕ → List ℕ → ℕ → Type 0
  UpdateDoes a name stable reply f = (caller argument : List ℕ) → IsAsked (event.Call false name caller argument)
      → (r : Result (Effects queries)) × HasResult pays 0 a.charged (begins program own a reply caller argument) r
      × EndsAlike (CommitsAlike Related (arrived a) (length a.activations) (installed_on methods replies stable) []) r
      (execution limits tree (first_instance (concat replies)) (entry_of kind.Update (Some f) []) (world stable caller argument))

  update_does : (a : Actor queries) (name stable : List ℕ) (t : Bool) → bytes_eq (codes "__resume") name ≡ t → SameMethod (UpdateDoes a name stable) (cond t (Some empty_message) None) (update_entry tree name)
  update_does a name stable false e = subst (λ x. SameMethod (UpdateDoes a name stable) None (function_in tree x)) (sym (no_update methods name e)) tt
  update_does a name stable true e =
      let stands : Stands [] empty_message = record { after = all.numbers; replies_are = all.replies_are } in
      let is : update_entry tree name ≡ Some 2 = ap (function_in tree) (resume_found methods name e) ∙ entry_at [] empty_message resume_export.name stands in
      let does : UpdateDoes a name stable empty_message 2 = λ caller argument given. (
        Completed [] 0 (effects_of empty_message),
        has a empty_message caller argument given,
        subst (EndsAlike (CommitsAlike Related (arrived a) (length a.activations) (installed_on methods replies stable) []) (Completed [] 0 (effects_of empty_message))) (sym (replying [] empty_message stands kind.Update refl stable caller argument))
            (refl, record { calls = tt; answer = refl; related = (stable, refl, refl) }),
      ) in
      subst (SameMethod (UpdateDoes a name stable) (Some empty_message)) (sym is) does

  -- ---- installation and upgrade

  abbrev at_start : List ℕ → World
  at_start stable = quiet_world limits own stable

  installs : install_end limits own tree ≡ Finishes (store_of (first_instance (concat replies)) (at_start []))
  installs = rw (loads (functions_from 0 replies) (query_exports methods) (concat replies) limits within short, no_init methods) refl

  starts_on : (stable : List ℕ) → upgrade_end limits own tree stable ≡ Finishes (store_of (first_instance (concat replies)) (at_start stable))
  starts_on stable = rw (loads (functions_from 0 replies) (query_exports methods) (concat replies) limits within short, no_post_upgrade methods) refl

  saves_on : (stable : List ℕ) → save_end limits own (installed_on methods replies stable) ≡ Finishes (store_of (first_instance (concat replies)) (at_start stable))
  saves_on stable = rw (no_pre_upgrade methods) refl

  -- ---- all together

  abbrev UpdateAt : Actor queries → List ℕ → Canister → List OpenCall → Type 0
  UpdateAt a name c waiting = SameMethod (λ method f. (caller argument : List ℕ) → IsAsked (event.Call false name caller argument)
      → (r : Result (Effects queries)) × HasResult pays 0 a.charged (begins program own a method caller argument) r
      × EndsAlike (CommitsAlike Related (arrived a) (length a.activations) c waiting) r (execution limits c.code c.instance (entry_of kind.Update (Some f) []) (world_of limits own c caller argument false (length waiting))))
      (program.update name) (update_entry c.code name)

  update_at : (a : Actor queries) (c : Canister) (waiting : List OpenCall) → StatesRelate Related a c waiting → (name : List ℕ) → UpdateAt a name c waiting
  update_at a c waiting at name =
      subst (λ c. UpdateAt a name c waiting) (sym at.related.1) (subst (UpdateAt a name (installed_on methods replies at.related.0)) (sym at.related.2) (update_does a name at.related.0 (bytes_eq (codes "__resume") name) refl))

  abbrev QueryAt : Actor queries → List ℕ → Canister → List OpenCall → Type 0
  QueryAt a name c waiting = SameMethod (λ method f. (query : Bool) (caller argument : List ℕ) → IsAsked (event.Call query name caller argument)
      → (r : Result (Effects queries)) × HasResult pays 0 a.charged (begins program own a method caller argument) r
      × EndsAlike QueriesAlike r (execution limits c.code c.instance (entry_of kind.Query (Some f) []) (world_of limits own c caller argument false (length waiting))))
      (program.query name) (query_entry c.code name)

  query_at : (a : Actor queries) (c : Canister) (waiting : List OpenCall) → StatesRelate Related a c waiting → (name : List ℕ) → QueryAt a name c waiting
  query_at a c waiting at name =
      subst (λ c. QueryAt a name c waiting) (sym at.related.1) (subst (QueryAt a name (installed_on methods replies at.related.0)) (sym at.related.2)
      (query_does a name at.related.0 (reply_at methods all.numbers name) (query_named name (exports_from 3 methods)) (placed methods all.numbers 3 name all.are_numbers)))

  begins_on : (kept : Option Nothing) → HasResult pays 0 0 (program.start own kept) (Completed [] 0 tt)
  begins_on kept = (0, 0, refl)

  saves_now : (a : Actor queries) (c : Canister) (waiting : List OpenCall) → StatesRelate Related a c waiting → HasResult pays 0 a.charged (saving program own a) (Completed [] 0 tt)
  saves_now a c waiting at =
      let none : open_count a.table ≡ 0 = count_waiting a.table.first a.table.calls waiting at.calls ∙ ap length at.related.2 in
      rw none (0, 0, refl)

  abbrev Starts : ℕ → Nothing → Store World → Type 0
  Starts weight store left = (made : ℕ) → Related weight (fresh_state store made) (left_by tree left) []

  abbrev Saves : ℕ → Nothing → Store World → Type 0
  Saves weight kept store = ⊤

  simulates : Simulates Related AnyMemory IsAsked pays limits own program tree
  simulates = record {
    installs = (Completed [] 0 tt, begins_on None, subst (EndsAlike Starts (Completed [] 0 tt)) (sym installs) (refl, λ made. ([], refl, refl)));
    upgrades = λ number given kept stable keeps.
        (Completed [] 0 tt, begins_on kept, subst (EndsAlike Starts (Completed [] 0 tt)) (sym (starts_on stable)) (refl, λ made. (stable, refl, refl)));
    updates = λ a c waiting at name. update_at a c waiting at name;
    queries = λ a c waiting at name. query_at a c waiting at name;
    answers = λ a c waiting at number call found open_now o finds received given caller.
        let none : None ≡ Some o = ap (find (λ w. nat_eq w.number number)) (sym at.related.2) ∙ finds in
        absurd (cc);
    saves = λ number given a c waiting at. (
      Completed [] 0 tt,
      saves_now a c waiting at,
      subst (λ c. EndsAlike Saves (Completed [] 0 tt) (save_end limits own c)) (sym at.related.1)
          (subst (EndsAlike Saves (Completed [] 0 tt)) (sym (saves_on at.related.0)) (refl, tt)),
    );
  }

pub module_refines : (methods : List Method) (replies : List (List ℕ)) → AreQueries methods → (all : AreReplies methods replies) → QueryRefines (query_program methods all.numbers) (query_tree methods replies)
module_refines methods replies are all =
    refines (λ limits own. Stays methods replies) AnyMemory IsAsked no_exhaustion (query_program methods all.numbers) (query_tree methods replies)
    (λ limits within own self.
    let whole : length (concat replies) ≤ 6 + 16 * length methods = joined_short methods replies are.named all in
    simulates methods replies all limits own within (omega (arith, whole, are.few)))
