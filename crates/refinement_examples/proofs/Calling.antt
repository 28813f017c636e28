-- The module that makes calls refines its program.
use Rattle.std.proofs.Common.{◌≡◌, ℕ, suc, ◌+◌, Bool, true, false, cond, if◌then◌else◌, List, [], ◌∷◌, ◌++◌, length, map, Option, Some, None, refl, sym, ap, ◌∙◌, subst, append-nil, arith, codes, nat_lt, nat_eq, find, slice_set}
use Rattle.std.specs.List.{AllByRecursion}
use Rattle.std.specs.Str.{bytes_eq}
use Rattle.mo_types.specs.Calls.{State, Answered, Lost, Call, open_count, call_at, call_from, set_from, next_number}
use Rattle.play_script.specs.declared.event.Event.TheVariants as event
use Rattle.play_script.specs.declared.item.Word.{Word}
use Rattle.play_script.specs.declared.item.Word.TheVariants as word
use Rattle.wasm_tree.specs.Exec.{ExecutionLimits}
use Rattle.ic0_world.specs.declared.kind.ExecutionKind.TheVariants as kind
use Rattle.ic0_world.specs.declared.world.OutgoingCall.{OutgoingCall}
use Rattle.ic0_world.specs.declared.world.World.{World}
use Rattle.canister_host.specs.State.{Canister}
use Rattle.canister_host.specs.declared.calls.OpenCall.{OpenCall}
use Rattle.canister_host.specs.Entries.{update_entry, query_entry}
use Rattle.canister_host.specs.Execution.{End, Finishes, Breaks, execution, store_of, left_by}
use Rattle.canister_host.specs.HostRun.{quiet_world, entry_of, callback_end, callback_kind, callback_of, received_world}
use Rattle.mo_actor.specs.Programs.{Answers, Replies, Unchanged, Effects, Program}
use Rattle.mo_actor.specs.Executions.{after_reading}
use Rattle.mo_actor.specs.Measures.{Measure}
use Rattle.mo_actor.specs.Results.{Result, Completed, Trapped, HasResult}
use Rattle.mo_actor.specs.States.{Activation, IsAnswered, IsDead, Actor, activation_at, is_answered, waiting_on}
use Rattle.mo_actor.specs.Completions.{open_call}
use Rattle.mo_actor.specs.IncomingCalls.{arrived}
use Rattle.mo_actor.specs.IncomingCalls.{entered as begins}
use Rattle.mo_actor.specs.CallAnswers.{Received, Reply, Reject, broken_by, filled, reply_value, received_value, received_reading, resumed, answering}
use Rattle.mo_actor.specs.Passes.{HeldCall, CommittedState, held_calls, committed_state, fresh_state}
use Rattle.actor_refinement.specs.Limits.{IsWithin}
use Rattle.actor_refinement.specs.Ends.{EndsAlike, install_end}
use Rattle.actor_refinement.specs.Laws.{no_exhaustion}
use Rattle.actor_refinement.specs.Simulates.{world_of, host_received, others_open, SameMethod, QueriesAlike, answer_end, StatesRelate, CommitsAlike, CleansUp, Simulates}
use Rattle.actor_refinement.proofs.Counts.{count_waiting}
use Rattle.actor_refinement.proofs.Lifting.{refines}
use Rattle.refinement_examples.specs.CallingModule.{calling_module, calling, calling_program, one_call, IsNoUpgrade, AnyMemory, CallingModuleRefines}
use Rattle.refinement_examples.proofs.OpenCalls.{one_more, one_fewer, one_found}
use Rattle.refinement_examples.proofs.Executions.{there, first, loads, made_call, go_ends, reply_ends, quiet_ends}

-- The canister stays as it was installed; each open call has the module's callbacks, and no one waits.
abbrev IsOurs : OpenCall → Type 0
IsOurs o = o.call ≡ made_call

abbrev IsPlain : HeldCall calling → Type 0
IsPlain h = h.call.resumes ≡ None

pub record Stays (charged : ℕ) (state : CommittedState calling) (c : Canister) (waiting : List OpenCall) : Type 0 where
  pub stays : c ≡ there
  pub ours : AllByRecursion IsOurs waiting
  pub plain : AllByRecursion IsPlain state.calls

-- No type of a waiting body has values.
no_waiter : (n : ℕ) (activation : Activation calling) → waiting_on n activation ≡ None
no_waiter n activation = by (waiting_on n activation)
  where
    by : (w : Option ⊥) → w ≡ None
    by None = refl
    by (Some w) = absurd w

abbrev Resumes : Call calling.results calling.value → Type 0
Resumes c = c.resumes ≡ None

plain_calls : (n : ℕ) (calls : List (Call calling.results calling.value)) (activations : List (Activation calling)) → AllByRecursion IsPlain (held_calls n calls activations) → AllByRecursion Resumes calls
plain_calls n [] activations all = tt
plain_calls n (c ∷ calls) activations all = (all.0, plain_calls (suc n) calls activations all.1)

calls_plain : (n : ℕ) (calls : List (Call calling.results calling.value)) (activations : List (Activation calling)) → AllByRecursion Resumes calls → AllByRecursion IsPlain (held_calls n calls activations)
calls_plain n [] activations all = tt
calls_plain n (c ∷ calls) activations all = (all.0, calls_plain (suc n) calls activations all.1)

calls_more : (calls more : List (Call calling.results calling.value)) → AllByRecursion Resumes calls → AllByRecursion Resumes more → AllByRecursion Resumes (calls ++ more)
calls_more [] more all also = also
calls_more (c ∷ calls) more all also = (all.0, calls_more calls more all.1 also)

calls_set : (n number : ℕ) (st : State calling.value) (calls : List (Call calling.results calling.value)) → AllByRecursion Resumes calls → AllByRecursion Resumes (set_from n calls number st)
calls_set n number st [] all = tt
calls_set n number st (c ∷ calls) all = by (nat_eq n number) (calls_set (suc n) number st calls all.1)
  where
    by : (b : Bool) → AllByRecursion Resumes (set_from (suc n) calls number st) → AllByRecursion Resumes (if b then record c { state = st } ∷ calls else c ∷ set_from (suc n) calls number st)
    by true rest = (all.0, all.1)
    by false rest = (all.0, rest)

calls_at : (n number : ℕ) (calls : List (Call calling.results calling.value)) (c : Call calling.results calling.value) → AllByRecursion Resumes calls → call_from n calls number ≡ Some c → c.resumes ≡ None
calls_at n number [] c all e = absurd (cc)
calls_at n number (x ∷ calls) c all e = by (nat_eq n number) (λ q. calls_at (suc n) number calls c all.1 q) e
  where
    by : (b : Bool) → (call_from (suc n) calls number ≡ Some c → c.resumes ≡ None) → (if b then Some x else call_from (suc n) calls number) ≡ Some c → c.resumes ≡ None
    by true next e = let same : x ≡ c = cc in subst Resumes same all.0
    by false next e = next e

module _ (limits : ExecutionLimits) (own : List ℕ) (within : IsWithin limits) where
  abbrev p : Program calling
  p = calling_program

  abbrev pays : Measure
  pays e = no_exhaustion limits e

  abbrev left : Bool → Effects calling
  left t = record { store = tt; calls = cond t (one_call ∷ []) []; ending = Answers (Replies []) }

  plain_of : (a : Actor calling) (c : Canister) (waiting : List OpenCall) → StatesRelate Stays a c waiting → AllByRecursion Resumes a.table.calls
  plain_of a c waiting at = plain_calls a.table.first a.table.calls a.activations at.related.plain

  -- The method.
  went : (a : Actor calling) (waiting : List OpenCall) → StatesRelate Stays a there waiting → (caller argument : List ℕ) (t : Bool) → nat_lt (length waiting + 0) 500 ≡ t
      → EndsAlike (CommitsAlike Stays (arrived a) (length a.activations) there waiting) (Completed [] 0 (left t)) (execution limits calling_module first (entry_of kind.Update (Some 5) []) (world_of limits own there caller argument false (length waiting)))
  went a waiting at caller argument true e =
      subst (EndsAlike (CommitsAlike Stays (arrived a) (length a.activations) there waiting) (Completed [] 0 (left true))) (sym (go_ends limits own caller argument (length waiting) within true e)) (
        refl,
        record {
          calls = (refl, refl, refl, tt);
          answer = refl;
          related = record {
            stays = refl;
            ours = one_more IsOurs waiting (record { number = next_number a.table; owner = length a.activations; call = made_call }) at.related.ours refl;
            plain = calls_plain a.table.first (a.table.calls ++ map (open_call (length a.activations)) (one_call ∷ [])) (slice_set (a.activations ++ IsDead ∷ []) (length a.activations) IsAnswered)
                (calls_more a.table.calls (map (open_call (length a.activations)) (one_call ∷ [])) (plain_of a there waiting at) (refl, tt));
          };
        },
      )
  went a waiting at caller argument false e =
      subst (EndsAlike (CommitsAlike Stays (arrived a) (length a.activations) there waiting) (Completed [] 0 (left false))) (sym (go_ends limits own caller argument (length waiting) within false e)) (
        refl,
        record {
          calls = tt;
          answer = refl;
          related = record {
            stays = refl;
            ours = subst (AllByRecursion IsOurs) (sym (append-nil waiting)) at.related.ours;
            plain = calls_plain a.table.first (a.table.calls ++ []) (slice_set (a.activations ++ IsDead ∷ []) (length a.activations) IsAnswered) (calls_more a.table.calls [] (plain_of a there waiting at) tt);
          };
        },
      )

  abbrev UpdateDoes : Actor calling → Canister → List OpenCall → List ℕ → Unit {0} → ℕ → Type 0
  UpdateDoes a c waiting name body f = (caller argument : List ℕ) → IsNoUpgrade (event.Call false name caller argument)
      → (r : Result (Effects calling)) × HasResult pays 0 a.charged (begins p own a body caller argument) r
      × EndsAlike (CommitsAlike Stays (arrived a) (length a.activations) c waiting) r (execution limits c.code c.instance (entry_of kind.Update (Some f) []) (world_of limits own c caller argument false (length waiting)))

  update_does : (a : Actor calling) (waiting : List OpenCall) → StatesRelate Stays a there waiting → (name : List ℕ) (t : Bool) → bytes_eq (codes "go") name ≡ t → SameMethod (UpdateDoes a there waiting name) (cond t (Some tt) None) (update_entry calling_module name)
  update_does a waiting at name false e =
      let is : update_entry calling_module name ≡ None = rw e refl in
      subst (SameMethod (UpdateDoes a there waiting name) None) (sym is) tt
  update_does a waiting at name true e =
      let is : update_entry calling_module name ≡ Some 5 = rw e refl in
      let count : length waiting + 0 ≡ open_count a.table = let seen = count_waiting a.table.first a.table.calls waiting at.calls in omega (arith, seen) in
      let does : UpdateDoes a there waiting name tt 5 = λ caller argument given. (
        Completed [] 0 (left (nat_lt (open_count a.table) 500)),
        (0, 0, refl),
        went a waiting at caller argument (nat_lt (open_count a.table) 500) (ap (λ n. nat_lt n 500) count),
      ) in
      subst (SameMethod (UpdateDoes a there waiting name) (Some tt)) (sym is) does

  -- The callbacks.
  module _ (a : Actor calling) (waiting : List OpenCall) (at : StatesRelate Stays a there waiting) (number : ℕ) (call : Call calling.results calling.value) (found : call_at a.table number ≡ Some call) (o : OpenCall)
      (finds : find (λ w. nat_eq w.number number) waiting ≡ Some o) (caller : List ℕ) where
    ours : o.call ≡ made_call
    ours = one_found IsOurs number waiting o at.related.ours finds

    plain : call.resumes ≡ None
    plain = calls_at a.table.first number a.table.calls call (plain_of a there waiting at) found

    abbrev world : World
    world = world_of limits own there caller [] (is_answered (activation_at a.activations call.owner)) (length (others_open number waiting))

    abbrev ends : Received → OutgoingCall → End
    ends received made = callback_end limits there (callback_kind (host_received received)) (callback_of (host_received received) made) (received_world (host_received received) world)

    set_plain : (st : State calling.value) (activations : List (Activation calling)) → AllByRecursion IsPlain (held_calls a.table.first (set_from a.table.first a.table.calls number st) activations)
    set_plain st activations = calls_plain a.table.first (set_from a.table.first a.table.calls number st) activations (calls_set a.table.first number st a.table.calls (plain_of a there waiting at))

    broken_plain : (w : Option ⊥) → AllByRecursion IsPlain (committed_state (broken_by number call.owner a w)).calls
    broken_plain None = set_plain Lost a.activations
    broken_plain (Some w) = absurd w

    cleans : CleansUp Stays limits own a there waiting number call o caller
    cleans = record {
      callback = record { function = 1; environment = 0 };
      set = ap (λ x. x.on_cleanup) ours;
      store = store_of first (record world { kind = kind.Cleanup });
      ends = quiet_ends limits within kind.Cleanup world;
      quiet = refl;
      related = record { stays = refl; ours = one_fewer IsOurs number waiting at.related.ours; plain = broken_plain (waiting_on number (activation_at a.activations call.owner)) };
    }

    abbrev AnswersAlike : Canister → Received → Type 0
    AnswersAlike c received = (r : Result (Effects calling)) × HasResult pays 0 a.charged (answering p own a number call received) r
        × EndsAlike (CommitsAlike Stays (filled number (received_value p own a call received) a) call.owner c (others_open number waiting)) r (answer_end limits own a c waiting number call o received caller)
        × ((cause : Word) (prints : List (List ℕ)) → answer_end limits own a c waiting number call o received caller ≡ Breaks cause prints → CleansUp Stays limits own a c waiting number call o caller)

    unread : (bytes : List ℕ) → received_value p own a call (Reply bytes) ≡ None
    unread bytes = ap (λ x. reply_value p own a call x bytes) plain

    on_reply : (bytes : List ℕ) → AnswersAlike there (Reply bytes)
    on_reply bytes =
        let e : ends (Reply bytes) o.call ≡ Breaks (word.Text (codes "bad reply")) [] = ap (ends (Reply bytes)) ours ∙ reply_ends limits within (record world { argument = bytes }) refl in
        let met : HasResult pays 0 a.charged (answering p own a number call (Reply bytes)) (Trapped [] (codes "bad reply")) =
        subst (λ v. HasResult pays 0 a.charged (after_reading (received_reading p own a call (Reply bytes)) (resumed p own a number v (waiting_on number (activation_at a.activations call.owner)))) (Trapped [] (codes "bad reply"))) (sym (unread bytes)) (1, refl, refl) in (
          Trapped [] (codes "bad reply"),
          met,
          subst (EndsAlike (CommitsAlike Stays (filled number (received_value p own a call (Reply bytes)) a) call.owner there (others_open number waiting)) (Trapped [] (codes "bad reply"))) (sym e) (refl, refl),
          λ cause prints q. cleans,
        )

    on_reject : (code : ℕ) (text : List ℕ) → AnswersAlike there (Reject code text)
    on_reject code text =
        let w : World = record world { reject_code = code; reject_text = text } in
        let e : ends (Reject code text) o.call ≡ Finishes (store_of first (record w { kind = kind.Reject })) = ap (ends (Reject code text)) ours ∙ quiet_ends limits within kind.Reject w in
        let met : HasResult pays 0 a.charged (answering p own a number call (Reject code text)) (Completed [] 0 (record { store = tt; calls = []; ending = Unchanged })) =
        subst (λ v. HasResult pays 0 a.charged (after_reading (received_reading p own a call (Reject code text)) (resumed p own a number (Some tt) v)) (Completed [] 0 (record { store = tt; calls = []; ending = Unchanged }))) (sym (no_waiter number (activation_at a.activations call.owner))) (0, 0, refl) in (
          Completed [] 0 (record { store = tt; calls = []; ending = Unchanged }),
          met,
          subst (EndsAlike (CommitsAlike Stays (filled number (Some tt) a) call.owner there (others_open number waiting)) (Completed [] 0 (record { store = tt; calls = []; ending = Unchanged }))) (sym e) (
            refl,
            record {
              calls = tt;
              answer = refl;
              related = record {
                stays = refl;
                ours = subst (AllByRecursion IsOurs) (sym (append-nil (others_open number waiting))) (one_fewer IsOurs number waiting at.related.ours);
                plain = calls_plain a.table.first (set_from a.table.first a.table.calls number (Answered (Some tt)) ++ []) (slice_set a.activations call.owner (activation_at a.activations call.owner))
                    (calls_more (set_from a.table.first a.table.calls number (Answered (Some tt))) [] (calls_set a.table.first number (Answered (Some tt)) a.table.calls (plain_of a there waiting at)) tt);
              };
            },
          ),
          λ cause prints q. let other : Finishes (store_of first (record w { kind = kind.Reject })) ≡ Breaks cause prints = sym e ∙ q in absurd (cc),
        )

    on_answer : (received : Received) → AnswersAlike there received
    on_answer (Reply bytes) = on_reply bytes
    on_answer (Reject code text) = on_reject code text

  installs : install_end limits own calling_module ≡ Finishes (store_of first (quiet_world limits own []))
  installs = rw (loads limits within) refl

  update_at : (a : Actor calling) (waiting : List OpenCall) (name : List ℕ) (c : Canister) → c ≡ there → StatesRelate Stays a c waiting → SameMethod (UpdateDoes a c waiting name) (p.update name) (update_entry c.code name)
  update_at a waiting name c e at =
      let all : (c : Canister) → there ≡ c → StatesRelate Stays a c waiting → SameMethod (UpdateDoes a c waiting name) (p.update name) (update_entry c.code name) =
      λ c q. subst (λ c. StatesRelate Stays a c waiting → SameMethod (UpdateDoes a c waiting name) (p.update name) (update_entry c.code name)) q (λ at. update_does a waiting at name (bytes_eq (codes "go") name) refl) in
      all c (sym e) at

  simulates : Simulates Stays AnyMemory IsNoUpgrade pays limits own p calling_module
  simulates = record {
    installs = (
      Completed [] 0 tt,
      (0, 0, refl),
      subst (EndsAlike (λ weight store left. (made : ℕ) → Stays weight (fresh_state store made) (left_by calling_module left) []) (Completed [] 0 tt)) (sym installs) (refl, λ made. record { stays = refl; ours = tt; plain = tt }),
    );
    upgrades = λ number given. absurd given;
    updates = λ a c waiting at name. update_at a waiting name c at.related.stays at;
    queries = λ a c waiting at name. subst (λ c. SameMethod (λ body f. (asked : Bool) (caller argument : List ℕ) → IsNoUpgrade (event.Call asked name caller argument)
        → (r : Result (Effects calling)) × HasResult pays 0 a.charged (begins p own a body caller argument) r
        × EndsAlike (QueriesAlike) r (execution limits c.code c.instance (entry_of kind.Query (Some f) []) (world_of limits own c caller argument false (length waiting)))) None (query_entry c.code name)) (sym at.related.stays) tt;
    answers = λ a c waiting at number call found open_now o finds received given caller.
        subst (λ c. (at : StatesRelate Stays a c waiting) → (r : Result (Effects calling)) × HasResult pays 0 a.charged (answering p own a number call received) r
        × EndsAlike (CommitsAlike Stays (filled number (received_value p own a call received) a) call.owner c (others_open number waiting)) r (answer_end limits own a c waiting number call o received caller)
        × ((cause : Word) (prints : List (List ℕ)) → answer_end limits own a c waiting number call o received caller ≡ Breaks cause prints → CleansUp Stays limits own a c waiting number call o caller)) (sym at.related.stays)
        (λ at. on_answer a waiting at number call found o finds caller received) at;
    saves = λ number given. absurd given;
  }

pub calling_module_refines : CallingModuleRefines
calling_module_refines = refines (λ limits own. Stays) AnyMemory IsNoUpgrade no_exhaustion calling_program calling_module (λ limits within own self. simulates limits own within)
