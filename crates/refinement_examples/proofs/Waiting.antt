-- The module that waits for answers refines its program.
use Rattle.std.proofs.Common.{◌≡◌, ℕ, zero, suc, ◌+◌, ◌<◌, Bool, true, false, cond, if◌then◌else◌, List, [], ◌∷◌, ◌++◌, length, Option, Some, None, refl, sym, ap, ◌∙◌, subst, append-nil, arith, codes, nat_lt, nat_eq, eq-eqb, eqb-true, true≢false, find, slice_set}
use Rattle.std.specs.List.{AllByRecursion}
use Rattle.std.specs.Str.{bytes_eq}
use Rattle.mo_types.specs.Calls.{Answered, Call, is_open_state, open_count, call_at, call_from, set_from, set_state, next_number}
use Rattle.play_script.specs.declared.event.Event.TheVariants as event
use Rattle.play_script.specs.declared.item.Word.{Word}
use Rattle.wasm_tree.specs.Exec.{ExecutionLimits}
use Rattle.ic0_world.specs.declared.kind.ExecutionKind.TheVariants as kind
use Rattle.ic0_world.specs.declared.world.OutgoingCall.{OutgoingCall}
use Rattle.ic0_world.specs.declared.world.Answer.TheVariants.{Replied}
use Rattle.ic0_world.specs.declared.world.World.{World}
use Rattle.canister_host.specs.State.{Canister}
use Rattle.canister_host.specs.declared.calls.OpenCall.{OpenCall}
use Rattle.canister_host.specs.Entries.{update_entry, query_entry}
use Rattle.canister_host.specs.Execution.{End, Finishes, Breaks, execution, store_of, left_by}
use Rattle.canister_host.specs.HostRun.{quiet_world, entry_of, numbered, callback_end, callback_kind, callback_of, received_world}
use Rattle.mo_actor.specs.Programs.{Effects, Program}
use Rattle.mo_actor.specs.Executions.{after_reading}
use Rattle.mo_actor.specs.Measures.{Measure}
use Rattle.mo_actor.specs.Results.{Result, Completed, HasResult}
use Rattle.mo_actor.specs.States.{Activation, IsAnswered, IsDead, WaitsFor, WaitsForNothing, Actor, or_answered, activation_at, is_answered, waiting_on}
use Rattle.mo_actor.specs.Completions.{open_call}
use Rattle.mo_actor.specs.IncomingCalls.{arrived}
use Rattle.mo_actor.specs.IncomingCalls.{entered as begins}
use Rattle.mo_actor.specs.CallAnswers.{Received, Reply, Reject, filled, reply_value, received_value, received_reading, reply_reading, resumed, answering}
use Rattle.mo_actor.specs.Passes.{HeldCall, CommittedState, held_calls, fresh_state}
use Rattle.mo_actor.proofs.Lists.{set_last, get_set_other}
use Rattle.mo_actor.proofs.Books.{waits_unanswered}
use Rattle.actor_refinement.specs.Limits.{IsWithin}
use Rattle.actor_refinement.specs.Ends.{EndsAlike, install_end}
use Rattle.actor_refinement.specs.Laws.{no_exhaustion}
use Rattle.actor_refinement.specs.Simulates.{world_of, host_received, others_open, SameMethod, SameCalls, QueriesAlike, answer_end, StatesRelate, CommitsAlike, CleansUp, Simulates}
use Rattle.actor_refinement.proofs.Incoming.{get_last}
use Rattle.actor_refinement.proofs.Counts.{count_waiting}
use Rattle.actor_refinement.proofs.Lifting.{refines}
use Rattle.refinement_examples.specs.CallingModule.{Nothing, IsNoUpgrade, AnyMemory}
use Rattle.refinement_examples.specs.WaitingModule.{waiting_module, waiting_language, waiting_program, left_by_method, left_by_rest, one_call, WaitingModuleRefines}
use Rattle.refinement_examples.proofs.OpenCalls.{one_more, one_fewer, one_found}
use Rattle.refinement_examples.proofs.WaitingExecutions.{there, first, loads, made_call, method_ends, with_reply, MayAnswer, reply_ends, reject_ends}

abbrev TheCall : Type 0
TheCall = Call Nothing Nothing

abbrev Activations : Type 0
Activations = List (Activation waiting_language)

-- ---- what is kept of the calls

-- Each open call has the module's callbacks.
abbrev IsOurs : OpenCall → Type 0
IsOurs o = o.call ≡ made_call

-- It resumes no future, and while it is open its owner waits for it.
pub record Waits (h : HeldCall waiting_language) : Type 0 where
  pub plain : h.call.resumes ≡ None
  pub waits : is_open_state h.call.state ≡ true → h.waiting ≡ Some tt

pub record Stays (charged : ℕ) (state : CommittedState waiting_language) (c : Canister) (waiting : List OpenCall) : Type 0 where
  pub stays : c ≡ there
  pub ours : AllByRecursion IsOurs waiting
  pub wait : AllByRecursion Waits state.calls

-- The same, told of the table and the activations.
pub record WaitsAt (n : ℕ) (c : TheCall) (activations : Activations) : Type 0 where
  pub plain : c.resumes ≡ None
  pub waits : is_open_state c.state ≡ true → waiting_on n (activation_at activations c.owner) ≡ Some tt

abbrev AllWait : ℕ → List TheCall → Activations → Type 0
AllWait n calls activations = AllByRecursion Waits (held_calls {L = waiting_language} n calls activations)

held_waits : (n : ℕ) (c : TheCall) (activations : Activations) → WaitsAt n c activations → Waits (record { call = c; waiting = cond (is_open_state c.state) (waiting_on n (activation_at activations c.owner)) None })
held_waits n c activations w = record { plain = w.plain; waits = λ is. subst (λ b. cond b (waiting_on n (activation_at activations c.owner)) None ≡ Some tt) (sym is) (w.waits is) }

waits_at : (n : ℕ) (c : TheCall) (activations : Activations) → Waits (record { call = c; waiting = cond (is_open_state c.state) (waiting_on n (activation_at activations c.owner)) None }) → WaitsAt n c activations
waits_at n c activations w = record { plain = w.plain; waits = λ is. subst (λ b. cond b (waiting_on n (activation_at activations c.owner)) None ≡ Some tt) is (w.waits is) }

-- ---- an activation more

pushed : (n : ℕ) (activations : Activations) (x : Activation waiting_language) (owner : ℕ) → waiting_on n (activation_at activations owner) ≡ Some tt → activation_at (activations ++ x ∷ []) owner ≡ activation_at activations owner
pushed n [] x zero e = absurd (cc)
pushed n [] x (suc owner) e = absurd (cc)
pushed n (y ∷ activations) x zero e = refl
pushed n (y ∷ activations) x (suc owner) e = pushed n activations x owner e

still_waits : (n : ℕ) (c : TheCall) (activations : Activations) (x : Activation waiting_language) → WaitsAt n c activations → WaitsAt n c (activations ++ x ∷ [])
still_waits n c activations x w = record { plain = w.plain; waits = λ is. ap (waiting_on n) (pushed n activations x c.owner (w.waits is)) ∙ w.waits is }

all_wait_on : (n : ℕ) (calls : List TheCall) (activations : Activations) (x : Activation waiting_language) → AllWait n calls activations → AllWait n calls (activations ++ x ∷ [])
all_wait_on n [] activations x all = tt
all_wait_on n (c ∷ calls) activations x all =
    (held_waits n c (activations ++ x ∷ []) (still_waits n c activations x (waits_at n c activations all.0)), all_wait_on (suc n) calls activations x all.1)

-- And a call more, for which it waits.
all_wait_more : (n next : ℕ) (calls : List TheCall) (activations : Activations) → next ≡ n + length calls → AllWait n calls activations
    → AllWait n (calls ++ open_call (length activations) one_call ∷ []) (activations ++ WaitsFor next tt ∷ [])
all_wait_more n next [] activations e all =
    let last : activation_at (activations ++ WaitsFor next tt ∷ []) (length activations) ≡ WaitsFor next tt = ap or_answered (get_last activations (WaitsFor next tt)) in
    let same : nat_eq next n ≡ true = eq-eqb next n (omega (arith, e)) in
    let waits : waiting_on n (activation_at (activations ++ WaitsFor next tt ∷ []) (length activations)) ≡ Some tt = ap (waiting_on n) last ∙ ap (λ b. cond b (Some tt) None) same in
    (held_waits n (open_call (length activations) one_call) (activations ++ WaitsFor next tt ∷ []) (record { plain = refl; waits = λ is. waits }), tt)
all_wait_more n next (c ∷ calls) activations e all = (
  held_waits n c (activations ++ WaitsFor next tt ∷ []) (still_waits n c activations (WaitsFor next tt) (waits_at n c activations all.0)),
  all_wait_more (suc n) next calls activations (omega (arith, e)) all.1,
)

-- ---- an answer

one_wait : (m n : ℕ) (x : Activation waiting_language) → waiting_on m x ≡ Some tt → waiting_on n x ≡ Some tt → m ≡ n
one_wait m n IsAnswered d e = absurd (cc)
one_wait m n IsDead d e = absurd (cc)
one_wait m n (WaitsFor k w) d e = by (nat_eq k m) (nat_eq k n) refl refl d e
  where
    by : (s t : Bool) → nat_eq k m ≡ s → nat_eq k n ≡ t → cond s (Some w) None ≡ Some tt → cond t (Some w) None ≡ Some tt → m ≡ n
    by true true p q d e = sym (eqb-true k m p) ∙ eqb-true k n q
    by true false p q d e = absurd (cc)
    by false t p q d e = absurd (cc)
one_wait m n WaitsForNothing d e = absurd (cc)

other_waits : (n number owner : ℕ) (c : TheCall) (activations : Activations) → (n ≡ number → ⊥) → waiting_on number (activation_at activations owner) ≡ Some tt → WaitsAt n c activations → WaitsAt n c (slice_set activations owner IsAnswered)
other_waits n number owner c activations apart e w = record { plain = w.plain; waits = λ is. by is (nat_eq c.owner owner) refl }
  where
    by : is_open_state c.state ≡ true → (b : Bool) → nat_eq c.owner owner ≡ b → waiting_on n (activation_at (slice_set activations owner IsAnswered) c.owner) ≡ Some tt
    by is true q =
        let same : c.owner ≡ owner = eqb-true c.owner owner q in
        absurd (apart (one_wait n number (activation_at activations owner) (subst (λ k. waiting_on n (activation_at activations k) ≡ Some tt) same (w.waits is)) e))
    by is false q =
        let other : c.owner ≡ owner → ⊥ = λ s. true≢false (sym (eq-eqb c.owner owner s) ∙ q) in
        ap (λ o. waiting_on n (or_answered o)) (get_set_other activations owner c.owner IsAnswered other) ∙ w.waits is

later_wait : (n number owner : ℕ) (calls : List TheCall) (activations : Activations) → number < n → waiting_on number (activation_at activations owner) ≡ Some tt → AllWait n calls activations → AllWait n calls (slice_set activations owner IsAnswered)
later_wait n number owner [] activations lt e all = tt
later_wait n number owner (c ∷ calls) activations lt e all = (
  held_waits n c (slice_set activations owner IsAnswered) (other_waits n number owner c activations (λ q. omega (arith, q, lt)) e (waits_at n c activations all.0)),
  later_wait (suc n) number owner calls activations (omega (arith, lt)) e all.1,
)

all_wait_set : (n number owner : ℕ) (v : Option Nothing) (calls : List TheCall) (activations : Activations) → waiting_on number (activation_at activations owner) ≡ Some tt → AllWait n calls activations
    → AllWait n (set_from n calls number (Answered v)) (slice_set activations owner IsAnswered)
all_wait_set n number owner v [] activations e all = tt
all_wait_set n number owner v (c ∷ calls) activations e all = by (nat_eq n number) refl (all_wait_set (suc n) number owner v calls activations e all.1)
  where
    w : WaitsAt n c activations
    w = waits_at n c activations all.0

    answered : WaitsAt n (record c { state = Answered v }) (slice_set activations owner IsAnswered)
    answered = record { plain = w.plain; waits = λ is. absurd (true≢false (sym is)) }

    by : (b : Bool) → nat_eq n number ≡ b → AllWait (suc n) (set_from (suc n) calls number (Answered v)) (slice_set activations owner IsAnswered)
        → AllWait n (if b then record c { state = Answered v } ∷ calls else c ∷ set_from (suc n) calls number (Answered v)) (slice_set activations owner IsAnswered)
    by true q rest =
        let same : n ≡ number = eqb-true n number q in
        (held_waits n (record c { state = Answered v }) (slice_set activations owner IsAnswered) answered, later_wait (suc n) number owner calls activations (omega (arith, same)) e all.1)
    by false q rest = (
      held_waits n c (slice_set activations owner IsAnswered) (other_waits n number owner c activations (λ s. true≢false (sym (eq-eqb n number s) ∙ q)) e w),
      rest,
    )

wait_found : (n number : ℕ) (calls : List TheCall) (activations : Activations) (call : TheCall) → AllWait n calls activations → call_from n calls number ≡ Some call → WaitsAt number call activations
wait_found n number [] activations call all e = absurd (cc)
wait_found n number (c ∷ calls) activations call all e = by (nat_eq n number) refl (λ q. wait_found (suc n) number calls activations call all.1 q) e
  where
    by : (b : Bool) → nat_eq n number ≡ b → (call_from (suc n) calls number ≡ Some call → WaitsAt number call activations) → (if b then Some c else call_from (suc n) calls number) ≡ Some call → WaitsAt number call activations
    by true q next e =
        let same : c ≡ call = cc in
        subst (λ k. WaitsAt k call activations) (eqb-true n number q) (subst (λ c. WaitsAt n c activations) same (waits_at n c activations all.0))
    by false q next e = next e

module _ (limits : ExecutionLimits) (own : List ℕ) (within : IsWithin limits) where
  abbrev p : Program waiting_language
  p = waiting_program

  abbrev pays : Measure
  pays e = no_exhaustion limits e

  -- ---- the method

  went : (a : Actor waiting_language) (waiting : List OpenCall) → StatesRelate Stays a there waiting → (caller argument : List ℕ) (t : Bool) → nat_lt (length waiting + 0) 500 ≡ t
      → EndsAlike (CommitsAlike Stays (arrived a) (length a.activations) there waiting) (Completed [] 0 (left_by_method t (next_number a.table)))
      (execution limits there.code there.instance (entry_of kind.Update (Some 4) []) (world_of limits own there caller argument false (length waiting)))
  went a waiting at caller argument true e =
      subst (EndsAlike (CommitsAlike Stays (arrived a) (length a.activations) there waiting) (Completed [] 0 (left_by_method true (next_number a.table)))) (sym (method_ends limits own caller argument (length waiting) within true e)) (
        refl,
        record {
          calls = (refl, refl, refl, tt);
          answer = refl;
          related = record {
            stays = refl;
            ours = one_more IsOurs waiting (record { number = next_number a.table; owner = length a.activations; call = made_call }) at.related.ours refl;
            wait = subst (λ xs. AllWait a.table.first (a.table.calls ++ open_call (length a.activations) one_call ∷ []) xs) (sym (set_last a.activations IsDead (WaitsFor (next_number a.table) tt)))
                (all_wait_more a.table.first (next_number a.table) a.table.calls a.activations refl at.related.wait);
          };
        },
      )
  went a waiting at caller argument false e =
      subst (EndsAlike (CommitsAlike Stays (arrived a) (length a.activations) there waiting) (Completed [] 0 (left_by_method false (next_number a.table)))) (sym (method_ends limits own caller argument (length waiting) within false e)) (
        refl,
        record {
          calls = tt;
          answer = refl;
          related = record {
            stays = refl;
            ours = subst (AllByRecursion IsOurs) (sym (append-nil waiting)) at.related.ours;
            wait = subst (λ xs. AllWait a.table.first (a.table.calls ++ []) xs) (sym (set_last a.activations IsDead IsAnswered))
                (subst (λ cs. AllWait a.table.first cs (a.activations ++ IsAnswered ∷ [])) (sym (append-nil a.table.calls)) (all_wait_on a.table.first a.table.calls a.activations IsAnswered at.related.wait));
          };
        },
      )

  abbrev UpdateDoes : Actor waiting_language → Canister → List OpenCall → List ℕ → Nothing → ℕ → Type 0
  UpdateDoes a c waiting name method f = (caller argument : List ℕ) → IsNoUpgrade (event.Call false name caller argument)
      → (r : Result (Effects waiting_language)) × HasResult pays 0 a.charged (begins p own a method caller argument) r
      × EndsAlike (CommitsAlike Stays (arrived a) (length a.activations) c waiting) r (execution limits c.code c.instance (entry_of kind.Update (Some f) []) (world_of limits own c caller argument false (length waiting)))

  update_does : (a : Actor waiting_language) (waiting : List OpenCall) → StatesRelate Stays a there waiting → (name : List ℕ) (t : Bool) → bytes_eq (codes "go") name ≡ t
      → SameMethod (UpdateDoes a there waiting name) (cond t (Some tt) None) (update_entry waiting_module name)
  update_does a waiting at name false e =
      let is : update_entry waiting_module name ≡ None = rw e refl in
      subst (SameMethod (UpdateDoes a there waiting name) None) (sym is) tt
  update_does a waiting at name true e =
      let is : update_entry waiting_module name ≡ Some 4 = rw e refl in
      let count : length waiting + 0 ≡ open_count a.table = let seen = count_waiting a.table.first a.table.calls waiting at.calls in omega (arith, seen) in
      let does : UpdateDoes a there waiting name tt 4 = λ caller argument given. (
        Completed [] 0 (left_by_method (nat_lt (open_count a.table) 500) (next_number a.table)),
        (0, 0, refl),
        went a waiting at caller argument (nat_lt (open_count a.table) 500) (ap (λ n. nat_lt n 500) count),
      ) in
      subst (SameMethod (UpdateDoes a there waiting name) (Some tt)) (sym is) does

  update_at : (a : Actor waiting_language) (waiting : List OpenCall) (name : List ℕ) (c : Canister) → c ≡ there → StatesRelate Stays a c waiting → SameMethod (UpdateDoes a c waiting name) (p.update name) (update_entry c.code name)
  update_at a waiting name c e at =
      let all : (c : Canister) → there ≡ c → StatesRelate Stays a c waiting → SameMethod (UpdateDoes a c waiting name) (p.update name) (update_entry c.code name) =
      λ c q. subst (λ c. StatesRelate Stays a c waiting → SameMethod (UpdateDoes a c waiting name) (p.update name) (update_entry c.code name)) q (λ at. update_does a waiting at name (bytes_eq (codes "go") name) refl) in
      all c (sym e) at

  -- ---- the callbacks

  module _ (a : Actor waiting_language) (waiting : List OpenCall) (at : StatesRelate Stays a there waiting) (number : ℕ) (call : TheCall) (found : call_at a.table number ≡ Some call) (open_now : is_open_state call.state ≡ true)
      (o : OpenCall) (finds : find (λ w. nat_eq w.number number) waiting ≡ Some o) (caller : List ℕ) where
    ours : o.call ≡ made_call
    ours = one_found IsOurs number waiting o at.related.ours finds

    waits : WaitsAt number call a.activations
    waits = wait_found a.table.first number a.table.calls a.activations call at.related.wait found

    owner_waits : waiting_on number (activation_at a.activations call.owner) ≡ Some tt
    owner_waits = waits.waits open_now

    abbrev world : World
    world = world_of limits own there caller [] (is_answered (activation_at a.activations call.owner)) (length (others_open number waiting))

    abbrev ends : Received → OutgoingCall → End
    ends received made = callback_end limits there (callback_kind (host_received received)) (callback_of (host_received received) made) (received_world (host_received received) world)

    abbrev AnswersAlike : Canister → Received → Type 0
    AnswersAlike c received = (r : Result (Effects waiting_language)) × HasResult pays 0 a.charged (answering p own a number call received) r
        × EndsAlike (CommitsAlike Stays (filled number (received_value p own a call received) a) call.owner c (others_open number waiting)) r (answer_end limits own a c waiting number call o received caller)
        × ((cause : Word) (prints : List (List ℕ)) → answer_end limits own a c waiting number call o received caller ≡ Breaks cause prints → CleansUp Stays limits own a c waiting number call o caller)

    -- The rest of the method runs, and replies.
    goes_on : (received : Received) → received_value p own a call received ≡ Some tt → received_reading p own a call received ≡ record { weight = 0; depth = 0 }
        → HasResult pays 0 a.charged (answering p own a number call received) (Completed [] 0 left_by_rest)
    goes_on received value reading =
        subst (λ cost. HasResult pays 0 a.charged (after_reading cost (resumed p own a number (received_value p own a call received) (waiting_on number (activation_at a.activations call.owner)))) (Completed [] 0 left_by_rest)) (sym reading)
        (subst (λ v. HasResult pays 0 a.charged (after_reading (record { weight = 0; depth = 0 }) (resumed p own a number v (waiting_on number (activation_at a.activations call.owner)))) (Completed [] 0 left_by_rest)) (sym value)
        (subst (λ w. HasResult pays 0 a.charged (after_reading (record { weight = 0; depth = 0 }) (resumed p own a number (Some tt) w)) (Completed [] 0 left_by_rest)) (sym owner_waits) (0, 0, refl)))

    alike : (received : Received) (w : World) → w.prints ≡ [] → w.performed ≡ [] → w.reply_data ≡ [] → w.stable.bytes ≡ [] → HasResult pays 0 a.charged (answering p own a number call received) (Completed [] 0 left_by_rest)
        → answer_end limits own a there waiting number call o received caller ≡ Finishes (store_of first (with_reply w)) → AnswersAlike there received
    alike received w prints made bytes stable has e = (
      Completed [] 0 left_by_rest,
      has,
      subst (EndsAlike (CommitsAlike Stays (filled number (received_value p own a call received) a) call.owner there (others_open number waiting)) (Completed [] 0 left_by_rest)) (sym e) (
        sym prints,
        record {
          calls = subst (SameCalls {L = waiting_language} []) (sym made) tt;
          answer = ap (λ b. Some (Replied b)) bytes;
          related = record {
            stays = ap (λ s. record { code = waiting_module; instance = first; stable = s }) stable;
            ours = subst (λ ds. AllByRecursion IsOurs (others_open number waiting ++ numbered call.owner (next_number (set_state a.table number (Answered (received_value p own a call received)))) ds)) (sym made)
                (subst (AllByRecursion IsOurs) (sym (append-nil (others_open number waiting))) (one_fewer IsOurs number waiting at.related.ours));
            wait = subst (λ cs. AllWait a.table.first cs (slice_set a.activations call.owner IsAnswered)) (sym (append-nil (set_from a.table.first a.table.calls number (Answered (received_value p own a call received)))))
                (all_wait_set a.table.first number call.owner (received_value p own a call received) a.table.calls a.activations owner_waits at.related.wait);
          };
        },
      ),
      λ cause prints q. let other : Finishes (store_of first (with_reply w)) ≡ Breaks cause prints = sym e ∙ q in absurd (cc),
    )

    unanswered : world.answered ≡ false
    unanswered = waits_unanswered number (activation_at a.activations call.owner) tt owner_waits

    on_answer : (received : Received) → AnswersAlike there received
    on_answer (Reply bytes) =
        let w : World = record world { argument = bytes } in
        let may : MayAnswer (record w { kind = kind.Reply }) = record { allowed = refl; unanswered = unanswered; no_answer = refl } in
        alike (Reply bytes) (record w { kind = kind.Reply }) refl refl refl refl
        (goes_on (Reply bytes) (ap (λ x. reply_value p own a call x bytes) waits.plain) (ap (λ x. reply_reading p own a call x bytes) waits.plain))
        (ap (ends (Reply bytes)) ours ∙ reply_ends limits within w may)
    on_answer (Reject code text) =
        let w : World = record world { reject_code = code; reject_text = text } in
        let may : MayAnswer (record w { kind = kind.Reject }) = record { allowed = refl; unanswered = unanswered; no_answer = refl } in
        alike (Reject code text) (record w { kind = kind.Reject }) refl refl refl refl (goes_on (Reject code text) refl refl) (ap (ends (Reject code text)) ours ∙ reject_ends limits within w may)

  installs : install_end limits own waiting_module ≡ Finishes (store_of first (quiet_world limits own []))
  installs = rw (loads limits within) refl

  simulates : Simulates Stays AnyMemory IsNoUpgrade pays limits own p waiting_module
  simulates = record {
    installs = (
      Completed [] 0 tt,
      (0, 0, refl),
      subst (EndsAlike (λ weight store left. (made : ℕ) → Stays weight (fresh_state store made) (left_by waiting_module left) []) (Completed [] 0 tt)) (sym installs) (refl, λ made. record { stays = refl; ours = tt; wait = tt }),
    );
    upgrades = λ number given. absurd given;
    updates = λ a c waiting at name. update_at a waiting name c at.related.stays at;
    queries = λ a c waiting at name. subst (λ c. SameMethod (λ method f. (query : Bool) (caller argument : List ℕ) → IsNoUpgrade (event.Call query name caller argument)
        → (r : Result (Effects waiting_language)) × HasResult pays 0 a.charged (begins p own a method caller argument) r
        × EndsAlike QueriesAlike r (execution limits c.code c.instance (entry_of kind.Query (Some f) []) (world_of limits own c caller argument false (length waiting)))) None (query_entry c.code name)) (sym at.related.stays) tt;
    answers = λ a c waiting at number call found open_now o finds received given caller.
        subst (λ c. (at : StatesRelate Stays a c waiting) → (r : Result (Effects waiting_language)) × HasResult pays 0 a.charged (answering p own a number call received) r
        × EndsAlike (CommitsAlike Stays (filled number (received_value p own a call received) a) call.owner c (others_open number waiting)) r (answer_end limits own a c waiting number call o received caller)
        × ((cause : Word) (prints : List (List ℕ)) → answer_end limits own a c waiting number call o received caller ≡ Breaks cause prints → CleansUp Stays limits own a c waiting number call o caller)) (sym at.related.stays)
        (λ at. on_answer a waiting at number call found open_now o finds caller received) at;
    saves = λ number given. absurd given;
  }

pub waiting_module_refines : WaitingModuleRefines
waiting_module_refines = refines (λ limits own. Stays) AnyMemory IsNoUpgrade no_exhaustion waiting_program waiting_module (λ limits within own self. simulates limits own within)
