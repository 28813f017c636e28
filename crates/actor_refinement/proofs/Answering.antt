-- Answers to outgoing calls: where the module's executions come out as the program's do, its host does what the actor does.
use Rattle.std.proofs.Common.{◌≡◌, ℕ, ◌+◌, Bool, true, false, cond, List, [], ◌∷◌, ◌++◌, length, map, Option, Some, None, refl, sym, ap, ap₂, ◌∙◌, subst, append-nil, nat_eq, slice_get, slice_set, find, codes}
use Rattle.mo_types.specs.Calls.{State, Answered, Lost, Call, is_open_state, call_at, set_state}
use Rattle.play_script.specs.declared.event.Event.{Event}
use Rattle.play_script.specs.declared.item.Item.TheVariants as item
use Rattle.play_script.specs.declared.item.Word.{Word}
use Rattle.play_script.specs.declared.item.Word.TheVariants as word
use Rattle.wasm_tree.specs.declared.module_parts.Module.{Module}
use Rattle.wasm_tree.specs.Exec.{ExecutionLimits, Store}
use Rattle.ic0_world.specs.declared.kind.ExecutionKind.TheVariants as kind
use Rattle.ic0_world.specs.declared.world.Callback.{Callback}
use Rattle.ic0_world.specs.declared.world.World.{World}
use Rattle.canister_host.specs.State.{Canister, HostState}
use Rattle.canister_host.specs.declared.calls.OpenCall.{OpenCall}
use Rattle.canister_host.specs.Execution.{End, Finishes, Breaks, left_by}
use Rattle.canister_host.specs.HostRun.{called_world, closing, finish, caller_of, with_canister, answer, answered, enter_callback, clean_up, callback_end, callback_kind, callback_of, received_world}
use Rattle.canister_host.specs.HostRun.{is_answered as host_answered, Outcome as HostOutcome, outcome as host_outcome, printed as host_printed, Received as HostReceived}
use Rattle.mo_actor.specs.Languages.{Language}
use Rattle.mo_actor.specs.Executions.{Completes, ReadingCost, after_reading}
use Rattle.mo_actor.specs.Programs.{Unchanged, Effects, Program}
use Rattle.mo_actor.specs.Measures.{Measure}
use Rattle.mo_actor.specs.Results.{Result, Completed, Trapped, Exhausted, HasResult}
use Rattle.mo_actor.specs.States.{Activation, IsDead, Actor, activation_at, is_answered, waiting_on}
use Rattle.mo_actor.specs.Outcomes.{outcome, trap_items, close}
use Rattle.mo_actor.specs.Courses.{ComesTo}
use Rattle.mo_actor.specs.CallAnswers.{Received, broken_by, broken, filled, answer_outcome, received_value, received_reading, resumed, answering, open_course, answer_course}
use Rattle.mo_actor.specs.Passes.{answer_event, CommittedState, committed_state}
use Rattle.mo_actor.proofs.Trapping.{never_completes}
use Rattle.mo_actor.proofs.Books.{waits_unanswered}
use Rattle.actor_refinement.specs.Ends.{EndsAlike}
use Rattle.actor_refinement.specs.Agreement.{owner_of, SameIncoming, Agrees}
use Rattle.actor_refinement.specs.Simulates.{world_of, host_received, others_open, StatesRelate, CommitsAlike, CleansUp, Simulates}
use Rattle.actor_refinement.proofs.OpenCalls.{Finds, find_open, open_set, length_set}
use Rattle.actor_refinement.proofs.Incoming.{incoming_at, incoming_kept}
use Rattle.actor_refinement.proofs.Finishing.{Tied, Same, close_same, MayChange, may_change, left_of, finish_same, Lifted}

module _ {L : Language} (Related : (charged : ℕ) → CommittedState L → Canister → List OpenCall → Type 0) where
  module _ (Stable : L.kept → List ℕ → Type 0) (Given : Event → Type 0) (pays : Measure) (limits : ExecutionLimits) (own : List ℕ) (p : Program L) (m : Module) (simulates : Simulates Related Stable Given pays limits own p m) where
    abbrev after_callback : Canister → OpenCall → HostState → End → HostOutcome
    after_callback c o s (Finishes store) = finish o.owner (left_by c.code store) store.world s
    after_callback c o s (Breaks cause prints) = clean_up limits own c o cause prints s

    callback_by : (received : HostReceived) (c : Canister) (o : OpenCall) (s : HostState) (e : End)
        → callback_end limits c (callback_kind received) (callback_of received o.call) (received_world received (called_world limits own c o.owner [] s)) ≡ e
        → enter_callback limits own received c o s ≡ after_callback c o s e
    callback_by received c o s (Finishes store) e = rw e refl
    callback_by received c o s (Breaks cause prints) e = rw e refl

    cleaned : (c : Canister) (o : OpenCall) (cause : Word) (prints : List (List ℕ)) (s : HostState) (callback : Callback) (store : Store World) → o.call.on_cleanup ≡ Some callback
        → callback_end limits c kind.Cleanup callback (called_world limits own c o.owner [] s) ≡ Finishes store
        → clean_up limits own c o cause prints s ≡ closing o.owner (host_printed prints ++ host_printed store.world.prints ++ item.Trapped cause ∷ []) (with_canister s (left_by c.code store))
    cleaned c o cause prints s callback store set ends = rw (set, ends) refl

    -- what the host and the actor agree on, where the call is no longer open
    abbrev still_agrees : (a : Actor L) (s : HostState) (agrees : Agrees a s) (number : ℕ) (st : State L.value) → is_open_state st ≡ false → (c : Canister) (after : HostState) → after.canister ≡ Some c
        → after.incoming ≡ s.incoming → after.made ≡ s.made → after.waiting ≡ others_open number s.waiting → (activations : List (Activation L)) → SameIncoming activations s.incoming
        → Agrees (record a { table = set_state a.table number st; activations = activations }) after
    still_agrees a s agrees number st closed c after there same_incoming same_made same_waiting activations same = record {
      canister = c;
      there = there;
      incoming = subst (SameIncoming activations) (sym same_incoming) same;
      calls = ap (map owner_of) same_waiting ∙ open_set a.table.first number a.table.calls s.waiting st closed agrees.calls;
      made = ap (λ n. a.table.first + n) (length_set a.table.first number a.table.calls st) ∙ agrees.made ∙ sym same_made;
    }

    unanswered_before : (first charged : ℕ) (a : Actor L) (number weight : ℕ) (cost : ReadingCost) (activation : Activation L) (v : Option L.value) (w : Option L.waiting) (prints : List (List ℕ)) (effects : Effects L)
        → waiting_on number activation ≡ w → HasResult pays first charged (after_reading cost (resumed p own a number v w)) (Completed prints weight effects) → MayChange effects.ending activation
    unanswered_before first charged a number weight cost activation None w prints effects e has =
        absurd (never_completes (codes "bad reply") has.0 effects (ap (λ x. x.completion) has.2))
    unanswered_before first charged a number weight cost activation (Some v) None prints effects e has =
        let same : Some (Completes (left_of a.store [] Unchanged)) ≡ Some (Completes effects) = ap (λ x. x.completion) has.2 in
        let is : left_of a.store [] Unchanged ≡ effects = cc in
        subst (λ l. MayChange l.ending activation) is tt
    unanswered_before first charged a number weight cost activation (Some v) (Some w) prints effects e has = may_change effects.ending activation (waits_unanswered number activation w e)

    -- An answer comes to an open call.
    module _ (a : Actor L) (s : HostState) (r : Tied Related a s) (number : ℕ) (call : Call L.results L.value) (o : OpenCall)
        (found : call_at a.table number ≡ Some call) (open_now : is_open_state call.state ≡ true) (there : find (λ w. nat_eq w.number number) s.waiting ≡ Some o) (mine : o.owner ≡ call.owner)
        (received : Received) (given : Given (answer_event number received)) where
      abbrev rest : HostState
      rest = record s { waiting = others_open number s.waiting }

      abbrev caller : List ℕ
      caller = caller_of (slice_get s.incoming call.owner)

      answered_is : host_answered (slice_get s.incoming call.owner) ≡ is_answered (activation_at a.activations call.owner)
      answered_is = sym (incoming_at a.activations s.incoming call.owner r.agrees.incoming)

      world_rest : called_world limits own r.agrees.canister o.owner [] rest ≡ world_of limits own r.agrees.canister caller [] (is_answered (activation_at a.activations call.owner)) (length (others_open number s.waiting))
      world_rest =
          ap (λ k. called_world limits own r.agrees.canister k [] rest) mine
          ∙ ap (λ t. world_of limits own r.agrees.canister caller [] t (length (others_open number s.waiting))) answered_is

      abbrev value_now : Option L.value
      value_now = received_value p own a call received

      abbrev filled_agrees : Agrees (filled number value_now a) rest
      filled_agrees = still_agrees a s r.agrees number (Answered value_now) refl r.agrees.canister rest r.agrees.there refl refl refl a.activations r.agrees.incoming

      broken_tied : (w : Option L.waiting) → waiting_on number (activation_at a.activations call.owner) ≡ w → (store : Store World)
          → Related (broken_by number call.owner a w).charged (committed_state (broken_by number call.owner a w)) (left_by r.agrees.canister.code store) (others_open number s.waiting)
          → Tied Related (broken_by number call.owner a w) (with_canister rest (left_by r.agrees.canister.code store))
      broken_tied None e store h = record {
        agrees = still_agrees a s r.agrees number Lost refl (left_by r.agrees.canister.code store) (with_canister rest (left_by r.agrees.canister.code store)) refl refl refl refl a.activations r.agrees.incoming;
        related = h;
      }
      broken_tied (Some w) e store h = record {
        agrees = still_agrees a s r.agrees number (Answered None) refl (left_by r.agrees.canister.code store) (with_canister rest (left_by r.agrees.canister.code store)) refl refl refl refl
            (slice_set a.activations call.owner IsDead) (incoming_kept a.activations s.incoming call.owner IsDead r.agrees.incoming (sym (waits_unanswered number (activation_at a.activations call.owner) w e)));
        related = h;
      }

      broke : (prints shown : List (List ℕ)) (own_cause cause : Word) → prints ≡ shown → own_cause ≡ cause → CleansUp Related limits own a r.agrees.canister s.waiting number call o caller
          → Same Related (close call.owner (trap_items prints own_cause) (broken number call.owner a)) (clean_up limits own r.agrees.canister o cause shown rest)
      broke prints shown own_cause cause pe ce x =
          let ends : callback_end limits r.agrees.canister kind.Cleanup x.callback (called_world limits own r.agrees.canister o.owner [] rest) ≡ Finishes x.store =
          subst (λ w. callback_end limits r.agrees.canister kind.Cleanup x.callback w ≡ Finishes x.store) (sym world_rest) x.ends in
          let is = cleaned r.agrees.canister o cause shown rest x.callback x.store x.set ends in
          let items : trap_items prints own_cause ≡ host_printed shown ++ host_printed x.store.world.prints ++ item.Trapped cause ∷ [] =
          ap₂ trap_items pe ce ∙ ap (λ is. is ++ item.Trapped cause ∷ []) (sym (append-nil (host_printed shown)) ∙ ap (λ ps. host_printed shown ++ host_printed ps) (sym x.quiet)) in
          let same : Same Related (close call.owner (trap_items prints own_cause) (broken number call.owner a)) (closing call.owner (host_printed shown ++ host_printed x.store.world.prints ++ item.Trapped cause ∷ []) (with_canister rest (left_by r.agrees.canister.code x.store))) =
          close_same Related (broken number call.owner a) (with_canister rest (left_by r.agrees.canister.code x.store)) call.owner (trap_items prints own_cause) (host_printed shown ++ host_printed x.store.world.prints ++ item.Trapped cause ∷ []) items
          (broken_tied (waiting_on number (activation_at a.activations call.owner)) refl x.store x.related) in
          subst (Same Related (close call.owner (trap_items prints own_cause) (broken number call.owner a))) (sym is)
          (subst (λ k. Same Related (close call.owner (trap_items prints own_cause) (broken number call.owner a)) (closing k (host_printed shown ++ host_printed x.store.world.prints ++ item.Trapped cause ∷ []) (with_canister rest (left_by r.agrees.canister.code x.store)))) (sym mine) same)

      came_answer : (result : Result (Effects L)) (e : End) → HasResult pays p.first_memory a.charged (answering p own a number call received) result
          → EndsAlike (CommitsAlike Related (filled number value_now a) call.owner r.agrees.canister (others_open number s.waiting)) result e
          → ((cause : Word) (prints : List (List ℕ)) → e ≡ Breaks cause prints → CleansUp Related limits own a r.agrees.canister s.waiting number call o caller)
          → Same Related (answer_outcome number call.owner value_now a result) (after_callback r.agrees.canister o rest e)
      came_answer (Completed prints weight left) (Finishes store) has c cleans =
          let l : MayChange left.ending (activation_at a.activations call.owner) =
          unanswered_before p.first_memory a.charged a number weight (received_reading p own a call received) (activation_at a.activations call.owner) value_now (waiting_on number (activation_at a.activations call.owner)) prints left refl has in
          subst (λ k. Same Related (answer_outcome number call.owner value_now a (Completed prints weight left)) (finish k (left_by r.agrees.canister.code store) store.world rest)) (sym mine)
          (finish_same Related (filled number value_now a) rest filled_agrees call.owner weight prints left store c.0 c.1 l)
      came_answer (Completed prints weight left) (Breaks cause shown) has c cleans = absurd c
      came_answer (Trapped prints text) (Finishes store) has c cleans = absurd c
      came_answer (Trapped prints text) (Breaks cause shown) has c cleans = broke prints shown (word.Text text) cause c.0 c.1 (cleans cause shown refl)
      came_answer (Exhausted prints w) (Finishes store) has c cleans = absurd c
      came_answer (Exhausted prints w) (Breaks cause shown) has c cleans = broke prints shown w cause c.0 c.1 (cleans cause shown refl)

      open_lift : Lifted Related (λ o. ComesTo pays (open_course p own a true number call received) o) (enter_callback limits own (host_received received) r.agrees.canister o rest)
      open_lift =
          let at : StatesRelate Related a r.agrees.canister s.waiting = record { calls = r.agrees.calls; related = r.related } in
          let x = simulates.answers a r.agrees.canister s.waiting at number call found open_now o there received given caller in
          let e : World → End = λ w. callback_end limits r.agrees.canister (callback_kind (host_received received)) (callback_of (host_received received) o.call) (received_world (host_received received) w) in
          let w : World = called_world limits own r.agrees.canister o.owner [] rest in
          let came : EndsAlike (CommitsAlike Related (filled number value_now a) call.owner r.agrees.canister (others_open number s.waiting)) x.0 (e w) =
          subst (λ w. EndsAlike (CommitsAlike Related (filled number value_now a) call.owner r.agrees.canister (others_open number s.waiting)) x.0 (e w)) (sym world_rest) x.2 in
          let cleans : (cause : Word) (prints : List (List ℕ)) → e w ≡ Breaks cause prints → CleansUp Related limits own a r.agrees.canister s.waiting number call o caller =
          subst (λ w. (cause : Word) (prints : List (List ℕ)) → e w ≡ Breaks cause prints → CleansUp Related limits own a r.agrees.canister s.waiting number call o caller) (sym world_rest) x.3 in
          let same : Same Related (answer_outcome number call.owner value_now a x.0) (after_callback r.agrees.canister o rest (e w)) = came_answer x.0 (e w) x.1 came cleans in
          let is : enter_callback limits own (host_received received) r.agrees.canister o rest ≡ after_callback r.agrees.canister o rest (e w) = callback_by (host_received received) r.agrees.canister o rest (e w) refl in
          let end : Same Related (answer_outcome number call.owner value_now a x.0) (enter_callback limits own (host_received received) r.agrees.canister o rest) = subst (Same Related (answer_outcome number call.owner value_now a x.0)) (sym is) same in
          (answer_outcome number call.owner value_now a x.0, (x.0, x.1, refl), end.0, end.1)

    ignored : (a : Actor L) (s : HostState) → Tied Related a s → Lifted Related (λ o. o ≡ outcome (item.Ignored ∷ []) a) (host_outcome (item.Ignored ∷ []) s)
    ignored a s r = (outcome (item.Ignored ∷ []) a, refl, refl, r)

    module _ (a : Actor L) (s : HostState) (r : Tied Related a s) (number : ℕ) (received : Received) (given : Given (answer_event number received)) where
      by_state : (call : Call L.results L.value) (b : Bool) (host_found : Option OpenCall) → call_at a.table number ≡ Some call → is_open_state call.state ≡ b → find (λ w. nat_eq w.number number) s.waiting ≡ host_found
          → cond b ((o : OpenCall) × (host_found ≡ Some o) × (o.owner ≡ call.owner)) (host_found ≡ None)
          → Lifted Related (λ o. ComesTo pays (open_course p own a b number call received) o) (answered limits own number (host_received received) (Some r.agrees.canister) host_found s)
      by_state call false None at is there finds = ignored a s r
      by_state call false (Some o) at is there finds = absurd (cc)
      by_state call true None at is there finds = let e : None ≡ Some finds.0 = finds.1 in absurd (cc)
      by_state call true (Some o) at is there finds =
          let e : finds.0 ≡ o = cc in
          open_lift a s r number call o at is there (ap (λ o. o.owner) (sym e) ∙ finds.2) received given

      by_call : (call : Option (Call L.results L.value)) (host_found : Option OpenCall) → call_at a.table number ≡ call → find (λ w. nat_eq w.number number) s.waiting ≡ host_found → Finds number call host_found
          → Lifted Related (λ o. ComesTo pays (answer_course p own a number received call) o) (answered limits own number (host_received received) (Some r.agrees.canister) host_found s)
      by_call None None at there finds = ignored a s r
      by_call None (Some o) at there finds = absurd (cc)
      by_call (Some call) host_found at there finds = by_state call (is_open_state call.state) host_found at refl there finds

      pub answer_lift : Lifted Related (λ o. ComesTo pays (answer_course p own a number received (call_at a.table number)) o) (answer limits own number (host_received received) s)
      answer_lift =
          subst (λ c. Lifted Related (λ o. ComesTo pays (answer_course p own a number received (call_at a.table number)) o) (answered limits own number (host_received received) c (find (λ w. nat_eq w.number number) s.waiting) s)) (sym r.agrees.there)
          (by_call (call_at a.table number) (find (λ w. nat_eq w.number number) s.waiting) refl refl (find_open a.table.first number a.table.calls s.waiting r.agrees.calls))
