-- Executions that came to an end, or trapped: what the actor makes of them, and its host.
use Rattle.std.proofs.Common.{◌≡◌, ℕ, ◌+◌, Bool, true, false, not, ◌&&◌, cond, List, [], ◌∷◌, ◌++◌, length, length-append, map, Option, Some, None, refl, sym, ap, ap₂, ◌∙◌, subst, append_assoc, append-nil, nat_eq, slice_get, slice_set, true≢false, arith, codes}
use Rattle.std.proofs.lemmas.List.{map-append, length-map}
use Rattle.std.specs.Bool.{⊤}
use Rattle.std.specs.List.{list_any}
use Rattle.mo_types.specs.Calls.{next_number}
use Rattle.play_script.specs.declared.item.Item.{Item}
use Rattle.play_script.specs.declared.item.Item.TheVariants as item
use Rattle.play_script.specs.declared.item.Word.TheVariants as word
use Rattle.wasm_tree.specs.Exec.{ExecutionLimits, Store}
use Rattle.ic0_world.specs.declared.kind.ExecutionKind.{ExecutionKind}
use Rattle.ic0_world.specs.declared.world.OutgoingCall.{OutgoingCall as PerformedCall}
use Rattle.ic0_world.specs.declared.world.Answer.{Answer}
use Rattle.ic0_world.specs.declared.world.Answer.TheVariants.{Replied, Rejected}
use Rattle.ic0_world.specs.declared.world.World.{World}
use Rattle.canister_host.specs.State.{Canister, HostState}
use Rattle.canister_host.specs.declared.calls.IncomingCall.{IncomingCall}
use Rattle.canister_host.specs.declared.calls.OpenCall.{OpenCall}
use Rattle.canister_host.specs.Execution.{End, Finishes, Breaks, execution, left_by}
use Rattle.canister_host.specs.HostRun.{enter_method, entry_of, called_world, closing, finish, numbered, call_item, answer_items, if_answer, set_answered, answered_call, lacks_answer}
use Rattle.canister_host.specs.HostRun.{is_answered as host_answered, Outcome as HostOutcome, outcome as host_outcome, printed as host_printed}
use Rattle.mo_actor.specs.Languages.{Language}
use Rattle.mo_actor.specs.Programs.{Replies, Rejects, OutgoingCall, Ending, Answers, Awaits, AwaitsNothing, Unchanged, Effects}
use Rattle.mo_actor.specs.Results.{Result, Completed, Trapped, Exhausted}
use Rattle.mo_actor.specs.States.{Activation, IsAnswered, IsDead, WaitsFor, WaitsForNothing, Actor, owns_open, activation_at, is_answered, waiting_on, with_activation, is_starved}
use Rattle.mo_actor.specs.Outcomes.{Outcome, outcome, print_items, trap_items, call_items, close}
use Rattle.mo_actor.specs.Outcomes.{answer_items as actor_answers}
use Rattle.mo_actor.specs.Completions.{activation_after, open_call, committed, complete, update_outcome, after_query, query_outcome}
use Rattle.mo_actor.specs.IncomingCalls.{arrived}
use Rattle.mo_actor.specs.Passes.{CommittedState, committed_state}
use Rattle.mo_actor.proofs.Books.{held_pushed, held_closed, held_quiet}
use Rattle.actor_refinement.specs.Ends.{EndsAlike}
use Rattle.actor_refinement.specs.Agreement.{owner_of, open_owners, SameIncoming, Agrees}
use Rattle.actor_refinement.specs.Simulates.{SameCalls, SameAnswer, CommitsAlike, QueriesAlike}
use Rattle.actor_refinement.proofs.OpenCalls.{owns_same}
use Rattle.actor_refinement.proofs.Incoming.{calls_open, calls_counted, calls_shown, incoming_push, incoming_at, incoming_set, incoming_kept}

module _ {L : Language} where
  -- How an execution may leave an activation: one that waits was not answered.
  abbrev pub MayChange : Ending L → Activation L → Type 0
  MayChange (Answers answer) activation = ⊤
  MayChange (Awaits number w) activation = is_answered activation ≡ false
  MayChange AwaitsNothing activation = is_answered activation ≡ false
  MayChange Unchanged activation = ⊤

  pub may_change : (ending : Ending L) (activation : Activation L) → is_answered activation ≡ false → MayChange ending activation
  may_change (Answers answer) activation e = tt
  may_change (Awaits number w) activation e = e
  may_change AwaitsNothing activation e = e
  may_change Unchanged activation e = tt

  abbrev pub left_of : L.store → List (OutgoingCall L) → Ending L → Effects L
  left_of store calls ending = record { store = store; calls = calls; ending = ending }

-- ---- methods, as the host enters them

abbrev pub after_method : Bool → Canister → ℕ → HostState → End → HostOutcome
after_method keeps c owner s (Finishes store) = finish owner (cond keeps c (left_by c.code store)) store.world s
after_method keeps c owner s (Breaks cause prints) = closing owner (host_printed prints ++ item.Trapped cause ∷ []) s

pub enters_by : (limits : ExecutionLimits) (own : List ℕ) (c : Canister) (k : ExecutionKind) (keeps : Bool) (f owner : ℕ) (argument : List ℕ) (s : HostState) (e : End)
    → execution limits c.code c.instance (entry_of k (Some f) []) (called_world limits own c owner argument s) ≡ e
    → enter_method limits own c k keeps f owner argument s ≡ after_method keeps c owner s e
enters_by limits own c k keeps f owner argument s (Finishes store) e = rw e refl
enters_by limits own c k keeps f owner argument s (Breaks cause prints) e = rw e refl

module _ {L : Language} (Related : (charged : ℕ) → CommittedState L → Canister → List OpenCall → Type 0) where
  pub record Tied (a : Actor L) (s : HostState) : Type 0 where
    pub agrees : Agrees a s
    pub related : Related a.charged (committed_state a) agrees.canister s.waiting

  -- The same items, and related states.
  abbrev pub Same : Outcome (Actor L) → HostOutcome → Type 0
  Same o q = (o.items ≡ q.items) × Tied o.next q.next

  -- ---- the rejection of a starved call

  abbrev Closed : Bool → ℕ → List Item → Actor L → Outcome (Actor L)
  Closed b owner items a = cond b (outcome (items ++ item.Rejected owner 5 (codes "no answer") ∷ []) (with_activation owner IsAnswered a)) (outcome items a)

  abbrev HostClosed : Bool → ℕ → List Item → HostState → HostOutcome
  HostClosed b owner items s = cond b (host_outcome (items ++ item.Rejected owner 5 (codes "no answer") ∷ []) (set_answered owner s)) (host_outcome items s)

  answered_now : (a : Actor L) (s : HostState) (owner : ℕ) → Tied a s → owns_open a.table owner ≡ false → Tied (with_activation owner IsAnswered a) (set_answered owner s)
  answered_now a s owner r none = record {
    agrees = record {
      canister = r.agrees.canister;
      there = r.agrees.there;
      incoming = incoming_set a.activations s.incoming owner IsAnswered (answered_call (slice_get s.incoming owner)) r.agrees.incoming refl;
      calls = r.agrees.calls;
      made = r.agrees.made;
    };
    related = subst (λ h. Related a.charged (record { store = a.store; first = a.table.first; calls = h }) r.agrees.canister s.waiting) (sym (held_closed a.table.first owner a.table.calls a.activations IsAnswered none)) r.related;
  }

  closed_same : (b : Bool) (a : Actor L) (s : HostState) (owner : ℕ) (items shown : List Item) → items ≡ shown → Tied a s → (b ≡ true → owns_open a.table owner ≡ false)
      → Same (Closed b owner items a) (HostClosed b owner shown s)
  closed_same true a s owner items shown e r none = (ap (λ is. is ++ item.Rejected owner 5 (codes "no answer") ∷ []) e, answered_now a s owner r (none refl))
  closed_same false a s owner items shown e r none = (e, r)

  right_false : (x y : Bool) → (not x && not y) ≡ true → y ≡ false
  right_false true y e = absurd (true≢false (sym e))
  right_false false true e = absurd (true≢false (sym e))
  right_false false false e = refl

  pub close_same : (a : Actor L) (s : HostState) (owner : ℕ) (items shown : List Item) → items ≡ shown → Tied a s → Same (close owner items a) (closing owner shown s)
  close_same a s owner items shown e r =
      let answered : is_answered (activation_at a.activations owner) ≡ host_answered (slice_get s.incoming owner) = incoming_at a.activations s.incoming owner r.agrees.incoming in
      let owns : owns_open a.table owner ≡ list_any (λ w. nat_eq w.owner owner) s.waiting = owns_same a.table.first owner a.table.calls s.waiting r.agrees.calls in
      let same : is_starved owner a ≡ lacks_answer owner s = ap₂ (λ x y. not x && not y) answered owns in
      subst (λ b. Same (close owner items a) (HostClosed b owner shown s)) same
      (closed_same (is_starved owner a) a s owner items shown e r (λ q. right_false (is_answered (activation_at a.activations owner)) (owns_open a.table owner) q))

  -- ---- executions that came to an end

  abbrev host_left : HostState → Canister → ℕ → List PerformedCall → HostState
  host_left s c owner performed = record s { canister = Some c; made = s.made + length performed; waiting = s.waiting ++ numbered owner s.made performed }

  module _ (a : Actor L) (s : HostState) (agrees : Agrees a s) (owner weight : ℕ) (store : L.store) (calls : List (OutgoingCall L)) (performed : List PerformedCall) (c : Canister) (same : SameCalls calls performed) where
    made_now : a.table.first + length (a.table.calls ++ map (open_call owner) calls) ≡ s.made + length performed
    made_now =
        let number : a.table.first + length a.table.calls ≡ s.made = agrees.made in
        omega (arith, length-append a.table.calls (map (open_call owner) calls), length-map calls (open_call owner), calls_counted calls performed same, number)

    calls_now : map owner_of (s.waiting ++ numbered owner s.made performed) ≡ open_owners a.table.first (a.table.calls ++ map (open_call owner) calls)
    calls_now =
        map-append owner_of s.waiting (numbered owner s.made performed) ∙ ap (λ os. os ++ map owner_of (numbered owner s.made performed)) agrees.calls
        ∙ sym (calls_open a.table.first s.made owner a.table.calls calls performed same (sym agrees.made))

    left_related : (ending : Ending L) (now : HostState) → now.canister ≡ Some c → now.made ≡ s.made + length performed → now.waiting ≡ s.waiting ++ numbered owner s.made performed
        → SameIncoming (slice_set a.activations owner (activation_after ending (activation_at a.activations owner))) now.incoming
        → Related (committed owner weight (left_of store calls ending) a).charged (committed_state (committed owner weight (left_of store calls ending) a)) c (s.waiting ++ numbered owner s.made performed) → Tied (committed owner weight (left_of store calls ending) a) now
    left_related ending now there made waiting activations h = record {
      agrees = record { canister = c; there = there; incoming = activations; calls = ap (map owner_of) waiting ∙ calls_now; made = made_now ∙ sym made };
      related = subst (Related (committed owner weight (left_of store calls ending) a).charged (committed_state (committed owner weight (left_of store calls ending) a)) c) (sym waiting) h;
    }

    abbrev AfterAnswer : Ending L → Option Answer → Type 0
    AfterAnswer ending answer = (actor_answers owner ending ≡ answer_items owner answer)
        × Tied (committed owner weight (left_of store calls ending) a) (if_answer owner answer (host_left s c owner performed))

    after_answer : (ending : Ending L) (answer : Option Answer) → SameAnswer ending answer → MayChange ending (activation_at a.activations owner)
        → Related (committed owner weight (left_of store calls ending) a).charged (committed_state (committed owner weight (left_of store calls ending) a)) c (s.waiting ++ numbered owner s.made performed) → AfterAnswer ending answer
    after_answer (Answers (Replies bytes)) None is l h = absurd (cc)
    after_answer (Answers (Replies bytes)) (Some x) is l h =
        let e : x ≡ Replied bytes = cc in
        (ap (λ y. answer_items owner (Some y)) (sym e), left_related (Answers (Replies bytes)) (set_answered owner (host_left s c owner performed)) refl refl refl (incoming_set a.activations s.incoming owner IsAnswered (answered_call (slice_get s.incoming owner)) agrees.incoming refl) h)
    after_answer (Answers (Rejects code text)) None is l h = absurd (cc)
    after_answer (Answers (Rejects code text)) (Some x) is l h =
        let e : x ≡ Rejected code text = cc in
        (ap (λ y. answer_items owner (Some y)) (sym e), left_related (Answers (Rejects code text)) (set_answered owner (host_left s c owner performed)) refl refl refl (incoming_set a.activations s.incoming owner IsAnswered (answered_call (slice_get s.incoming owner)) agrees.incoming refl) h)
    after_answer (Awaits number w) None is l h =
        (refl, left_related (Awaits number w) (host_left s c owner performed) refl refl refl (incoming_kept a.activations s.incoming owner (WaitsFor number w) agrees.incoming (sym l)) h)
    after_answer (Awaits number w) (Some x) is l h = absurd (cc)
    after_answer AwaitsNothing None is l h =
        (refl, left_related AwaitsNothing (host_left s c owner performed) refl refl refl (incoming_kept a.activations s.incoming owner WaitsForNothing agrees.incoming (sym l)) h)
    after_answer AwaitsNothing (Some x) is l h = absurd (cc)
    after_answer Unchanged None is l h =
        (refl, left_related Unchanged (host_left s c owner performed) refl refl refl (incoming_kept a.activations s.incoming owner (activation_at a.activations owner) agrees.incoming refl) h)
    after_answer Unchanged (Some x) is l h = absurd (cc)

  pub finish_same : (a : Actor L) (s : HostState) (agrees : Agrees a s) (owner weight : ℕ) (prints : List (List ℕ)) (left : Effects L) (store : Store World) → prints ≡ store.world.prints
      → CommitsAlike Related a owner agrees.canister s.waiting weight left store → MayChange left.ending (activation_at a.activations owner)
      → Same (complete owner prints weight left a) (finish owner (left_by agrees.canister.code store) store.world s)
  finish_same a s agrees owner weight prints left store e t l =
      let c : Canister = left_by agrees.canister.code store in
      let performed : List PerformedCall = store.world.performed in
      let holds : Related (committed owner weight left a).charged (committed_state (committed owner weight left a)) c (s.waiting ++ numbered owner s.made performed) = subst (λ n. Related (committed owner weight left a).charged (committed_state (committed owner weight left a)) c (s.waiting ++ numbered owner n performed)) agrees.made t.related in
      let x : AfterAnswer a s agrees owner weight left.store left.calls performed c t.calls left.ending store.world.answer =
      after_answer a s agrees owner weight left.store left.calls performed c t.calls left.ending store.world.answer t.answer l holds in
      let calls : call_items (next_number a.table) left.calls ≡ map call_item (numbered owner s.made performed) = ap (λ n. call_items n left.calls) agrees.made ∙ calls_shown s.made owner left.calls performed t.calls in
      let items : print_items prints ++ (call_items (next_number a.table) left.calls ++ actor_answers owner left.ending) ≡ host_printed store.world.prints ++ map call_item (numbered owner s.made performed) ++ answer_items owner store.world.answer =
      sym (append_assoc (print_items prints) (call_items (next_number a.table) left.calls) (actor_answers owner left.ending))
      ∙ ap₂ (λ x y. x ++ y) (ap₂ (λ ps is. print_items ps ++ is) e calls) x.0 in
      close_same (committed owner weight left a) (if_answer owner store.world.answer (host_left s c owner performed)) owner
      (print_items prints ++ (call_items (next_number a.table) left.calls ++ actor_answers owner left.ending)) (host_printed store.world.prints ++ map call_item (numbered owner s.made performed) ++ answer_items owner store.world.answer) items x.1

  -- ---- methods

  pub came_update : (a : Actor L) (s : HostState) (agrees : Agrees a s) (owner : ℕ) → Related a.charged (committed_state a) agrees.canister s.waiting → is_answered (activation_at a.activations owner) ≡ false → (r : Result (Effects L)) (e : End)
      → EndsAlike (CommitsAlike Related a owner agrees.canister s.waiting) r e → Same (update_outcome owner a r) (after_method false agrees.canister owner s e)
  came_update a s agrees owner h l (Completed prints weight left) (Finishes store) c = finish_same a s agrees owner weight prints left store c.0 c.1 (may_change left.ending (activation_at a.activations owner) l)
  came_update a s agrees owner h l (Completed prints weight left) (Breaks cause shown) c = absurd c
  came_update a s agrees owner h l (Trapped prints text) (Finishes store) c = absurd c
  came_update a s agrees owner h l (Trapped prints text) (Breaks cause shown) c =
      close_same a s owner (trap_items prints (word.Text text)) (host_printed shown ++ item.Trapped cause ∷ []) (ap₂ trap_items c.0 c.1) (record { agrees = agrees; related = h })
  came_update a s agrees owner h l (Exhausted prints w) (Finishes store) c = absurd c
  came_update a s agrees owner h l (Exhausted prints w) (Breaks cause shown) c =
      close_same a s owner (trap_items prints w) (host_printed shown ++ item.Trapped cause ∷ []) (ap₂ trap_items c.0 c.1) (record { agrees = agrees; related = h })

  -- One that is answered and did not wait.
  pub answered_quiet : (a : Actor L) (s : HostState) (owner : ℕ) → Tied a s → activation_at a.activations owner ≡ IsDead → Tied (with_activation owner IsAnswered a) (set_answered owner s)
  answered_quiet a s owner r dead = record {
    agrees = record {
      canister = r.agrees.canister;
      there = r.agrees.there;
      incoming = incoming_set a.activations s.incoming owner IsAnswered (answered_call (slice_get s.incoming owner)) r.agrees.incoming refl;
      calls = r.agrees.calls;
      made = r.agrees.made;
    };
    related = subst (λ h. Related a.charged (record { store = a.store; first = a.table.first; calls = h }) r.agrees.canister s.waiting)
        (sym (held_quiet a.table.first owner a.table.calls a.activations IsAnswered (λ k. sym (ap (waiting_on k) dead)))) r.related;
  }

  -- A query made no calls.
  no_calls_made : (a : Actor L) (s : HostState) (r : Tied a s) (owner : ℕ) → Tied a (host_left s r.agrees.canister owner [])
  no_calls_made a s r owner = record {
    agrees = record {
      canister = r.agrees.canister;
      there = refl;
      incoming = r.agrees.incoming;
      calls = ap (map owner_of) (append-nil s.waiting) ∙ r.agrees.calls;
      made = r.agrees.made ∙ omega arith;
    };
    related = subst (Related a.charged (committed_state a) r.agrees.canister) (sym (append-nil s.waiting)) r.related;
  }

  query_answered : (a : Actor L) (s : HostState) (owner : ℕ) → Tied a s → activation_at a.activations owner ≡ IsDead → (ending : Ending L) (answer : Option Answer) → SameAnswer ending answer
      → (actor_answers owner ending ≡ answer_items owner answer) × Tied (after_query owner ending a) (if_answer owner answer s)
  query_answered a s owner r dead (Answers (Replies bytes)) None is = absurd (cc)
  query_answered a s owner r dead (Answers (Replies bytes)) (Some x) is =
      let e : x ≡ Replied bytes = cc in
      (ap (λ y. answer_items owner (Some y)) (sym e), answered_quiet a s owner r dead)
  query_answered a s owner r dead (Answers (Rejects code text)) None is = absurd (cc)
  query_answered a s owner r dead (Answers (Rejects code text)) (Some x) is =
      let e : x ≡ Rejected code text = cc in
      (ap (λ y. answer_items owner (Some y)) (sym e), answered_quiet a s owner r dead)
  query_answered a s owner r dead (Awaits number w) None is = (refl, r)
  query_answered a s owner r dead (Awaits number w) (Some x) is = absurd (cc)
  query_answered a s owner r dead AwaitsNothing None is = (refl, r)
  query_answered a s owner r dead AwaitsNothing (Some x) is = absurd (cc)
  query_answered a s owner r dead Unchanged None is = (refl, r)
  query_answered a s owner r dead Unchanged (Some x) is = absurd (cc)

  pub came_query : (a : Actor L) (s : HostState) (r : Tied a s) (owner : ℕ) → activation_at a.activations owner ≡ IsDead → (result : Result (Effects L)) (e : End)
      → EndsAlike (QueriesAlike) result e → Same (query_outcome owner a result) (after_method true r.agrees.canister owner s e)
  came_query a s r owner dead (Completed prints weight left) (Finishes store) c =
      let x = query_answered a (host_left s r.agrees.canister owner []) owner (no_calls_made a s r owner) dead left.ending store.world.answer c.1.answer in
      let items : print_items prints ++ actor_answers owner left.ending ≡ host_printed store.world.prints ++ [] ++ answer_items owner store.world.answer =
      ap₂ (λ ps is. print_items ps ++ is) c.0 x.0 ∙ ap (λ is. is ++ answer_items owner store.world.answer) (sym (append-nil (host_printed store.world.prints))) in
      let now : Same (query_outcome owner a (Completed prints weight left)) (closing owner (host_printed store.world.prints ++ [] ++ answer_items owner store.world.answer) (if_answer owner store.world.answer (host_left s r.agrees.canister owner []))) =
      close_same (after_query owner left.ending a) (if_answer owner store.world.answer (host_left s r.agrees.canister owner [])) owner
      (print_items prints ++ actor_answers owner left.ending) (host_printed store.world.prints ++ [] ++ answer_items owner store.world.answer) items x.1 in
      subst (λ ps. Same (query_outcome owner a (Completed prints weight left)) (closing owner (host_printed store.world.prints ++ map call_item (numbered owner s.made ps) ++ answer_items owner store.world.answer) (if_answer owner store.world.answer (host_left s r.agrees.canister owner ps))))
      (sym c.1.none) now
  came_query a s r owner dead (Completed prints weight left) (Breaks cause shown) c = absurd c
  came_query a s r owner dead (Trapped prints text) (Finishes store) c = absurd c
  came_query a s r owner dead (Trapped prints text) (Breaks cause shown) c =
      close_same a s owner (trap_items prints (word.Text text)) (host_printed shown ++ item.Trapped cause ∷ []) (ap₂ trap_items c.0 c.1) r
  came_query a s r owner dead (Exhausted prints w) (Finishes store) c = absurd c
  came_query a s r owner dead (Exhausted prints w) (Breaks cause shown) c =
      close_same a s owner (trap_items prints w) (host_printed shown ++ item.Trapped cause ∷ []) (ap₂ trap_items c.0 c.1) r

  abbrev pub arrived_related : (a : Actor L) (s : HostState) → Tied a s → (call : IncomingCall) → call.answered ≡ false → Tied (arrived a) (record s { incoming = s.incoming ++ call ∷ [] })
  arrived_related a s r call e = record {
    agrees = record {
      canister = r.agrees.canister;
      there = r.agrees.there;
      incoming = incoming_push a.activations s.incoming IsDead call r.agrees.incoming (sym e);
      calls = r.agrees.calls;
      made = r.agrees.made;
    };
    related = subst (λ h. Related a.charged (record { store = a.store; first = a.table.first; calls = h }) r.agrees.canister s.waiting) (sym (held_pushed a.table.first a.table.calls a.activations)) r.related;
  }

  -- The host's outcome is one of the actor's.
  abbrev pub Lifted : (Outcome (Actor L) → Type 0) → HostOutcome → Type 0
  Lifted Steps q = (o : Outcome (Actor L)) × Steps o × (o.items ≡ q.items) × Tied o.next q.next
