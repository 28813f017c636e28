-- Where no execution leaves more than 500 calls open, no state of a run has more.
use Rattle.std.proofs.Common.{◌≡◌, ℕ, zero, suc, ◌+◌, ◌≤◌, Bool, true, false, List, [], ◌∷◌, ◌++◌, length, map, Option, Some, None, refl, sym, ap, subst, nat_eq, if◌then◌else◌, slice_get, arith as arithmetic, codes}
use Rattle.std.specs.Prelude.{⊤}
use Rattle.std.specs.List.{AllByRecursion}
use Rattle.play_script.specs.declared.event.Event.{Event}
use Rattle.play_script.specs.declared.item.Item.{Item}
use Rattle.play_script.specs.declared.item.Word.TheVariants as word
use Rattle.mo_types.specs.Calls.{State, Answered, Lost, Call, is_open_state, count_open, open_count, set_from}
use Rattle.mo_actor.specs.Languages.{Language}
use Rattle.mo_actor.specs.Executions.{Completes}
use Rattle.mo_actor.specs.Programs.{OutgoingCall, Ending, Answers, Awaits, AwaitsNothing, Unchanged, Effects, Program}
use Rattle.mo_actor.specs.Measures.{Measure}
use Rattle.mo_actor.proofs.Trapping.{never_completes}
use Rattle.mo_actor.specs.Results.{Result, Completed, Trapped, Exhausted, HasResult}
use Rattle.mo_actor.specs.States.{Activation, IsAnswered, Actor, ActorState, NoActor, Running, activation_at, waiting_on, with_activation}
use Rattle.mo_actor.specs.Outcomes.{Outcome, trap_items, close}
use Rattle.mo_actor.specs.Completions.{open_call, committed, complete, after_query, update_outcome, query_outcome}
use Rattle.mo_actor.specs.IncomingCalls.{arrived, entered_body, entered}
use Rattle.mo_actor.specs.CallAnswers.{Received, no_effects, resumed, received_value, answering, broken_by, broken, filled, answer_outcome}
use Rattle.mo_actor.specs.Upgrades.{installed, upgraded}
use Rattle.mo_actor.specs.Reached.{LeadsTo}
use Rattle.mo_actor.specs.Laws.{KeepsRoom, CallsAreBounded}
use Rattle.mo_actor.proofs.Outcomes.{closes}
use Rattle.mo_actor.proofs.Events.{Cases, each_event}

-- ---- counts of open calls

module _ {T V : Type 0} where
  -- an answer opens no call
  fewer_set : (n number : ℕ) (calls : List (Call T V)) (st : State V) → is_open_state st ≡ false → count_open (set_from n calls number st) ≤ count_open calls
  fewer_set n number [] st shut = omega arithmetic
  fewer_set n number (c ∷ calls) st shut = by (nat_eq n number) (is_open_state c.state) (is_open_state st) shut refl refl (fewer_set (suc n) number calls st shut)
    where
      by : (here was is : Bool) → is ≡ false → is_open_state c.state ≡ was → is_open_state st ≡ is → count_open (set_from (suc n) calls number st) ≤ count_open calls
          → count_open (if here then record c { state = st } ∷ calls else c ∷ set_from (suc n) calls number st)
          ≤ (if is_open_state c.state then suc (count_open calls) else count_open calls)
      by true true true s e f next = absurd (cc)
      by true false true s e f next = absurd (cc)
      by true true false s e f next = rw (e, f) (omega arithmetic)
      by true false false s e f next = rw (e, f) (omega arithmetic)
      by false true is s e f next = rw e (omega (arithmetic, next))
      by false false is s e f next = rw e next

module _ {L : Language} where
  -- each call that was made is open
  count_made : (owner : ℕ) (calls : List (Call L.results L.value)) (made : List (OutgoingCall L)) → count_open (calls ++ map (open_call owner) made) ≡ count_open calls + length made
  count_made owner [] [] = refl
  count_made owner [] (m ∷ made) = let rest : count_open (map (open_call owner) made) ≡ 0 + length made = count_made owner [] made in omega (arithmetic, rest)
  count_made owner (c ∷ calls) made = by (is_open_state c.state) (count_made owner calls made)
    where
      by : (b : Bool) → count_open (calls ++ map (open_call owner) made) ≡ count_open calls + length made
          → (if b then suc (count_open (calls ++ map (open_call owner) made)) else count_open (calls ++ map (open_call owner) made))
          ≡ (if b then suc (count_open calls) else count_open calls) + length made
      by true e = omega (arithmetic, e)
      by false e = e

  abbrev HasRoom : Actor L → Type 0
  HasRoom a = open_count a.table ≤ 500

  filled_room : (number : ℕ) (value : Option L.value) (a : Actor L) → HasRoom a → HasRoom (filled number value a)
  filled_room number value a room =
      let fewer : count_open (set_from a.table.first a.table.calls number (Answered value)) ≤ count_open a.table.calls = fewer_set a.table.first number a.table.calls (Answered value) refl in
      omega (arithmetic, room, fewer)

  broken_room : (number owner : ℕ) (a : Actor L) → HasRoom a → HasRoom (broken number owner a)
  broken_room number owner a room = by (waiting_on number (activation_at a.activations owner))
    where
      by : (waiting : Option L.waiting) → HasRoom (broken_by number owner a waiting)
      by None =
          let fewer : count_open (set_from a.table.first a.table.calls number Lost) ≤ count_open a.table.calls = fewer_set a.table.first number a.table.calls Lost refl in
          omega (arithmetic, room, fewer)
      by (Some waiting) =
          let fewer : count_open (set_from a.table.first a.table.calls number (Answered None)) ≤ count_open a.table.calls =
          fewer_set a.table.first number a.table.calls (Answered None) refl in
          omega (arithmetic, room, fewer)

  closed_room : (owner : ℕ) (items : List Item) (a : Actor L) → HasRoom a → HasRoom (close owner items a).next
  closed_room owner items a room = closes (λ o. HasRoom o.next) owner items a room room

  complete_room : (owner : ℕ) (prints : List (List ℕ)) (weight : ℕ) (effects : Effects L) (a : Actor L) → open_count a.table + length effects.calls ≤ 500
      → HasRoom (complete owner prints weight effects a).next
  complete_room owner prints weight effects a room =
      let made : count_open (a.table.calls ++ map (open_call owner) effects.calls) ≡ count_open a.table.calls + length effects.calls = count_made owner a.table.calls effects.calls in
      closed_room owner _ (committed owner weight effects a) (omega (arithmetic, room, made))

  queried_room : (owner : ℕ) (items : List Item) (ending : Ending L) (a : Actor L) → HasRoom a → HasRoom (close owner items (after_query owner ending a)).next
  queried_room owner items (Answers answer) a room = closed_room owner items (with_activation owner IsAnswered a) room
  queried_room owner items (Awaits number waiting) a room = closed_room owner items a room
  queried_room owner items AwaitsNothing a room = closed_room owner items a room
  queried_room owner items Unchanged a room = closed_room owner items a room

  -- ---- executions

  module _ (pays : Measure) (own : List ℕ) (p : Program L) (keeps : KeepsRoom p) (a : Actor L) (room : HasRoom a) where
    entered_room : (body : Option L.body) (turns : ℕ) (effects : Effects L)
        → (entered_body p own a body turns).completion ≡ Some (Completes effects) → open_count a.table + length effects.calls ≤ 500
    entered_room None turns effects e = absurd (never_completes (codes "bad argument") turns effects e)
    entered_room (Some body) turns effects e = keeps own a.table a.store body turns effects room e

    resumed_room : (number : ℕ) (value : Option L.value) (waiting : Option L.waiting) (turns : ℕ) (effects : Effects L)
        → (resumed p own a number value waiting turns).completion ≡ Some (Completes effects) → open_count (filled number value a).table + length effects.calls ≤ 500
    resumed_room number None waiting turns effects e = absurd (never_completes (codes "bad reply") turns effects e)
    resumed_room number (Some value) None turns effects e =
        let none : no_effects a ≡ effects = cc in
        subst (λ effects. open_count (filled number (Some value) a).table + length effects.calls ≤ 500) none
        (let few : HasRoom (filled number (Some value) a) = filled_room number (Some value) a room in omega (arithmetic, few))
    resumed_room number (Some value) (Some waiting) turns effects e =
        keeps own (filled number (Some value) a).table a.store (p.resume waiting value) turns effects (filled_room number (Some value) a room) e

    update_room : (method : L.method) (caller bytes : List ℕ) (r : Result (Effects L)) → HasResult pays p.first_memory a.charged (entered p own a method caller bytes) r
        → HasRoom (update_outcome (length a.activations) (arrived a) r).next
    update_room method caller bytes (Completed prints weight effects) has =
        complete_room (length a.activations) prints weight effects (arrived a) (entered_room (p.enter method caller bytes) has.0 effects (ap (λ q. q.completion) has.2))
    update_room method caller bytes (Trapped prints text) has = closed_room (length a.activations) (trap_items prints (word.Text text)) (arrived a) room
    update_room method caller bytes (Exhausted prints cause) has = closed_room (length a.activations) (trap_items prints cause) (arrived a) room

    answer_room : (number : ℕ) (call : Call L.results L.value) (received : Received) (r : Result (Effects L))
        → HasResult pays p.first_memory a.charged (answering p own a number call received) r
        → HasRoom (answer_outcome number call.owner (received_value p own a call received) a r).next
    answer_room number call received (Completed prints weight effects) has =
        complete_room call.owner prints weight effects (filled number (received_value p own a call received) a)
        (resumed_room number (received_value p own a call received) (waiting_on number (activation_at a.activations call.owner)) has.0 effects (ap (λ q. q.completion) has.2))
    answer_room number call received (Trapped prints text) has = closed_room call.owner (trap_items prints (word.Text text)) (broken number call.owner a) (broken_room number call.owner a room)
    answer_room number call received (Exhausted prints cause) has = closed_room call.owner (trap_items prints cause) (broken number call.owner a) (broken_room number call.owner a room)

    query_room : (r : Result (Effects L)) → HasRoom (query_outcome (length a.activations) (arrived a) r).next
    query_room (Completed prints weight effects) = queried_room (length a.activations) _ effects.ending (arrived a) room
    query_room (Trapped prints text) = closed_room (length a.activations) (trap_items prints (word.Text text)) (arrived a) room
    query_room (Exhausted prints cause) = closed_room (length a.activations) (trap_items prints cause) (arrived a) room

  -- ---- events

  abbrev RoomIn : ActorState L → Type 0
  RoomIn (NoActor made activations) = ⊤
  RoomIn (Running p a) = KeepsRoom p × HasRoom a

  abbrev StaysBounded : Event → ActorState L → Outcome (ActorState L) → Type 0
  StaysBounded e state o = RoomIn state → RoomIn o.next

  abbrev KeepsOption : Option (Program L) → Type 0
  KeepsOption None = ⊤
  KeepsOption (Some p) = KeepsRoom p

  keeps_at : (programs : List (Program L)) → AllByRecursion (λ p. KeepsRoom p) programs → (number : ℕ) → KeepsOption (slice_get programs number)
  keeps_at [] all number = tt
  keeps_at (p ∷ programs) all zero = all.0
  keeps_at (p ∷ programs) all (suc number) = keeps_at programs all.1 number

  module _ (pays : Measure) (programs : List (Program L)) (all : AllByRecursion (λ p. KeepsRoom p) programs) (own : List ℕ) where
    program_keeps : (number : ℕ) (p : Program L) → slice_get programs number ≡ Some p → KeepsRoom p
    program_keeps number p found = subst KeepsOption found (keeps_at programs all number)

    installed_room : (p : Program L) → KeepsRoom p → (made : ℕ) (activations : List (Activation L)) (r : Result L.store) → RoomIn (installed p made activations r).next
    installed_room p keeps made activations (Completed prints weight store) = (keeps, omega arithmetic)
    installed_room p keeps made activations (Trapped prints text) = tt
    installed_room p keeps made activations (Exhausted prints cause) = tt

    upgraded_room : (old : Program L) (a : Actor L) (p : Program L) → KeepsRoom p → (before : List (List ℕ)) (r : Result L.store) → RoomIn (Running old a) → RoomIn (upgraded old a p before r).next
    upgraded_room old a p keeps before (Completed prints weight store) was = (keeps, omega arithmetic)
    upgraded_room old a p keeps before (Trapped prints text) was = was
    upgraded_room old a p keeps before (Exhausted prints cause) was = was

    room_cases : Cases pays programs own StaysBounded
    room_cases = record {
      ignored = λ e state was. was;
      installs = λ number made activations p found r has was. installed_room p (program_keeps number p found) made activations r;
      no_canister = λ query name caller bytes made activations was. tt;
      no_method = λ query name caller bytes p a was. was;
      update = λ name caller bytes p a method found r has was. (was.0, update_room pays own p was.0 a was.1 method caller bytes r has);
      query = λ query name caller bytes p a method r has was. (was.0, query_room pays own p was.0 a was.1 r);
      answer = λ number received p a call found opened r has was. (was.0, answer_room pays own p was.0 a was.1 number call received r has);
      save_traps = λ number old a prints text has was. was;
      save_exhausted = λ number old a prints cause has was. was;
      upgrades = λ number old a p found before weight kept saves r has was. upgraded_room old a p (program_keeps number p found) before r was;
    }

    leads_room : (events : List Event) (state last : ActorState L) → RoomIn state → LeadsTo pays programs own state events last → RoomIn last
    leads_room [] state last was h = subst RoomIn (sym h) was
    leads_room (e ∷ events) state last was h = leads_room events (h.0).next last (each_event pays programs own StaysBounded room_cases e state h.0 h.1 was) h.2

pub calls_are_bounded : (L : Language) (pays : Measure) → CallsAreBounded L pays
calls_are_bounded L pays programs all own events p a h = (leads_room pays programs all own events (NoActor 0 []) (Running p a) tt h).1
