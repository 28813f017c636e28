-- Between events each incoming call is answered, or has an open outgoing call.
use Rattle.std.proofs.Common.{◌≡◌, ℕ, zero, suc, Bool, true, false, not, ◌&&◌, ◌||◌, cond, List, [], ◌∷◌, ◌++◌, length, map, Option, Some, None, refl, sym, ap, ◌∙◌, subst, true≢false, nat_eq, eq-eqb, eqb-true, ne_eqb, if◌then◌else◌, slice_set, codes, arith as arithmetic}
use Rattle.std.specs.List.{list_any}
use Rattle.play_script.specs.declared.event.Event.{Event}
use Rattle.play_script.specs.declared.item.Item.{Item}
use Rattle.mo_types.specs.Calls.{State, Answered, Lost, Call, is_open_state, count_open, open_count, call_from, call_at, set_from}
use Rattle.mo_actor.specs.Languages.{Language}
use Rattle.mo_actor.specs.Executions.{Completes, trapping}
use Rattle.mo_actor.specs.Programs.{Ending, Answers, Awaits, AwaitsNothing, Unchanged, Effects, Program}
use Rattle.mo_actor.specs.Measures.{Measure}
use Rattle.mo_actor.proofs.Trapping.{never_completes}
use Rattle.mo_actor.specs.Results.{Result, Completed, Trapped, Exhausted, HasResult}
use Rattle.mo_actor.specs.States.{Activation, IsAnswered, IsDead, Actor, ActorState, NoActor, Running, or_answered, activation_at, is_answered, waiting_on, with_activation, owns_open, is_starved}
use Rattle.mo_actor.specs.Outcomes.{Outcome, outcome, rejected, close}
use Rattle.mo_actor.specs.Completions.{open_call, activation_after, committed, after_query, update_outcome, query_outcome}
use Rattle.mo_actor.specs.IncomingCalls.{arrived}
use Rattle.mo_actor.specs.CallAnswers.{broken_by, broken, filled, answer_outcome}
use Rattle.mo_actor.specs.Upgrades.{installed, saving, upgraded}
use Rattle.mo_actor.specs.Reached.{LeadsTo}
use Rattle.mo_actor.specs.Laws.{UnansweredCallsWait}
use Rattle.mo_actor.proofs.Lists.{get_set_other}
use Rattle.mo_actor.proofs.Events.{Cases, each_event}

-- ---- who owns an open call

module _ {T V : Type 0} where
  abbrev owns : (owner : ℕ) → List (Call T V) → Bool
  owns owner calls = list_any (λ c. is_open_state c.state && nat_eq c.owner owner) calls

  owns_more : (owner : ℕ) (calls others : List (Call T V)) → owns owner calls ≡ true → owns owner (calls ++ others) ≡ true
  owns_more owner [] others e = absurd (true≢false (sym e))
  owns_more owner (c ∷ calls) others e = by (is_open_state c.state && nat_eq c.owner owner) (owns owner calls) e (owns_more owner calls others)
    where
      by : (b d : Bool) → (b || d) ≡ true → (d ≡ true → owns owner (calls ++ others) ≡ true) → (b || owns owner (calls ++ others)) ≡ true
      by true d e next = refl
      by false d e next = next e

  -- another owner's call changes nothing
  owns_set : (n number owner : ℕ) (calls : List (Call T V)) (call : Call T V) (st : State V) → call_from n calls number ≡ Some call → (owner ≡ call.owner → ⊥)
      → owns owner calls ≡ true → owns owner (set_from n calls number st) ≡ true
  owns_set n number owner [] call st found other e = absurd (true≢false (sym e))
  owns_set n number owner (c ∷ calls) call st found other e =
      by (nat_eq n number) found (λ found e. owns_set (suc n) number owner calls call st found other e)
    where
      not_it : (c ≡ call) → nat_eq c.owner owner ≡ false
      not_it same = ne_eqb c.owner owner (λ q. other (sym q ∙ ap (λ c. c.owner) same))

      and_false : (x y : Bool) → y ≡ false → (x && y) ≡ false
      and_false true y f = f
      and_false false y f = refl

      first_out : (b : Bool) → b ≡ false → (b || owns owner calls) ≡ true → owns owner calls ≡ true
      first_out true f e = absurd (true≢false f)
      first_out false f e = e

      second_in : (b d : Bool) → d ≡ true → (b || d) ≡ true
      second_in true d f = refl
      second_in false d f = f

      rest : (b d : Bool) → (b || owns owner calls) ≡ true → (owns owner calls ≡ true → d ≡ true) → (b || d) ≡ true
      rest true d e next = refl
      rest false d e next = next e

      by : (here : Bool) → (if here then Some c else call_from (suc n) calls number) ≡ Some call
          → (call_from (suc n) calls number ≡ Some call → owns owner calls ≡ true → owns owner (set_from (suc n) calls number st) ≡ true)
          → owns owner (if here then record c { state = st } ∷ calls else c ∷ set_from (suc n) calls number st) ≡ true
      by true it next =
          let same : c ≡ call = cc in
          second_in (is_open_state st && nat_eq c.owner owner) (owns owner calls)
          (first_out (is_open_state c.state && nat_eq c.owner owner) (and_false (is_open_state c.state) (nat_eq c.owner owner) (not_it same)) e)
      by false it next =
          rest (is_open_state c.state && nat_eq c.owner owner) (owns owner (set_from (suc n) calls number st)) e (next it)

  -- without open calls nobody owns one
  owns_none : (owner : ℕ) (calls : List (Call T V)) → count_open calls ≡ 0 → owns owner calls ≡ false
  owns_none owner [] e = refl
  owns_none owner (c ∷ calls) e = by (is_open_state c.state) e (owns_none owner calls)
    where
      by : (b : Bool) → (if b then suc (count_open calls) else count_open calls) ≡ 0 → (count_open calls ≡ 0 → owns owner calls ≡ false) → ((b && nat_eq c.owner owner) || owns owner calls) ≡ false
      by true e next = absurd (omega (arithmetic, e))
      by false e next = next e

-- ---- activations

module _ {L : Language} where
  at_other : (activations : List (Activation L)) (owner other : ℕ) (activation : Activation L) → (other ≡ owner → ⊥)
      → activation_at (slice_set activations owner activation) other ≡ activation_at activations other
  at_other activations owner other activation differ = ap or_answered (get_set_other activations owner other activation differ)

  at_answered : (activations : List (Activation L)) (owner : ℕ) → activation_at (slice_set activations owner IsAnswered) owner ≡ IsAnswered
  at_answered [] owner = refl
  at_answered (x ∷ activations) zero = refl
  at_answered (x ∷ activations) (suc owner) = at_answered activations owner

  at_front : (activations : List (Activation L)) (last : Activation L) (other : ℕ) → (other ≡ length activations → ⊥) → activation_at (activations ++ last ∷ []) other ≡ activation_at activations other
  at_front [] last zero differ = absurd (differ refl)
  at_front [] last (suc other) differ = refl
  at_front (x ∷ activations) last zero differ = refl
  at_front (x ∷ activations) last (suc other) differ = at_front activations last other (λ q. differ (ap suc q))

  -- each incoming call but perhaps this one
  abbrev Waits : Actor L → ℕ → Type 0
  Waits a owner = is_answered (activation_at a.activations owner) ≡ false → owns_open a.table owner ≡ true

  abbrev AllWait : Actor L → Type 0
  AllWait a = (owner : ℕ) → Waits a owner

  abbrev OthersWait : ℕ → Actor L → Type 0
  OthersWait owner a = (other : ℕ) → (other ≡ owner → ⊥) → Waits a other

  -- the owner's own call is closed in the end
  closed_waits : (owner : ℕ) (items : List Item) (a : Actor L) → OthersWait owner a → AllWait (close owner items a).next
  closed_waits owner items a others = by (is_starved owner a) refl
    where
      each : (b : Actor L) → OthersWait owner b → Waits b owner → AllWait b
      each b rest here other = pick (nat_eq other owner) refl
        where
          pick : (t : Bool) → nat_eq other owner ≡ t → Waits b other
          pick true e = subst (Waits b) (sym (eqb-true other owner e)) here
          pick false e = rest other (λ q. true≢false (sym (eq-eqb other owner q) ∙ e))

      fed : (x y : Bool) → (not x && not y) ≡ false → x ≡ false → y ≡ true
      fed true y e f = absurd (true≢false f)
      fed false true e f = refl
      fed false false e f = absurd (true≢false e)

      by : (t : Bool) → is_starved owner a ≡ t → AllWait (cond t (rejected owner 5 (codes "no answer") items a) (outcome items a)).next
      by false e = each a others (fed (is_answered (activation_at a.activations owner)) (owns_open a.table owner) e)
      by true e =
          each (with_activation owner IsAnswered a)
          (λ other differ. subst (λ x. is_answered x ≡ false → owns_open a.table other ≡ true) (sym (at_other a.activations owner other IsAnswered differ)) (others other differ))
          (λ unanswered. absurd (true≢false (sym (ap is_answered (at_answered a.activations owner)) ∙ unanswered)))

  -- ---- what happens to an actor keeps the others waiting

  arrived_waits : (a : Actor L) → AllWait a → OthersWait (length a.activations) (arrived a)
  arrived_waits a all other differ = subst (λ x. is_answered x ≡ false → owns_open a.table other ≡ true) (sym (at_front a.activations IsDead other differ)) (all other)

  set_waits : (owner : ℕ) (activation : Activation L) (a : Actor L) → OthersWait owner a → OthersWait owner (with_activation owner activation a)
  set_waits owner activation a others other differ =
      subst (λ x. is_answered x ≡ false → owns_open a.table other ≡ true) (sym (at_other a.activations owner other activation differ)) (others other differ)

  committed_waits : (owner weight : ℕ) (effects : Effects L) (a : Actor L) → OthersWait owner a → OthersWait owner (committed owner weight effects a)
  committed_waits owner weight effects a others other differ unanswered =
      owns_more other a.table.calls (map (open_call owner) effects.calls)
      (set_waits owner (activation_after effects.ending (activation_at a.activations owner)) a others other differ unanswered)

  queried_waits : (owner : ℕ) (ending : Ending L) (a : Actor L) → OthersWait owner a → OthersWait owner (after_query owner ending a)
  queried_waits owner (Answers answer) a others = set_waits owner IsAnswered a others
  queried_waits owner (Awaits number waiting) a others = others
  queried_waits owner AwaitsNothing a others = others
  queried_waits owner Unchanged a others = others

  module _ (a : Actor L) (all : AllWait a) where
    update_waits : (r : Result (Effects L)) → AllWait (update_outcome (length a.activations) (arrived a) r).next
    update_waits (Completed prints weight effects) =
        closed_waits (length a.activations) _ (committed (length a.activations) weight effects (arrived a)) (committed_waits (length a.activations) weight effects (arrived a) (arrived_waits a all))
    update_waits (Trapped prints text) = closed_waits (length a.activations) _ (arrived a) (arrived_waits a all)
    update_waits (Exhausted prints cause) = closed_waits (length a.activations) _ (arrived a) (arrived_waits a all)

    query_waits : (r : Result (Effects L)) → AllWait (query_outcome (length a.activations) (arrived a) r).next
    query_waits (Completed prints weight effects) =
        closed_waits (length a.activations) _ (after_query (length a.activations) effects.ending (arrived a)) (queried_waits (length a.activations) effects.ending (arrived a) (arrived_waits a all))
    query_waits (Trapped prints text) = closed_waits (length a.activations) _ (arrived a) (arrived_waits a all)
    query_waits (Exhausted prints cause) = closed_waits (length a.activations) _ (arrived a) (arrived_waits a all)

    no_method_waits : AllWait (with_activation (length a.activations) IsAnswered (arrived a))
    no_method_waits other = pick (nat_eq other (length a.activations)) refl
      where
        pick : (t : Bool) → nat_eq other (length a.activations) ≡ t → Waits (with_activation (length a.activations) IsAnswered (arrived a)) other
        pick true e =
            subst (Waits (with_activation (length a.activations) IsAnswered (arrived a))) (sym (eqb-true other (length a.activations) e))
            (λ unanswered. absurd (true≢false (sym (ap is_answered (at_answered (a.activations ++ IsDead ∷ []) (length a.activations))) ∙ unanswered)))
        pick false e = set_waits (length a.activations) IsAnswered (arrived a) (arrived_waits a all) other (λ q. true≢false (sym (eq-eqb other (length a.activations) q) ∙ e))

    module _ (number : ℕ) (call : Call L.results L.value) (found : call_at a.table number ≡ Some call) where
      filled_waits : (value : Option L.value) → OthersWait call.owner (filled number value a)
      filled_waits value other differ unanswered = owns_set a.table.first number other a.table.calls call (Answered value) found differ (all other unanswered)

      broken_waits : OthersWait call.owner (broken number call.owner a)
      broken_waits = by (waiting_on number (activation_at a.activations call.owner))
        where
          by : (waiting : Option L.waiting) → OthersWait call.owner (broken_by number call.owner a waiting)
          by None = λ other differ unanswered. owns_set a.table.first number other a.table.calls call Lost found differ (all other unanswered)
          by (Some waiting) = set_waits call.owner IsDead (filled number None a) (filled_waits None)

      answer_waits : (value : Option L.value) (r : Result (Effects L)) → AllWait (answer_outcome number call.owner value a r).next
      answer_waits value (Completed prints weight effects) =
          closed_waits call.owner _ (committed call.owner weight effects (filled number value a)) (committed_waits call.owner weight effects (filled number value a) (filled_waits value))
      answer_waits value (Trapped prints text) = closed_waits call.owner _ (broken number call.owner a) broken_waits
      answer_waits value (Exhausted prints cause) = closed_waits call.owner _ (broken number call.owner a) broken_waits

  -- ---- events

  abbrev AllAnswered : List (Activation L) → Type 0
  AllAnswered activations = (owner : ℕ) → is_answered (activation_at activations owner) ≡ true

  abbrev WaitIn : ActorState L → Type 0
  WaitIn (NoActor made activations) = AllAnswered activations
  WaitIn (Running p a) = AllWait a

  abbrev KeepsWaiting : Event → ActorState L → Outcome (ActorState L) → Type 0
  KeepsWaiting e state o = WaitIn state → WaitIn o.next

  none_wait : (a : Actor L) → AllAnswered a.activations → AllWait a
  none_wait a all owner unanswered = absurd (true≢false (sym (all owner) ∙ unanswered))

  pushed_answered : (activations : List (Activation L)) → AllAnswered activations → AllAnswered (activations ++ IsAnswered ∷ [])
  pushed_answered [] all zero = refl
  pushed_answered [] all (suc owner) = refl
  pushed_answered (x ∷ activations) all zero = all 0
  pushed_answered (x ∷ activations) all (suc owner) = pushed_answered activations (λ owner. all (suc owner)) owner

  installed_waits : (p : Program L) (made : ℕ) (activations : List (Activation L)) (r : Result L.store) → AllAnswered activations → WaitIn (installed p made activations r).next
  installed_waits p made activations (Completed prints weight store) all = λ owner unanswered. absurd (true≢false (sym (all owner) ∙ unanswered))
  installed_waits p made activations (Trapped prints text) all = all
  installed_waits p made activations (Exhausted prints cause) all = all

  -- an actor that could be saved has no open calls, so all its incoming calls are answered
  saved_answered : (pays : Measure) (own : List ℕ) (old : Program L) (a : Actor L) (prints : List (List ℕ)) (weight : ℕ) (kept : L.kept)
      → HasResult pays old.first_memory a.charged (saving old own a) (Completed prints weight kept) → AllWait a → AllAnswered a.activations
  saved_answered pays own old a prints weight kept has all owner = by (nat_eq (open_count a.table) 0) refl (ap (λ q. q.completion) has.2)
    where
      true_or : (b : Bool) → (b ≡ false → ⊥) → b ≡ true
      true_or true no_false = refl
      true_or false no_false = absurd (no_false refl)

      by : (t : Bool) → nat_eq (open_count a.table) 0 ≡ t → (cond t (old.save own a.store) (trapping (codes "outstanding calls")) has.0).completion ≡ Some (Completes kept)
          → is_answered (activation_at a.activations owner) ≡ true
      by false e f = absurd (never_completes (codes "outstanding calls") has.0 kept f)
      by true e f =
          true_or (is_answered (activation_at a.activations owner))
          (λ unanswered. true≢false (sym (all owner unanswered) ∙ owns_none owner a.table.calls (eqb-true (open_count a.table) 0 e)))

  upgraded_waits : (old : Program L) (a : Actor L) (p : Program L) (before : List (List ℕ)) (r : Result L.store) → AllWait a → AllAnswered a.activations → WaitIn (upgraded old a p before r).next
  upgraded_waits old a p before (Completed prints weight store) all answered = λ owner unanswered. absurd (true≢false (sym (answered owner) ∙ unanswered))
  upgraded_waits old a p before (Trapped prints text) all answered = all
  upgraded_waits old a p before (Exhausted prints cause) all answered = all

  module _ (pays : Measure) (programs : List (Program L)) (own : List ℕ) where
    waiting_cases : Cases pays programs own KeepsWaiting
    waiting_cases = record {
      ignored = λ e state was. was;
      installs = λ number made activations p found r has was. installed_waits p made activations r was;
      no_canister = λ query name caller bytes made activations was. pushed_answered activations was;
      no_method = λ query name caller bytes p a was. no_method_waits a was;
      update = λ name caller bytes p a method found r has was. update_waits a was r;
      query = λ query name caller bytes p a method r has was. query_waits a was r;
      answer = λ number received p a call found opened r has was. answer_waits a was number call found _ r;
      save_traps = λ number old a prints text has was. was;
      save_exhausted = λ number old a prints cause has was. was;
      upgrades = λ number old a p found before weight kept saves r has was. upgraded_waits old a p before r was (saved_answered pays own old a before weight kept saves was);
    }

    leads_waiting : (events : List Event) (state last : ActorState L) → WaitIn state → LeadsTo pays programs own state events last → WaitIn last
    leads_waiting [] state last was h = subst WaitIn (sym h) was
    leads_waiting (e ∷ events) state last was h = leads_waiting events (h.0).next last (each_event pays programs own KeepsWaiting waiting_cases e state h.0 h.1 was) h.2

pub unanswered_calls_wait : (L : Language) (pays : Measure) → UnansweredCallsWait L pays
unanswered_calls_wait L pays programs own events p a h = leads_waiting pays programs own events (NoActor 0 []) (Running p a) (λ owner. refl) h
