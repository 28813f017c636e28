-- A pass carries what happens in the life of one program: calls, and answers to calls.
use Rattle.std.proofs.Common.{◌≡◌, ℕ, Bool, true, false, List, [], ◌∷◌, length, Option, Some, None, refl, sym, ap, ap₂, ◌∙◌, subst, codes}
use Rattle.play_script.specs.declared.event.Event.{Event}
use Rattle.play_script.specs.declared.event.Event.TheVariants as event
use Rattle.play_script.specs.declared.item.Item.TheVariants as item
use Rattle.mo_types.specs.Calls.{Call, is_open_state, call_at}
use Rattle.mo_actor.specs.Languages.{Language}
use Rattle.mo_actor.specs.Programs.{Effects, Program}
use Rattle.mo_actor.specs.Measures.{Measure}
use Rattle.mo_actor.specs.Results.{Result, HasResult}
use Rattle.mo_actor.specs.States.{IsDead, Actor, activation_at}
use Rattle.mo_actor.specs.Outcomes.{Outcome, outcome, rejected}
use Rattle.mo_actor.specs.Courses.{Course, Over, Runs, NoCourse, over_states, ComesTo}
use Rattle.mo_actor.specs.Completions.{update_outcome, query_outcome}
use Rattle.mo_actor.specs.IncomingCalls.{arrived, entered, query_course, update_course, call_course}
use Rattle.mo_actor.specs.CallAnswers.{Received, Reply, Reject, received_value, answer_outcome, open_course, answer_course}
use Rattle.mo_actor.specs.Steps.{life_course}
use Rattle.mo_actor.specs.Passes.{answer_event, CommittedState, AlikeResults, AlikeMethods, AlikeEndings, AlikeActors, AlikeEffects, Keeps}
use Rattle.mo_actor.proofs.Lists.{from_some}
use Rattle.mo_actor.proofs.Books.{shape, shape_of, shape_from, at_by, alike_length, last_dead}
use Rattle.mo_actor.proofs.Sides.{Two, arrived_both, quiet_both, updates_both, queries_both, answers_both}

-- ---- courses over other states

pub from_states : {S T : Type 0} (pays : Measure) (f : S → T) (c : Course S) (reached : Outcome T) → ComesTo pays (over_states f c) reached
    → (o : Outcome S) × ComesTo pays c o × (reached ≡ outcome o.items (f o.next))
from_states pays f (Over o) reached h = (o, refl, h)
from_states pays f (Runs A first_memory charged x behind) reached h = let i = from_states pays f (behind h.0) reached h.2 in (i.0, (h.0, h.1, i.1), i.2)
from_states pays f NoCourse reached h = absurd h

pub to_states : {S T : Type 0} (pays : Measure) (f : S → T) (c : Course S) (o : Outcome S) → ComesTo pays c o → ComesTo pays (over_states f c) (outcome o.items (f o.next))
to_states pays f (Over q) o h = ap (λ o. outcome o.items (f o.next)) h
to_states pays f (Runs A first_memory charged x behind) o h = (h.0, h.1, to_states pays f (behind h.0) o h.2)
to_states pays f NoCourse o h = absurd h

module _ {S T : Language} (Related : Program S → Program T → CommittedState S → CommittedState T → Type 0) (AlikeKept : S.kept → T.kept → Type 0) (Weighs : ℕ → ℕ → Type 0) (Given : Event → Type 0)
    (pays_old pays_new : Measure) (own : List ℕ) where
  -- ---- the life of one program

  module _ (p : Program S) (q : Program T) (keeps : Keeps (Related p q) AlikeKept Weighs Given pays_old pays_new own p q) (a : Actor S) (b : Actor T) (t : AlikeActors (Related p q) Weighs a b) where
    abbrev pub Carries : Course (Actor S) → Outcome (Actor T) → Type 0
    Carries c o = (first : Outcome (Actor S)) × ComesTo pays_old c first × Two (Related p q) Weighs first o

    same_place : length a.activations ≡ length b.activations
    same_place = alike_length a.activations b.activations t.activations

    here : activation_at (arrived a).activations (length a.activations) ≡ IsDead
    here = last_dead a.activations

    there : activation_at (arrived b).activations (length a.activations) ≡ IsDead
    there = ap (λ k. activation_at (arrived b).activations k) same_place ∙ last_dead b.activations

    both_arrived : AlikeActors (Related p q) Weighs (arrived a) (arrived b)
    both_arrived = arrived_both (Related p q) Weighs a b t

    rejected_both : Two (Related p q) Weighs (rejected (length a.activations) 5 (codes "no method") [] (arrived a)) (rejected (length b.activations) 5 (codes "no method") [] (arrived b))
    rejected_both =
        subst (λ k. Two (Related p q) Weighs (rejected (length a.activations) 5 (codes "no method") [] (arrived a)) (rejected k 5 (codes "no method") [] (arrived b))) same_place
        (refl, quiet_both (Related p q) Weighs (arrived a) (arrived b) (length a.activations) both_arrived here there)

    query_carries : (query : Bool) (name caller argument : List ℕ) → Given (event.Call query name caller argument) → (m : Option S.method) (n : Option T.method)
        → AlikeMethods (λ m n. (query : Bool) (caller argument : List ℕ) → Given (event.Call query name caller argument)
        → (r : Result (Effects T)) → HasResult pays_new q.first_memory b.charged (entered q own b n caller argument) r
        → (o : Result (Effects S)) × HasResult pays_old p.first_memory a.charged (entered p own a m caller argument) o
        × AlikeResults (λ x y s t. AlikeEndings s.ending t.ending) o r) m n
        → (o : Outcome (Actor T)) → ComesTo pays_new (query_course q own b n caller argument) o → Carries (query_course p own a m caller argument) o
    query_carries query name caller argument given None None does o is = (
      rejected (length a.activations) 5 (codes "no method") [] (arrived a),
      refl,
      subst (Two (Related p q) Weighs (rejected (length a.activations) 5 (codes "no method") [] (arrived a))) (sym is) rejected_both,
    )
    query_carries query name caller argument given (Some m) (Some n) does o h =
        let x = does query caller argument given h.0 h.1 in (
          query_outcome (length a.activations) (arrived a) x.0,
          (x.0, x.1, refl),
          subst (Two (Related p q) Weighs (query_outcome (length a.activations) (arrived a) x.0)) (sym h.2)
              (subst (λ k. Two (Related p q) Weighs (query_outcome (length a.activations) (arrived a) x.0) (query_outcome k (arrived b) h.0)) same_place
              (queries_both (Related p q) Weighs (arrived a) (arrived b) both_arrived (length a.activations) here there x.0 h.0 x.2)),
        )
    query_carries query name caller argument given None (Some n) does o h = absurd does
    query_carries query name caller argument given (Some m) None does o h = absurd does

    update_carries : (name caller argument : List ℕ) → Given (event.Call false name caller argument) → (m : Option S.method) (n : Option T.method)
        → AlikeMethods (λ m n. (caller argument : List ℕ) → Given (event.Call false name caller argument)
        → (r : Result (Effects T)) → HasResult pays_new q.first_memory b.charged (entered q own b n caller argument) r
        → (o : Result (Effects S)) × HasResult pays_old p.first_memory a.charged (entered p own a m caller argument) o
        × AlikeResults (AlikeEffects (Related p q) Weighs (arrived a) (arrived b) (length a.activations)) o r) m n
        → (o : Outcome (Actor T)) → ComesTo pays_new (update_course q own b n (q.query name) caller argument) o → Carries (update_course p own a m (p.query name) caller argument) o
    update_carries name caller argument given None None does o h = query_carries false name caller argument given (p.query name) (q.query name) (keeps.queries a b t name) o h
    update_carries name caller argument given (Some m) (Some n) does o h =
        let x = does caller argument given h.0 h.1 in (
          update_outcome (length a.activations) (arrived a) x.0,
          (x.0, x.1, refl),
          subst (Two (Related p q) Weighs (update_outcome (length a.activations) (arrived a) x.0)) (sym h.2)
              (subst (λ k. Two (Related p q) Weighs (update_outcome (length a.activations) (arrived a) x.0) (update_outcome k (arrived b) h.0)) same_place
              (updates_both (Related p q) Weighs keeps.adds (arrived a) (arrived b) both_arrived (length a.activations) x.0 h.0 x.2)),
        )
    update_carries name caller argument given None (Some n) does o h = absurd does
    update_carries name caller argument given (Some m) None does o h = absurd does

    call_carries : (query : Bool) (name caller argument : List ℕ) → Given (event.Call query name caller argument)
        → (o : Outcome (Actor T)) → ComesTo pays_new (call_course q own b query name caller argument) o → Carries (call_course p own a query name caller argument) o
    call_carries true name caller argument given o h = query_carries true name caller argument given (p.query name) (q.query name) (keeps.queries a b t name) o h
    call_carries false name caller argument given o h = update_carries name caller argument given (p.update name) (q.update name) (keeps.updates a b t name) o h

    open_carries : (number : ℕ) (received : Received) → Given (answer_event number received) → (c : Call S.results S.value) (d : Call T.results T.value) → call_at a.table number ≡ Some c → call_at b.table number ≡ Some d
        → c.owner ≡ d.owner → (is_open also_open : Bool) → is_open_state c.state ≡ is_open → is_open_state d.state ≡ also_open → is_open ≡ also_open
        → (o : Outcome (Actor T)) → ComesTo pays_new (open_course q own b also_open number d received) o → Carries (open_course p own a is_open number c received) o
    open_carries number received given c d found there same false false e f alike o h =
        (outcome (item.Ignored ∷ []) a, refl, subst (Two (Related p q) Weighs (outcome (item.Ignored ∷ []) a)) (sym h) (refl, t))
    open_carries number received given c d found there same true true e f alike o h =
        let x = keeps.answers a b t number c d found there e f received given h.0 h.1 in (
          answer_outcome number c.owner (received_value p own a c received) a x.0,
          (x.0, x.1, refl),
          subst (Two (Related p q) Weighs (answer_outcome number c.owner (received_value p own a c received) a x.0)) (sym h.2)
              (answers_both (Related p q) Weighs keeps.adds a b t number c.owner d.owner same (received_value p own a c received) (received_value q own b d received) x.3 x.0 h.0 x.2),
        )
    open_carries number received given c d found there same false true e f alike o h = absurd (cc)
    open_carries number received given c d found there same true false e f alike o h = absurd (cc)

    answer_carries : (number : ℕ) (received : Received) → Given (answer_event number received) → (c : Option (Call S.results S.value)) (d : Option (Call T.results T.value)) → call_at a.table number ≡ c → call_at b.table number ≡ d
        → shape_of c ≡ shape_of d → (o : Outcome (Actor T)) → ComesTo pays_new (answer_course q own b number received d) o → Carries (answer_course p own a number received c) o
    answer_carries number received given None None found there same o h =
        (outcome (item.Ignored ∷ []) a, refl, subst (Two (Related p q) Weighs (outcome (item.Ignored ∷ []) a)) (sym h) (refl, t))
    answer_carries number received given (Some c) (Some d) found there same o h =
        let alike : shape c ≡ shape d = from_some same in
        open_carries number received given c d found there (ap (λ s. s.owner) alike) (is_open_state c.state) (is_open_state d.state) refl refl (ap (λ s. s.is_open) alike) o h
    answer_carries number received given None (Some d) found there same o h = absurd (cc)
    answer_carries number received given (Some c) None found there same o h = absurd (cc)

    same_shape : (number : ℕ) → shape_of (call_at a.table number) ≡ shape_of (call_at b.table number)
    same_shape number =
        at_by a.table.first number a.table.calls ∙ ap₂ (λ n hs. shape_from n hs number) t.first t.calls ∙ sym (at_by b.table.first number b.table.calls)

    pub life_carries : (e : Event) → Given e → (o : Outcome (Actor T)) → ComesTo pays_new (life_course q own e b) o → Carries (life_course p own e a) o
    life_carries (event.Install number) given o h = absurd h
    life_carries (event.Call query name caller bytes) given o h = call_carries query name caller bytes given o h
    life_carries (event.Reply number bytes) given o h = answer_carries number (Reply bytes) given (call_at a.table number) (call_at b.table number) refl refl (same_shape number) o h
    life_carries (event.Reject number code text) given o h = answer_carries number (Reject code text) given (call_at a.table number) (call_at b.table number) refl refl (same_shape number) o h
    life_carries (event.Upgrade number) given o h = absurd h
