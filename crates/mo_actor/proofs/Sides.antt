-- Two actors side by side: what is done to both leaves them alike.
use Rattle.std.proofs.Common.{◌≡◌, ℕ, ◌+◌, Bool, true, false, not, ◌&&◌, cond, List, [], ◌∷◌, ◌++◌, length, map, Option, Some, None, refl, sym, ap, ap₂, ◌∙◌, subst, nat_eq, slice_set, true≢false, codes}
use Rattle.std.specs.List.{list_any}
use Rattle.play_script.specs.declared.item.Item.{Item}
use Rattle.play_script.specs.declared.item.Item.TheVariants as item
use Rattle.play_script.specs.declared.item.Word.TheVariants as word
use Rattle.mo_types.specs.Calls.{State, Answered, Lost, is_open_state, next_number, set_from}
use Rattle.mo_actor.specs.Languages.{Language}
use Rattle.mo_actor.specs.Programs.{Ending, Answers, Awaits, AwaitsNothing, Unchanged, Effects}
use Rattle.mo_actor.specs.Results.{Result, Completed, Trapped, Exhausted}
use Rattle.mo_actor.specs.States.{IsAnswered, IsDead, Actor, activation_at, is_answered, waiting_on, with_activation, owns_open, is_starved}
use Rattle.mo_actor.specs.Outcomes.{Outcome, outcome, rejected, print_items, trap_items, call_items, answer_items, close}
use Rattle.mo_actor.specs.Completions.{activation_after, open_call, committed, complete, after_query, update_outcome, query_outcome}
use Rattle.mo_actor.specs.IncomingCalls.{arrived}
use Rattle.mo_actor.specs.CallAnswers.{broken_by, broken, filled, answer_outcome}
use Rattle.mo_actor.specs.Passes.{CommittedState, committed_state, held_calls, call_shapes, AlikeResults, AlikeActivations, AlikeEndings, AlikeActors, AlikeEffects}
use Rattle.mo_actor.proofs.Books.{set_shape, owns_by, length_by, set_by, shapes_both, alike_push, alike_at, alike_set, alike_left, alike_right, alike_shapes, alike_call_items, alike_answer_items, alike_after, held_pushed, held_closed, held_quiet, waits_unanswered}

module _ {S T : Language} (Related : CommittedState S → CommittedState T → Type 0) (Weighs : ℕ → ℕ → Type 0) where
  abbrev pub Alike : Actor S → Actor T → Type 0
  Alike a b = AlikeActors Related Weighs a b

  abbrev pub Two : Outcome (Actor S) → Outcome (Actor T) → Type 0
  Two o q = (o.items ≡ q.items) × AlikeActors Related Weighs o.next q.next

  owns_both : (a : Actor S) (b : Actor T) (owner : ℕ) → Alike a b → owns_open a.table owner ≡ owns_open b.table owner
  owns_both a b owner r = owns_by owner a.table.calls ∙ ap (λ hs. list_any (λ h. h.is_open && nat_eq h.owner owner) hs) r.calls ∙ sym (owns_by owner b.table.calls)

  -- both are answered, where what is held of calls stays
  answered_both : (a : Actor S) (b : Actor T) (owner : ℕ) → Alike a b
      → held_calls a.table.first a.table.calls (slice_set a.activations owner IsAnswered) ≡ held_calls a.table.first a.table.calls a.activations
      → held_calls b.table.first b.table.calls (slice_set b.activations owner IsAnswered) ≡ held_calls b.table.first b.table.calls b.activations
      → Alike (with_activation owner IsAnswered a) (with_activation owner IsAnswered b)
  answered_both a b owner r here there = record {
    first = r.first;
    calls = r.calls;
    activations = alike_set a.activations b.activations owner IsAnswered IsAnswered r.activations refl;
    charged = r.charged;
    related =
        subst (λ h. Related (record { store = a.store; first = a.table.first; calls = h }) (committed_state (with_activation owner IsAnswered b))) (sym here)
        (subst (λ h. Related (committed_state a) (record { store = b.store; first = b.table.first; calls = h })) (sym there) r.related);
  }

  abbrev closed_by : {L : Language} → Bool → ℕ → List Item → Actor L → Outcome (Actor L)
  closed_by t owner items a = cond t (rejected owner 5 (codes "no answer") items a) (outcome items a)

  closed_both : (t : Bool) (a : Actor S) (b : Actor T) (owner : ℕ) (items shown : List Item) → items ≡ shown → Alike a b → (t ≡ true → owns_open a.table owner ≡ false)
      → Two (closed_by t owner items a) (closed_by t owner shown b)
  closed_both true a b owner items shown e r none =
      let mine : owns_open a.table owner ≡ false = none refl in (
        ap (λ is. is ++ item.Rejected owner 5 (codes "no answer") ∷ []) e,
        answered_both a b owner r (held_closed a.table.first owner a.table.calls a.activations IsAnswered mine)
            (held_closed b.table.first owner b.table.calls b.activations IsAnswered (sym (owns_both a b owner r) ∙ mine)),
      )
  closed_both false a b owner items shown e r none = (e, r)

  right_false : (x y : Bool) → (not x && not y) ≡ true → y ≡ false
  right_false true y e = absurd (true≢false (sym e))
  right_false false true e = absurd (true≢false (sym e))
  right_false false false e = refl

  close_both : (a : Actor S) (b : Actor T) (owner : ℕ) (items shown : List Item) → items ≡ shown → Alike a b → Two (close owner items a) (close owner shown b)
  close_both a b owner items shown e r =
      let same : is_starved owner a ≡ is_starved owner b = ap₂ (λ x y. not x && not y) (alike_at a.activations b.activations owner r.activations) (owns_both a b owner r) in
      subst (λ t. Two (close owner items a) (closed_by t owner shown b)) same
      (closed_both (is_starved owner a) a b owner items shown e r (λ q. right_false (is_answered (activation_at a.activations owner)) (owns_open a.table owner) q))

  pub arrived_both : (a : Actor S) (b : Actor T) → Alike a b → Alike (arrived a) (arrived b)
  arrived_both a b r = record {
    first = r.first;
    calls = r.calls;
    activations = alike_push a.activations b.activations IsDead IsDead r.activations refl;
    charged = r.charged;
    related =
        subst (λ h. Related (record { store = a.store; first = a.table.first; calls = h }) (committed_state (arrived b))) (sym (held_pushed a.table.first a.table.calls a.activations))
        (subst (λ h. Related (committed_state a) (record { store = b.store; first = b.table.first; calls = h })) (sym (held_pushed b.table.first b.table.calls b.activations)) r.related);
  }

  -- an activation that begins and does not wait
  pub quiet_both : (a : Actor S) (b : Actor T) (owner : ℕ) → Alike a b → activation_at a.activations owner ≡ IsDead → activation_at b.activations owner ≡ IsDead
      → Alike (with_activation owner IsAnswered a) (with_activation owner IsAnswered b)
  quiet_both a b owner r here there =
      answered_both a b owner r (held_quiet a.table.first owner a.table.calls a.activations IsAnswered (λ k. sym (ap (waiting_on k) here)))
      (held_quiet b.table.first owner b.table.calls b.activations IsAnswered (λ k. sym (ap (waiting_on k) there)))

  -- ---- completed executions

  -- the parts of two actors that what is taken over leaves alone
  pub record Base (a : Actor S) (b : Actor T) : Type 0 where
    pub first : a.table.first ≡ b.table.first
    pub calls : call_shapes a.table.calls ≡ call_shapes b.table.calls
    pub activations : AlikeActivations a.activations b.activations
    pub charged : Weighs a.charged b.charged

  module _ (adds : (x y z w : ℕ) → Weighs x y → Weighs z w → Weighs (x + z) (y + w)) where
    committed_both : (a : Actor S) (b : Actor T) → Base a b → (owner weight other : ℕ) (effects : Effects S) (done : Effects T) → AlikeEffects Related Weighs a b owner weight other effects done
        → Alike (committed owner weight effects a) (committed owner other done b)
    committed_both a b base owner weight other effects done x = record {
      first = base.first;
      calls =
          shapes_both a.table.calls (map (open_call owner) effects.calls) ∙ ap₂ (λ xs ys. xs ++ ys) base.calls (alike_shapes owner effects.calls done.calls x.calls)
          ∙ sym (shapes_both b.table.calls (map (open_call owner) done.calls));
      activations =
          alike_set a.activations b.activations owner (activation_after effects.ending (activation_at a.activations owner)) (activation_after done.ending (activation_at b.activations owner)) base.activations
          (alike_after effects.ending done.ending (activation_at a.activations owner) (activation_at b.activations owner) x.ending (alike_at a.activations b.activations owner base.activations));
      charged = adds a.charged b.charged weight other base.charged x.weighs;
      related = x.related;
    }

    complete_both : (a : Actor S) (b : Actor T) → Base a b → (owner weight other : ℕ) (prints shown : List (List ℕ)) (effects : Effects S) (done : Effects T) → prints ≡ shown
        → AlikeEffects Related Weighs a b owner weight other effects done → Two (complete owner prints weight effects a) (complete owner shown other done b)
    complete_both a b base owner weight other prints shown effects done e x =
        let number : next_number a.table ≡ next_number b.table = ap₂ (λ n k. n + k) base.first (length_by a.table.calls ∙ ap length base.calls ∙ sym (length_by b.table.calls)) in
        let made : call_items (next_number a.table) effects.calls ≡ call_items (next_number b.table) done.calls =
        ap (λ n. call_items n effects.calls) number ∙ alike_call_items (next_number b.table) effects.calls done.calls x.calls in
        let items : print_items prints ++ (call_items (next_number a.table) effects.calls ++ answer_items owner effects.ending) ≡ print_items shown ++ (call_items (next_number b.table) done.calls ++ answer_items owner done.ending) =
        ap₂ (λ ps is. print_items ps ++ is) e (ap₂ (λ x y. x ++ y) made (alike_answer_items owner effects.ending done.ending x.ending)) in
        close_both (committed owner weight effects a) (committed owner other done b) owner (print_items prints ++ (call_items (next_number a.table) effects.calls ++ answer_items owner effects.ending))
        (print_items shown ++ (call_items (next_number b.table) done.calls ++ answer_items owner done.ending)) items (committed_both a b base owner weight other effects done x)

    base_of : (a : Actor S) (b : Actor T) → Alike a b → Base a b
    base_of a b r = record { first = r.first; calls = r.calls; activations = r.activations; charged = r.charged }

    pub updates_both : (a : Actor S) (b : Actor T) → Alike a b → (owner : ℕ) (o : Result (Effects S)) (r : Result (Effects T)) → AlikeResults (AlikeEffects Related Weighs a b owner) o r
        → Two (update_outcome owner a o) (update_outcome owner b r)
    updates_both a b t owner (Completed prints weight effects) (Completed shown other done) c = complete_both a b (base_of a b t) owner weight other prints shown effects done c.0 c.1
    updates_both a b t owner (Trapped prints said) (Trapped shown text) c =
        close_both a b owner (trap_items prints (word.Text said)) (trap_items shown (word.Text text)) (ap₂ (λ ps w. trap_items ps (word.Text w)) c.0 c.1) t
    updates_both a b t owner (Exhausted prints w) (Exhausted shown cause) c = close_both a b owner (trap_items prints w) (trap_items shown cause) (ap₂ trap_items c.0 c.1) t
    updates_both a b t owner _ _ c = absurd c

  -- ---- queries

  queried_both : (a : Actor S) (b : Actor T) (owner : ℕ) → Alike a b → activation_at a.activations owner ≡ IsDead → activation_at b.activations owner ≡ IsDead → (x : Ending S) (y : Ending T) → AlikeEndings x y
      → Alike (after_query owner x a) (after_query owner y b)
  queried_both a b owner t here there (Answers answer) (Answers other) e = quiet_both a b owner t here there
  queried_both a b owner t here there (Awaits m v) (Awaits n w) e = t
  queried_both a b owner t here there AwaitsNothing AwaitsNothing e = t
  queried_both a b owner t here there Unchanged Unchanged e = t
  queried_both a b owner t here there _ _ e = absurd e

  pub queries_both : (a : Actor S) (b : Actor T) → Alike a b → (owner : ℕ) → activation_at a.activations owner ≡ IsDead → activation_at b.activations owner ≡ IsDead → (o : Result (Effects S)) (r : Result (Effects T))
      → AlikeResults (λ x y s t. AlikeEndings s.ending t.ending) o r → Two (query_outcome owner a o) (query_outcome owner b r)
  queries_both a b t owner here there (Completed prints weight effects) (Completed shown other done) c =
      close_both (after_query owner effects.ending a) (after_query owner done.ending b) owner (print_items prints ++ answer_items owner effects.ending) (print_items shown ++ answer_items owner done.ending)
      (ap₂ (λ ps is. print_items ps ++ is) c.0 (alike_answer_items owner effects.ending done.ending c.1)) (queried_both a b owner t here there effects.ending done.ending c.1)
  queries_both a b t owner here there (Trapped prints said) (Trapped shown text) c =
      close_both a b owner (trap_items prints (word.Text said)) (trap_items shown (word.Text text)) (ap₂ (λ ps w. trap_items ps (word.Text w)) c.0 c.1) t
  queries_both a b t owner here there (Exhausted prints w) (Exhausted shown cause) c = close_both a b owner (trap_items prints w) (trap_items shown cause) (ap₂ trap_items c.0 c.1) t
  queries_both a b t owner here there _ _ c = absurd c

  -- ---- answers

  set_both : (a : Actor S) (b : Actor T) (number : ℕ) (st : State S.value) (su : State T.value) → is_open_state st ≡ is_open_state su → a.table.first ≡ b.table.first → call_shapes a.table.calls ≡ call_shapes b.table.calls
      → call_shapes (set_from a.table.first a.table.calls number st) ≡ call_shapes (set_from b.table.first b.table.calls number su)
  set_both a b number st su e first calls =
      set_by a.table.first number st a.table.calls ∙ ap₂ (λ n hs. set_shape n number (is_open_state st) hs) first calls ∙ ap (λ t. set_shape b.table.first number t (call_shapes b.table.calls)) e
      ∙ sym (set_by b.table.first number su b.table.calls)

  broken_by_both : (a : Actor S) (b : Actor T) (t : Alike a b) (number owner other : ℕ) (v : Option S.waiting) (w : Option T.waiting)
      → waiting_on number (activation_at a.activations owner) ≡ v → waiting_on number (activation_at b.activations other) ≡ w
      → Related (committed_state (broken_by number owner a v)) (committed_state (broken_by number other b w)) → Alike (broken_by number owner a v) (broken_by number other b w)
  broken_by_both a b t number owner other None None x y h =
      record { first = t.first; calls = set_both a b number Lost Lost refl t.first t.calls; activations = t.activations; charged = t.charged; related = h }
  broken_by_both a b t number owner other None (Some w) x y h = record {
    first = t.first;
    calls = set_both a b number Lost (Answered None) refl t.first t.calls;
    activations = alike_right a.activations b.activations other IsDead t.activations (sym (waits_unanswered number (activation_at b.activations other) w y));
    charged = t.charged;
    related = h;
  }
  broken_by_both a b t number owner other (Some v) None x y h = record {
    first = t.first;
    calls = set_both a b number (Answered None) Lost refl t.first t.calls;
    activations = alike_left a.activations b.activations owner IsDead t.activations (sym (waits_unanswered number (activation_at a.activations owner) v x));
    charged = t.charged;
    related = h;
  }
  broken_by_both a b t number owner other (Some v) (Some w) x y h = record {
    first = t.first;
    calls = set_both a b number (Answered None) (Answered None) refl t.first t.calls;
    activations =
        alike_right (slice_set a.activations owner IsDead) b.activations other IsDead
        (alike_left a.activations b.activations owner IsDead t.activations (sym (waits_unanswered number (activation_at a.activations owner) v x)))
        (sym (waits_unanswered number (activation_at b.activations other) w y));
    charged = t.charged;
    related = h;
  }

  broken_both : (a : Actor S) (b : Actor T) (t : Alike a b) (number owner other : ℕ) → Related (committed_state (broken number owner a)) (committed_state (broken number other b)) → Alike (broken number owner a) (broken number other b)
  broken_both a b t number owner other h =
      broken_by_both a b t number owner other (waiting_on number (activation_at a.activations owner)) (waiting_on number (activation_at b.activations other)) refl refl h

  pub answers_both : (adds : (x y z w : ℕ) → Weighs x y → Weighs z w → Weighs (x + z) (y + w)) (a : Actor S) (b : Actor T) → Alike a b → (number owner other : ℕ) → owner ≡ other
      → (u : Option S.value) (v : Option T.value) → Related (committed_state (broken number owner a)) (committed_state (broken number other b)) → (o : Result (Effects S)) (r : Result (Effects T))
      → AlikeResults (AlikeEffects Related Weighs (filled number u a) (filled number v b) owner) o r → Two (answer_outcome number owner u a o) (answer_outcome number other v b r)
  answers_both adds a b t number owner other same u v h (Completed prints weight effects) (Completed shown heavy done) x =
      subst (λ k. Two (complete owner prints weight effects (filled number u a)) (complete k shown heavy done (filled number v b))) same
      (complete_both adds (filled number u a) (filled number v b)
      (record { first = t.first; calls = set_both a b number (Answered u) (Answered v) refl t.first t.calls; activations = t.activations; charged = t.charged })
      owner weight heavy prints shown effects done x.0 x.1)
  answers_both adds a b t number owner other same u v h (Trapped prints said) (Trapped shown text) x =
      subst (λ k. Two (close owner (trap_items prints (word.Text said)) (broken number owner a)) (close k (trap_items shown (word.Text text)) (broken number other b))) same
      (close_both (broken number owner a) (broken number other b) owner (trap_items prints (word.Text said)) (trap_items shown (word.Text text)) (ap₂ (λ ps w. trap_items ps (word.Text w)) x.0 x.1)
      (broken_both a b t number owner other h))
  answers_both adds a b t number owner other same u v h (Exhausted prints w) (Exhausted shown cause) x =
      subst (λ k. Two (close owner (trap_items prints w) (broken number owner a)) (close k (trap_items shown cause) (broken number other b))) same
      (close_both (broken number owner a) (broken number other b) owner (trap_items prints w) (trap_items shown cause) (ap₂ trap_items x.0 x.1) (broken_both a b t number owner other h))
  answers_both adds a b t number owner other same u v h _ _ x = absurd x
