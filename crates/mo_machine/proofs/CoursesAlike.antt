-- Where the executions of a course have results of another one but for how these are seen, so have the outcomes.
use Rattle.std.proofs.Common.{◌≡◌, ℕ, Option, Some, None, refl, sym, ap, ◌∙◌, subst}
use Rattle.mo_actor.specs.Courses.{Course, Over, Runs, NoCourse, over_states, ComesTo}
use Rattle.mo_actor.specs.Executions.{Progress, Execution, Completion, Completes, Traps}
use Rattle.mo_actor.specs.Measures.{Measure}
use Rattle.mo_actor.specs.Outcomes.{Outcome}
use Rattle.mo_actor.specs.Results.{Result, Completed, Trapped, Exhausted, HasResult, IsPrefix, exhaustion}
use Rattle.mo_machine.specs.ActorLanguage.{on_completion, on_progress}

abbrev pub on_result : {A B : Type 0} → (A → B) → Result A → Result B
on_result f (Completed prints weight result) = Completed prints weight (f result)
on_result f (Trapped prints text) = Trapped prints text
on_result f (Exhausted prints cause) = Exhausted prints cause

completion_id : {A : Type 0} (o : Option (Completion A)) → on_completion (λ a. a) o ≡ o
completion_id None = refl
completion_id (Some (Completes result)) = refl
completion_id (Some (Traps text)) = refl

pub progress_id : {A : Type 0} (p : Progress A) → on_progress (λ a. a) p ≡ p
progress_id p = ap (λ c. record p { completion = c }) (completion_id p.completion)

module _ (pays : Measure) {A B : Type 0} (f : A → B) (first charged : ℕ) (x : Execution A) (y : Execution B) (same : (n : ℕ) → on_progress f (x n) ≡ y n) where
  pub has_result : (r : Result A) → HasResult pays first charged x r → HasResult pays first charged y (on_result f r)
  has_result (Completed prints weight result) h = (h.0, h.1, sym (same h.0) ∙ ap (on_progress f) h.2)
  has_result (Trapped prints text) h = (h.0, ap (λ p. p.prints) (sym (same h.0)) ∙ h.1, ap (λ p. p.completion) (sym (same h.0)) ∙ ap (on_completion f) h.2)
  has_result (Exhausted prints cause) h =
      (h.0, h.1, subst (λ p. IsPrefix prints p.prints) (same h.0) h.2, subst (λ p. pays (exhaustion first charged cause p)) (same h.0) h.3)

-- both are over with the same items, or their executions are alike and so is what is behind them
abbrev pub AlikeCourses : {S T : Type 0} → (S → T → Type 0) → Course S → Course T → Type 0
AlikeCourses R (Over o) (Over other) = (other.items ≡ o.items) × R o.next other.next
AlikeCourses R (Runs A first charged x behind) (Runs B memory weight y later) =
    (f : A → B) × (memory ≡ first) × (weight ≡ charged) × ((n : ℕ) → on_progress f (x n) ≡ y n) × ((r : Result A) → AlikeCourses R (behind r) (later (on_result f r)))
AlikeCourses R NoCourse NoCourse = Unit {0}
AlikeCourses R _ _ = ⊥

module _ {S T : Type 0} (R : S → T → Type 0) (pays : Measure) where
  abbrev pub Comes : Course T → Outcome S → Type 0
  Comes d o = (other : Outcome T) × ComesTo pays d other × (other.items ≡ o.items) × R o.next other.next

  pub comes : (c : Course S) (d : Course T) → AlikeCourses R c d → (o : Outcome S) → ComesTo pays c o → Comes d o
  comes (Over p) (Over q) a o h = (q, refl, a.0 ∙ ap (λ x. x.items) (sym h), subst (λ x. R x.next q.next) (sym h) a.1)
  comes (Over p) (Runs B memory weight y later) a o h = absurd a
  comes (Over p) NoCourse a o h = absurd a
  comes (Runs A first charged x behind) (Over q) a o h = absurd a
  comes (Runs A first charged x behind) (Runs B memory weight y later) a o h =
      let r = comes (behind h.0) (later (on_result a.0 h.0)) (a.4 h.0) o h.2 in (
        r.0,
        (on_result a.0 h.0, subst (λ m. HasResult pays m weight y (on_result a.0 h.0)) (sym a.1) (subst (λ w. HasResult pays first w y (on_result a.0 h.0)) (sym a.2) (has_result pays a.0 first charged x y a.3 h.0 h.1)), r.1),
        r.2,
        r.3,
      )
  comes (Runs A first charged x behind) NoCourse a o h = absurd a
  comes NoCourse d a o h = absurd h

-- the states seen as others
pub alike_over : {S T U V : Type 0} (R : S → T → Type 0) (Q : U → V → Type 0) (f : S → U) (g : T → V) → ((s : S) (t : T) → R s t → Q (f s) (g t))
    → (c : Course S) (d : Course T) → AlikeCourses R c d → AlikeCourses Q (over_states f c) (over_states g d)
alike_over R Q f g h (Over p) (Over q) a = (a.0, h p.next q.next a.1)
alike_over R Q f g h (Over p) (Runs B memory weight y later) a = absurd a
alike_over R Q f g h (Over p) NoCourse a = absurd a
alike_over R Q f g h (Runs A first charged x behind) (Over q) a = absurd a
alike_over R Q f g h (Runs A first charged x behind) (Runs B memory weight y later) a =
    (a.0, a.1, a.2, a.3, λ r. alike_over R Q f g h (behind r) (later (on_result a.0 r)) (a.4 r))
alike_over R Q f g h (Runs A first charged x behind) NoCourse a = absurd a
alike_over R Q f g h NoCourse (Over q) a = absurd a
alike_over R Q f g h NoCourse (Runs B memory weight y later) a = absurd a
alike_over R Q f g h NoCourse NoCourse a = tt
