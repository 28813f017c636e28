-- What actors do by the meaning, they do by the machine.
use Rattle.std.proofs.Common.{◌≡◌, ℕ, List, [], ◌∷◌, ◌++◌, map, Option, Some, None, refl, sym, ap, ◌∙◌, subst}
use Rattle.play_script.specs.declared.event.Event.{Event}
use Rattle.play_script.specs.declared.item.Item.{Item}
use Rattle.mo_values.specs.Shapes.{Bytes}
use Rattle.mo_actor.specs.Courses.{Course, Over, Runs, NoCourse, ComesTo}
use Rattle.mo_actor.specs.Executions.{Progress, Execution, Completion, Completes, Traps}
use Rattle.mo_actor.specs.Measures.{Measure}
use Rattle.mo_actor.specs.Outcomes.{Outcome}
use Rattle.mo_actor.specs.Results.{Result, Completed, Trapped, Exhausted, HasResult, IsPrefix, exhaustion}
use Rattle.mo_actor.specs.Programs as actor
use Rattle.mo_actor.specs.States.{ActorState, NoActor}
use Rattle.mo_actor.specs.Steps.{event_course, RunsFrom, ActorRun}
use Rattle.mo_meaning.specs.Coding.{Coding}
use Rattle.mo_meaning.specs.Kernel.{kernel}
use Rattle.mo_machine.specs.ActorLanguage.{machine, on_completion, on_progress}
use Rattle.mo_machine.specs.States.{by_meaning, by_states, TypedActor, UnloadsTo, WithoutActor}
use Rattle.mo_machine.proofs.ActorRuns.{event_alike}
use Rattle.mo_machine.proofs.CoursesAlike.{on_result, AlikeCourses}

-- ---- results

module _ {A B : Type 0} (f : A → B) where
  completes : (o : Option (Completion A)) (b : B) → on_completion f o ≡ Some (Completes b) → (a : A) × (o ≡ Some (Completes a)) × (f a ≡ b)
  completes None b q = absurd (let z : None ≡ Some (Completes b) = q in cc)
  completes (Some (Completes a)) b q = let z : Some (Completes (f a)) ≡ Some (Completes b) = q in (a, refl, cc)
  completes (Some (Traps text)) b q = absurd (let z : Some (Traps text) ≡ Some (Completes b) = q in cc)

  traps : (o : Option (Completion A)) (text : List ℕ) → on_completion f o ≡ Some (Traps text) → o ≡ Some (Traps text)
  traps None text q = absurd (let z : None ≡ Some (Traps text) = q in cc)
  traps (Some (Completes a)) text q = absurd (let z : Some (Completes (f a)) ≡ Some (Traps text) = q in cc)
  traps (Some (Traps other)) text q = let z : Some (Traps other) ≡ Some (Traps text) = q in let e : other ≡ text = cc in ap (λ t. Some (Traps t)) e

  module _ (pays : Measure) (first charged : ℕ) (x : Execution A) (y : Execution B) (same : (n : ℕ) → on_progress f (x n) ≡ y n) where
    -- with its completion put in its place
    whole : (p : Progress A) (o : Option (Completion A)) → p.completion ≡ o → p ≡ record { prints = p.prints; weight = p.weight; depth = p.depth; completion = o }
    whole p o q = ap (λ c. record p { completion = c }) q

    completed_back : (prints : List (List ℕ)) (weight : ℕ) (b : B) (n depth : ℕ)
        → on_progress f (x n) ≡ record { prints = prints; weight = weight; depth = depth; completion = Some (Completes b) }
        → (r : Result A) × HasResult pays first charged x r × (on_result f r ≡ Completed prints weight b)
    completed_back prints weight b n depth q =
        let o = completes (x n).completion b (ap (λ p. p.completion) q) in
        let said : x n ≡ record { prints = (x n).prints; weight = (x n).weight; depth = (x n).depth; completion = Some (Completes o.0) } = whole (x n) (Some (Completes o.0)) o.1 in (
          Completed (x n).prints (x n).weight o.0,
          (n, (x n).depth, said),
          ap (λ p. Completed p.prints p.weight (f o.0)) q ∙ ap (λ c. Completed prints weight c) o.2,
        )

    result_back : (r : Result B) → HasResult pays first charged y r → (before : Result A) × HasResult pays first charged x before × (on_result f before ≡ r)
    result_back (Completed prints weight b) h = completed_back prints weight b h.0 h.1 (same h.0 ∙ h.2)
    result_back (Trapped prints text) h = (
      Trapped prints text,
      (h.0, ap (λ p. p.prints) (same h.0) ∙ h.1, traps (x h.0).completion text (ap (λ p. p.completion) (same h.0) ∙ h.2)),
      refl,
    )
    result_back (Exhausted prints cause) h = (
      Exhausted prints cause,
      (h.0, h.1, subst (λ p. IsPrefix prints p.prints) (sym (same h.0)) h.2, subst (λ p. pays (exhaustion first charged cause p)) (sym (same h.0)) h.3),
      refl,
    )

-- ---- courses

module _ {S T : Type 0} (R : S → T → Type 0) (pays : Measure) where
  abbrev Comes : Course S → Outcome T → Type 0
  Comes c o = (before : Outcome S) × ComesTo pays c before × (o.items ≡ before.items) × R before.next o.next

  comes_back : (c : Course S) (d : Course T) → AlikeCourses R c d → (o : Outcome T) → ComesTo pays d o → Comes c o
  comes_back (Over p) (Over q) a o h = (p, refl, ap (λ x. x.items) h ∙ a.0, subst (λ x. R p.next x.next) (sym h) a.1)
  comes_back (Over p) (Runs B memory weight y later) a o h = absurd a
  comes_back (Over p) NoCourse a o h = absurd a
  comes_back (Runs A first charged x behind) (Over q) a o h = absurd a
  comes_back (Runs A first charged x behind) (Runs B memory weight y later) a o h =
      let there : HasResult pays first charged y h.0 = subst (λ w. HasResult pays first w y h.0) a.2 (subst (λ m. HasResult pays m weight y h.0) a.1 h.1) in
      let r = result_back a.0 pays first charged x y a.3 h.0 there in
      let rest : Comes (behind r.0) o = comes_back (behind r.0) (later (on_result a.0 r.0)) (a.4 r.0) o (subst (λ b. ComesTo pays (later b) o) (sym r.2) h.2) in
      (rest.0, (r.0, r.1, rest.1), rest.2, rest.3)
  comes_back (Runs A first charged x behind) NoCourse a o h = absurd a
  comes_back NoCourse (Over q) a o h = absurd a
  comes_back NoCourse (Runs B memory weight y later) a o h = absurd a
  comes_back NoCourse NoCourse a o h = absurd h

-- ---- runs

module _ (coding : Coding) (own : Bytes) (actors : List TypedActor) (pays : Measure) where
  abbrev olds : List (actor.Program machine)
  olds = map (by_states coding) actors

  abbrev news : List (actor.Program kernel)
  news = map (by_meaning coding) actors

  runs_back : (events : List Event) (s : ActorState machine) (t : ActorState kernel) → UnloadsTo coding s t → (items : List Item) → RunsFrom pays news own t events items → RunsFrom pays olds own s events items
  runs_back [] s t a items h = h
  runs_back (e ∷ events) s t a items h =
      let r = comes_back (UnloadsTo coding) pays (event_course olds own e s) (event_course news own e t) (event_alike coding own actors e s t a) h.0 h.1 in
      (r.0, r.1, h.2, h.3 ∙ ap (λ is. is ++ h.2) r.2, runs_back events (r.0).next (h.0).next r.3 h.2 h.4)

  pub run_back : (events : List Event) (items : List Item) → ActorRun pays news own events items → ActorRun pays olds own events items
  run_back events items h = runs_back events (NoActor 0 []) (NoActor 0 []) (WithoutActor 0 []) items h
