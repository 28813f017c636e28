-- What a course of the meaning comes to, one of the machine that is alike comes to.
use Rattle.std.proofs.Common.{◌≡◌, ℕ, List, Option, Some, None, refl, sym, ap, ◌∙◌, subst}
use Rattle.mo_actor.specs.Courses.{Course, Over, Runs, NoCourse, ComesTo}
use Rattle.mo_actor.specs.Executions.{Progress, Execution, Completion, Completes, Traps}
use Rattle.mo_actor.specs.Measures.{Measure}
use Rattle.mo_actor.specs.Outcomes.{Outcome}
use Rattle.mo_actor.specs.Results.{Result, Completed, Trapped, Exhausted, HasResult, IsPrefix, exhaustion}
use Rattle.mo_machine.specs.ActorLanguage.{on_completion, on_progress}
use Rattle.mo_machine.proofs.CoursesAlike.{on_result, AlikeCourses}

-- ---- results

module _ {A B : Type 0} (f : A → B) where
  completes : (o : Option (Completion A)) (b : B) → on_completion f o ≡ Some (Completes b) → (a : A) × (o ≡ Some (Completes a)) × (f a ≡ b)
  completes None b q = absurd (let z : None ≡ Some (Completes b) = q in cc)
  completes (Some (Completes a)) b q = let z : Some (Completes (f a)) ≡ Some (Completes b) = q in (a, refl, cc)
  completes (Some (Traps text)) b q = absurd (let z : Some (Traps text) ≡ Some (Completes b) = q in cc)

  traps : (o : Option (Completion A)) (text : List ℕ) → on_completion f o ≡ Some (Traps text) → o ≡ Some (Traps text)
  traps None text q = absurd (let z : None ≡ Some (Traps text) = q in cc)
  traps (Some (Completes a)) text q = absurd (let z : Some (Completes (f a)) ≡ Some (Traps text) = q in cc)
  traps (Some (Traps other)) text q = let z : Some (Traps other) ≡ Some (Traps text) = q in let e : other ≡ text = cc in ap (λ t. Some (Traps t)) e

  module _ (pays : Measure) (first charged : ℕ) (x : Execution A) (y : Execution B) (same : (n : ℕ) → on_progress f (x n) ≡ y n) where
    -- with its completion put in its place
    whole : (p : Progress A) (o : Option (Completion A)) → p.completion ≡ o → p ≡ record { prints = p.prints; weight = p.weight; depth = p.depth; completion = o }
    whole p o q = ap (λ c. record p { completion = c }) q

    completed_back : (prints : List (List ℕ)) (weight : ℕ) (b : B) (n depth : ℕ)
        → on_progress f (x n) ≡ record { prints = prints; weight = weight; depth = depth; completion = Some (Completes b) }
        → (r : Result A) × HasResult pays first charged x r × (on_result f r ≡ Completed prints weight b)
    completed_back prints weight b n depth q =
        let o = completes (x n).completion b (ap (λ p. p.completion) q) in
        let said : x n ≡ record { prints = (x n).prints; weight = (x n).weight; depth = (x n).depth; completion = Some (Completes o.0) } = whole (x n) (Some (Completes o.0)) o.1 in (
          Completed (x n).prints (x n).weight o.0,
          (n, (x n).depth, said),
          ap (λ p. Completed p.prints p.weight (f o.0)) q ∙ ap (λ c. Completed prints weight c) o.2,
        )

    result_back : (r : Result B) → HasResult pays first charged y r → (before : Result A) × HasResult pays first charged x before × (on_result f before ≡ r)
    result_back (Completed prints weight b) h = completed_back prints weight b h.0 h.1 (same h.0 ∙ h.2)
    result_back (Trapped prints text) h = (
      Trapped prints text,
      (h.0, ap (λ p. p.prints) (same h.0) ∙ h.1, traps (x h.0).completion text (ap (λ p. p.completion) (same h.0) ∙ h.2)),
      refl,
    )
    result_back (Exhausted prints cause) h = (
      Exhausted prints cause,
      (h.0, h.1, subst (λ p. IsPrefix prints p.prints) (sym (same h.0)) h.2, subst (λ p. pays (exhaustion first charged cause p)) (sym (same h.0)) h.3),
      refl,
    )

-- ---- courses

module _ {S T : Type 0} (R : S → T → Type 0) (pays : Measure) where
  abbrev Comes : Course S → Type 0
  Comes c = (o : Outcome S) × ComesTo pays c o

  pub comes_back : (c : Course S) (d : Course T) → AlikeCourses R c d → (o : Outcome T) → ComesTo pays d o → Comes c
  comes_back (Over p) (Over q) a o h = (p, refl)
  comes_back (Over p) (Runs B memory weight y later) a o h = absurd a
  comes_back (Over p) NoCourse a o h = absurd a
  comes_back (Runs A first charged x behind) (Over q) a o h = absurd a
  comes_back (Runs A first charged x behind) (Runs B memory weight y later) a o h =
      let there : HasResult pays first charged y h.0 = subst (λ w. HasResult pays first w y h.0) a.2 (subst (λ m. HasResult pays m weight y h.0) a.1 h.1) in
      let r = result_back a.0 pays first charged x y a.3 h.0 there in
      let rest : Comes (behind r.0) = comes_back (behind r.0) (later (on_result a.0 r.0)) (a.4 r.0) o (subst (λ b. ComesTo pays (later b) o) (sym r.2) h.2) in
      (rest.0, (r.0, r.1, rest.1))
  comes_back (Runs A first charged x behind) NoCourse a o h = absurd a
  comes_back NoCourse (Over q) a o h = absurd a
  comes_back NoCourse (Runs B memory weight y later) a o h = absurd a
  comes_back NoCourse NoCourse a o h = absurd h
