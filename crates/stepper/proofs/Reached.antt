-- A course whose executions are followed to their ends comes to what they come to, under any limits.
use Rattle.std.proofs.Common.{◌≡◌, ℕ, List, [], ◌∷◌, Option, Some, None, refl, sym, ap, subst}
use Rattle.play_script.specs.declared.event.Event.{Event}
use Rattle.play_script.specs.declared.event.Event.TheVariants as event
use Rattle.mo_actor.specs.Computed.{Extent, Followed, ToALimit, ToItsEnd, behind_exhaustions, behind_result, followed, result_by, result_within}
use Rattle.mo_actor.specs.Courses.{ComesTo, Course, NoCourse, Over, Runs}
use Rattle.mo_actor.specs.Executions.{Completes, Completion, Execution, Progress, Traps}
use Rattle.mo_actor.specs.Measures.{Measure}
use Rattle.mo_actor.specs.Results.{HasResult, Result}
use Rattle.mo_actor.proofs.Lists.{from_some}
use Rattle.stepper.specs.Stepping.{extents}

-- all are followed to their ends
abbrev pub AreEnds : List Extent → Type 0
AreEnds [] = Unit {0}
AreEnds (ToItsEnd n ∷ es) = AreEnds es
AreEnds (ToALimit n cause shown ∷ es) = ⊥

pub are_ends : (n : ℕ) (e : Event) → AreEnds (extents n e)
are_ends n (event.Install number) = tt
are_ends n (event.Call query name caller bytes) = tt
are_ends n (event.Reply number bytes) = tt
are_ends n (event.Reject number code text) = tt
are_ends n (event.Upgrade number) = tt

abbrev ended_by : {A : Type 0} → Progress A → Option (Completion A) → Progress A
ended_by p end = record { prints = p.prints; weight = p.weight; depth = p.depth; completion = end }

module _ (pays : Measure) where
  shown : {A : Type 0} (first charged n : ℕ) (x : Execution A) (r : Result A) (end : Option (Completion A)) → (x n).completion ≡ end → result_by (x n) end ≡ Some r
      → HasResult pays first charged x r
  shown first charged n x r None is e = absurd (cc)
  shown first charged n x r (Some (Completes a)) is e =
      let whole : x n ≡ ended_by (x n) (Some (Completes a)) = ap (ended_by (x n)) is in
      subst (HasResult pays first charged x) (from_some e) (n, (x n).depth, whole)
  shown first charged n x r (Some (Traps text)) is e = subst (HasResult pays first charged x) (from_some e) (n, refl, is)

  pub comes_to : {S : Type 0} (c : Course S) (es : List Extent) → AreEnds es → (g : Followed S) → followed c es ≡ Some g → ComesTo pays c g.reached
  comes_to (Over o) es ends g is = sym (ap (λ f. f.reached) (from_some is))
  comes_to (Runs A first charged x behind) [] ends g is = absurd (cc)
  comes_to {S = S} (Runs A first charged x behind) (ToItsEnd n ∷ es) ends g is = by (result_within (ToItsEnd n) x) refl is (λ r h. comes_to (behind r) es ends h)
    where
      ran : (r : Result A) → result_within (ToItsEnd n) x ≡ Some r → (o : Option (Followed S)) → behind_exhaustions [] o ≡ Some g
          → ((h : Followed S) → o ≡ Some h → ComesTo pays (behind r) h.reached) → (r : Result A) × HasResult pays first charged x r × ComesTo pays (behind r) g.reached
      ran r found None e next = absurd (cc)
      ran r found (Some h) e next =
          let Of : Followed S → Type 0 = λ f. ComesTo pays (behind r) f.reached in
          (r, shown first charged n x r (x n).completion refl found, subst Of (from_some e) (next h refl))

      by : (o : Option (Result A)) → result_within (ToItsEnd n) x ≡ o → behind_result [] (λ r. followed (behind r) es) o ≡ Some g
          → ((r : Result A) (h : Followed S) → followed (behind r) es ≡ Some h → ComesTo pays (behind r) h.reached)
          → (r : Result A) × HasResult pays first charged x r × ComesTo pays (behind r) g.reached
      by None found e next = absurd (cc)
      by (Some r) found e next = ran r found (followed (behind r) es) e (next r)
  comes_to (Runs A first charged x behind) (ToALimit n cause shows ∷ es) ends g is = absurd ends
  comes_to NoCourse es ends g is = absurd (cc)
