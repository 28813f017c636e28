-- Where executions follow others, each result of theirs is one of the others.
use Rattle.std.proofs.Common.{◌≡◌, ℕ, ◌*◌, ◌≤◌, refl, sym, ap, ◌∙◌, subst, List, Option, Some, None, arith as arithmetic}
use Rattle.play_script.specs.declared.item.Word.{Word}
use Rattle.play_script.specs.declared.item.Word.TheVariants as word
use Rattle.mo_actor.specs.Executions.{Completion, Completes, Traps, Execution}
use Rattle.mo_actor.specs.Measures.{Measure, Exhaustion, Spent}
use Rattle.mo_actor.specs.Results.{Result, Completed, Trapped, Exhausted, IsPrefix, HasResult}
use Rattle.mo_actor.specs.Passes.{AlikeResults}
use Rattle.core_laws.specs.Following.{CompletionsAlike, ProgressAlike, Follows}

abbrev pub exhausted : (first charged : ℕ) → Word → (weight depth : ℕ) → Exhaustion
exhausted first charged cause weight depth = record { cause = cause; weight = weight; depth = depth; charged = charged; first_memory = first }

-- what the new program pays for, the old one pays for
abbrev pub Covers : (times : ℕ) (pays_old pays_new : Measure) (first charged memory charged_new : ℕ) → Type 0
Covers times pays_old pays_new first charged memory charged_new =
    (cause : Word) (w d w' d' : ℕ) → w' ≤ times * w → d' ≤ d → pays_new (exhausted memory charged_new cause w' d') → pays_old (exhausted first charged cause w d)

-- under at most half the limits of steps and pages, and the same stack
pub spent_covers : (steps stack pages steps_new pages_new first charged memory charged_new : ℕ) → 2 * steps ≤ steps_new → 2 * pages ≤ pages_new → memory ≤ 2 * first → charged_new ≤ 2 * charged
    → Covers 2 (Spent steps stack pages) (Spent steps_new stack pages_new) first charged memory charged_new
spent_covers steps stack pages steps_new pages_new first charged memory charged_new a b m g word.Steps w d w' d' wl dl h = omega (arithmetic, a, wl, h)
spent_covers steps stack pages steps_new pages_new first charged memory charged_new a b m g word.Stack w d w' d' wl dl h = omega (arithmetic, dl, h)
spent_covers steps stack pages steps_new pages_new first charged memory charged_new a b m g word.Heap w d w' d' wl dl h = omega (arithmetic, b, m, g, wl, h)
spent_covers steps stack pages steps_new pages_new first charged memory charged_new a b m g _ w d w' d' wl dl h = absurd h

module _ (times : ℕ) {A B : Type 0} (Both : A → B → Type 0) (pays_old pays_new : Measure) (first charged memory charged_new : ℕ) (covers : Covers times pays_old pays_new first charged memory charged_new)
    (x : Execution A) (y : Execution B) (follows : Follows times Both x y) where
  abbrev pub Out : Result A → Result B → Type 0
  Out = AlikeResults (λ w w' a b. (w' ≤ times * w) × Both a b)

  abbrev Comes : Result B → Type 0
  Comes r = (o : Result A) × HasResult pays_old first charged x o × Out o r

  completed : (prints : List (List ℕ)) (weight : ℕ) (b : B) (n : ℕ) → (x n).prints ≡ prints → weight ≤ times * (x n).weight → (c : Option (Completion A)) → (x n).completion ≡ c
      → CompletionsAlike times Both c (Some (Completes b)) → Comes (Completed prints weight b)
  completed prints weight b n p w None z h = absurd h
  completed prints weight b n p w (Some (Traps text)) z h = absurd h
  completed prints weight b n p w (Some (Completes a)) z h = (
    Completed (x n).prints (x n).weight a,
    (n, (x n).depth, ap (λ c. record { prints = (x n).prints; weight = (x n).weight; depth = (x n).depth; completion = c }) z),
    (p, (w, h)),
  )

  trapped : (prints : List (List ℕ)) (text : List ℕ) (n : ℕ) → (x n).prints ≡ prints → (c : Option (Completion A)) → (x n).completion ≡ c
      → CompletionsAlike times Both c (Some (Traps text)) → Comes (Trapped prints text)
  trapped prints text n p None z h = absurd h
  trapped prints text n p (Some (Completes a)) z h = absurd h
  trapped prints text n p (Some (Traps said)) z h = (Trapped (x n).prints said, (n, refl, z), (p, sym h))

  pub comes_out : (r : Result B) → HasResult pays_new memory charged_new y r → Comes r
  comes_out (Completed prints weight b) h =
      let f = follows (h.0) in
      let al : ProgressAlike times Both (x (f.0)) (record { prints = prints; weight = weight; depth = h.1; completion = Some (Completes b) }) = subst (λ p. ProgressAlike times Both (x (f.0)) p) (h.2) (f.1) in
      completed prints weight b (f.0) (sym al.prints_are) al.weight (x (f.0)).completion refl al.completion
  comes_out (Trapped prints text) h =
      let f = follows (h.0) in
      let al : ProgressAlike times Both (x (f.0)) (y (h.0)) = f.1 in
      trapped prints text (f.0) (sym al.prints_are ∙ h.1) (x (f.0)).completion refl (subst (λ c. CompletionsAlike times Both (x (f.0)).completion c) (h.2) al.completion)
  comes_out (Exhausted prints cause) h =
      let f = follows (h.0) in
      let al : ProgressAlike times Both (x (f.0)) (y (h.0)) = f.1 in (
        Exhausted prints cause,
        (f.0, h.1, subst (λ p. IsPrefix prints p) al.prints_are (h.2), covers cause (x (f.0)).weight (x (f.0)).depth (y (h.0)).weight (y (h.0)).depth al.weight al.depth (h.3)),
        (refl, refl),
      )
