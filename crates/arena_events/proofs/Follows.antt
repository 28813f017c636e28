-- Courses of one execution, followed for so many turns.
use Rattle.std.proofs.Common.{◌≡◌, ℕ, [], ◌∷◌, Option, Some, None, ap}
use Rattle.mo_actor.specs.Computed.{Followed, ToItsEnd, behind_result, followed, followed_to, result_by}
use Rattle.mo_actor.specs.Courses.{Course, Over, Runs}
use Rattle.mo_actor.specs.Executions.{Completes, Completion, Execution, Traps}
use Rattle.mo_actor.specs.Outcomes.{Outcome}
use Rattle.mo_actor.specs.Results.{Completed, Result, Trapped}
use Rattle.mo_values.specs.Shapes.{Bytes}

module _ {A S : Type 0} (first charged n : ℕ) (x : Execution A) (g : Result A → Outcome S) where
  abbrev course : Course S
  course = Runs A first charged x (λ r. Over (g r))

  abbrev by : Option (Completion A) → Option (Followed S)
  by o = behind_result [] (λ r. followed (Over (g r)) []) (result_by (x n) o)

  -- it needs more turns
  pub followed_still : (x n).completion ≡ None → followed course (ToItsEnd n ∷ []) ≡ None
  followed_still h = ap by h

  pub followed_completes : (result : A) → (x n).completion ≡ Some (Completes result)
      → followed course (ToItsEnd n ∷ []) ≡ Some (followed_to (g (Completed (x n).prints (x n).weight result)) [] [])
  followed_completes result h = ap by h

  pub followed_traps : (text : Bytes) → (x n).completion ≡ Some (Traps text) → followed course (ToItsEnd n ∷ []) ≡ Some (followed_to (g (Trapped (x n).prints text)) [] [])
  followed_traps text h = ap by h
