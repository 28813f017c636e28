-- Executions of an actor, as its run sees them, that follow those of another.
use Rattle.std.specs.Prelude.{◌≡◌, ℕ, ◌*◌, ◌≤◌, Option, Some, None}
use Rattle.mo_actor.specs.Executions.{Completion, Completes, Traps, Progress, Execution}

-- Both tells what is alike of what they leave.
module _ (times : ℕ) {A B : Type 0} (Both : A → B → Type 0) where
  -- where the new one has ended, the old one has ended alike
  abbrev pub CompletionsAlike : Option (Completion A) → Option (Completion B) → Type 0
  CompletionsAlike x None = Unit {0}
  CompletionsAlike (Some (Completes a)) (Some (Completes b)) = Both a b
  CompletionsAlike (Some (Traps text)) (Some (Traps said)) = said ≡ text
  CompletionsAlike x y = ⊥

  pub record ProgressAlike (x : Progress A) (y : Progress B) : Type 0 where
    pub prints_are : y.prints ≡ x.prints
    pub weight : y.weight ≤ times * x.weight
    pub depth : y.depth ≤ x.depth
    pub completion : CompletionsAlike x.completion y.completion

  -- after each number of its turns the new execution is where the old one is after some
  abbrev pub Follows : Execution A → Execution B → Type 0
  Follows x y = (k : ℕ) → (n : ℕ) × ProgressAlike (x n) (y k)
