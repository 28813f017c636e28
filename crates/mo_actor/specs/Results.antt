-- How an execution comes out for the actor: it completed, it trapped, or it was cut off at a limit.
use Rattle.std.specs.Prelude.{◌≡◌, ℕ, List, ◌++◌, Some, true}
use Rattle.play_script.specs.declared.item.Word.{Word}
use Rattle.mo_actor.specs.Executions.{Completes, Traps, Progress, Execution}
use Rattle.mo_actor.specs.Measures.{Exhaustion, Measure, is_limit}

-- With the lines that it printed; a completed execution with its weight, too.
pub data Result (A : Type 0) : Type 0 where
  Completed : (prints : List (List ℕ)) → (weight : ℕ) → (result : A) → Result A
  Trapped : (prints : List (List ℕ)) → (text : List ℕ) → Result A
  Exhausted : (prints : List (List ℕ)) → (cause : Word) → Result A

-- An exhaustion at a limit, where the execution has come so far.
abbrev pub exhaustion : {A : Type 0} → (first_memory charged : ℕ) → Word → Progress A → Exhaustion
exhaustion first_memory charged cause p = record {
  cause = cause;
  weight = p.weight;
  depth = p.depth;
  charged = charged;
  first_memory = first_memory;
}

-- The first list begins the second one.
abbrev pub IsPrefix : {A : Type 0} → List A → List A → Type 0
IsPrefix {A = A} begun whole = (rest : List A) × (whole ≡ begun ++ rest)

-- The execution has this result. One that is cut off shows the first of its prints, and some number of its turns bears it out.
abbrev pub HasResult : {A : Type 0} → Measure → (first_memory charged : ℕ) → Execution A → Result A → Type 0
HasResult pays first_memory charged x (Completed prints weight result) =
    (turns : ℕ) × (depth : ℕ) × (x turns ≡ record { prints = prints; weight = weight; depth = depth; completion = Some (Completes result) })
HasResult pays first_memory charged x (Trapped prints text) =
    (turns : ℕ) × ((x turns).prints ≡ prints) × ((x turns).completion ≡ Some (Traps text))
HasResult pays first_memory charged x (Exhausted prints cause) =
    (turns : ℕ) × (is_limit cause ≡ true) × IsPrefix prints (x turns).prints × pays (exhaustion first_memory charged cause (x turns))
