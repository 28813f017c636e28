-- Executions: what a body has come to after each number of turns. How a language runs its bodies is its own.
use Rattle.std.specs.Prelude.{◌≡◌, ℕ, zero, suc, ◌+◌, max, List, [], length, Option, Some, None}

-- How an execution ends: it completes with what it leaves, or it traps with a text. Motoko language manual, section "Traps".
pub data Completion (A : Type 0) : Type 0 where
  Completes : (result : A) → Completion A
  Traps : (text : List ℕ) → Completion A

-- What an execution has come to after some turns.
pub record Progress (A : Type 0) : Type 0 where
  -- the lines that it printed so far, in order
  pub prints : List (List ℕ)
  -- what it cost so far
  pub weight : ℕ
  -- the greatest depth of what stood open at one moment so far
  pub depth : ℕ
  -- its end, if it has come to it
  pub completion : Option (Completion A)

-- An execution is its progress after each number of turns.
abbrev pub Execution : Type 0 → Type 0
Execution A = ℕ → Progress A

-- An execution that has ended stays as it is, at all later turns.
abbrev pub Settles : {A : Type 0} → Execution A → Type 0
Settles {A = A} x = (n : ℕ) (end : Completion A) → (x n).completion ≡ Some end → x (suc n) ≡ x n

-- An execution of one turn, that traps with this text: it weighs the turn and each byte of the text.
abbrev pub trapping : {A : Type 0} → (text : List ℕ) → Execution A
trapping text zero = record { prints = []; weight = 0; depth = 0; completion = None }
trapping text (suc turns) = record { prints = []; weight = 1 + length text; depth = 0; completion = Some (Traps text) }

-- An execution without turns of its own.
abbrev pub at_once : {A : Type 0} → Completion A → Execution A
at_once end turns = record { prints = []; weight = 0; depth = 0; completion = Some end }

-- What it costs to read a message or the values that an upgrade kept.
pub record ReadingCost : Type 0 where
  pub weight : ℕ
  pub depth : ℕ

-- The same progress with that cost before it.
abbrev pub and_reading : {A : Type 0} → ReadingCost → Progress A → Progress A
and_reading cost p = record { prints = p.prints; weight = cost.weight + p.weight; depth = max cost.depth p.depth; completion = p.completion }

-- The execution behind the reading of its message, whose cost counts from the first moment on.
abbrev pub after_reading : {A : Type 0} → ReadingCost → Execution A → Execution A
after_reading cost x turns = and_reading cost (x turns)
