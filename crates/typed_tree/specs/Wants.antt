-- What is asked of what a name stands for or an expression gives, and what serves where it is asked.
use Rattle.std.specs.Prelude.{ℕ, List}
use Rattle.mo_types.specs.declared.node.Node.{Node}
use Rattle.mo_types.specs.Sub.{IsSubtype}

pub data Want (A : Type 0) : Type 0 where
  Anything : Want A
  -- a value of the type
  Of : (t : A) → Want A
  -- a cell whose contents have a type equal to this
  CellOf : (t : A) → Want A
  -- the future of a call, whose `await` gives a value of the type
  FutureOf : (t : A) → Want A
  -- what was kept of a stable variable of the type: null, or an option with a value of it
  KeptOf : (t : A) → Want A
  -- a function of the type, for each choice of types in the place of these type parameters
  Generic : (parameters : List ℕ) → (t : A) → Want A

-- in the body of a function futures from outside are out of reach
abbrev pub in_function : {A : Type 0} → Want A → Want A
in_function (FutureOf t) = Anything
in_function w = w

module _ {A : Type 0} (head : A → Node A) where
  abbrev pub Below : A → A → Type 0
  Below t u = IsSubtype head t u

  abbrev pub Equal : A → A → Type 0
  Equal t u = Below t u × Below u t

  -- what is there serves where this is asked; a future serves nowhere but where a future is asked
  abbrev pub Serves : Want A → Want A → Type 0
  Serves (FutureOf t) (FutureOf u) = Below t u
  Serves (FutureOf t) w = ⊥
  Serves w Anything = Unit {0}
  Serves (Of t) (Of u) = Below t u
  Serves (CellOf t) (CellOf u) = Equal t u
  Serves (KeptOf t) (KeptOf u) = Equal t u
  Serves _ _ = ⊥
