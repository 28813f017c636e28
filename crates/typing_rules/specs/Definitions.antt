-- Type definitions, and what the use of a defined name stands for (Motoko language manual, section "Type declarations": a definition whose right side is a
-- name stands for what that name stands for).
use Rattle.std.specs.Prelude.{ℕ, zero, suc, List, [], ◌∷◌, ◌++◌, length, Option, Some, None, cond, nat_eq}
use Rattle.typing_rules.specs.Terms.{Term, Terms, Parameter, Use, Nil, Cons, Any, Bottom, put_in, argument_of}

-- a type definition or class: the number of its name, the parameters in scope there and then its own, and the type on its right side
pub record Definition : Type 0 where
  pub at : ℕ
  pub outer : List ℕ
  pub own : List ℕ
  pub right : Term

-- a type parameter and its bound
pub record Bounded : Type 0 where
  pub at : ℕ
  pub bound : Term

-- those of a program
pub record Definitions : Type 0 where
  pub types : List Definition
  pub parameters : List Bounded

abbrev pub definition_at : List Definition → ℕ → Option Definition
definition_at [] at = None
definition_at (d ∷ ds) at = cond (nat_eq d.at at) (Some d) (definition_at ds at)

abbrev pub bound_at : List Bounded → ℕ → Term
bound_at [] at = Any
bound_at (b ∷ bs) at = cond (nat_eq b.at at) b.bound (bound_at bs at)

-- What a use stands for, where its definition stands for this. A parameter of the definition leads on to its argument.
abbrev pub at_reached : (ℕ → Term) → (ℕ → Option Term) → Option Term → Option Term
at_reached s reached None = None
at_reached s reached (Some (Parameter at)) = reached at
at_reached s reached (Some t) = Some (put_in s t)

-- what is found of a parameter's argument
abbrev pub found_of : List ℕ → List (Option Term) → ℕ → Option Term
found_of [] found at = Some Bottom
found_of (p ∷ ps) [] at = Some Bottom
found_of (p ∷ ps) (o ∷ os) at = cond (nat_eq p at) o (found_of ps os at)

abbrev pub parameters_of : Option Definition → List ℕ
parameters_of None = []
parameters_of (Some d) = d.outer ++ d.own

module _ (types : List Definition) where
  module _ (below : ℕ → Option Term) where
    abbrev mutual
      pub followed : Term → Option Term
      followed (Use at arguments) =
          at_reached (argument_of (parameters_of (definition_at types at)) arguments)
          (found_of (parameters_of (definition_at types at)) (each_followed arguments)) (below at)
      followed t = Some t

      pub each_followed : Terms → List (Option Term)
      each_followed Nil = []
      each_followed (Cons t rest) = followed t ∷ each_followed rest

  abbrev pub followed_right : (ℕ → Option Term) → Option Definition → Option Term
  followed_right below None = None
  followed_right below (Some d) = followed below d.right

  -- what a definition stands for within so many definitions
  abbrev pub reaches : ℕ → ℕ → Option Term
  reaches zero at = None
  reaches (suc n) at = followed_right (reaches n) (definition_at types at)

  -- The type that a definition stands for, which is no use of a name. There is none where names lead on without end.
  abbrev pub reached : ℕ → Option Term
  reached at = reaches (suc (length types)) at

  abbrev pub or_bottom : Option Term → Term
  or_bottom None = Bottom
  or_bottom (Some t) = t

  -- the type with its name, if it is one, followed
  abbrev pub unfolded : Term → Term
  unfolded t = or_bottom (followed reached t)
