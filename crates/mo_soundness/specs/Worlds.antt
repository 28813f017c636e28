-- What typing goes by where expressions run (Motoko language manual, sections "Types" and "Type parameters"). A function with type parameters
-- has no types when it runs. So there what runs is typed by types in which others stand in the place of type parameters, while a reduction
-- looks at the types that the program names.
use Rattle.std.specs.Prelude.{List, ℕ}
use Rattle.mo_types.specs.declared.node.Node.{Node}
use Rattle.mo_types.specs.declared.node.TypeId.{TypeId}

pub record World : Type 1 where
  -- the types of what runs
  pub head : TypeId → Node TypeId
  -- the types that a program names
  pub meant : TypeId → Node TypeId
  -- the types of a function of such a type, for each choice of types in the place of these type parameters
  pub Instance : List ℕ → TypeId → TypeId → Type 0
  -- the parameters and results of shared functions that are called
  pub IsMessage : List TypeId → List TypeId → Type 0

-- no type stands in the place of a type parameter
abbrev pub plain_world : (TypeId → Node TypeId) → World
plain_world head = record { head = head; meant = head; Instance = λ vs t u. ⊥; IsMessage = λ ps rs. Unit {0} }
