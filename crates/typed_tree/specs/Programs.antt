-- A program as its meaning sees it (Motoko language manual, sections "Actors" and "Stability").
use Rattle.std.specs.Prelude.{ℕ, Bool, List}
use Rattle.mo_types.specs.declared.node.Node.{Node}
use Rattle.mo_types.specs.declared.node.TypeId.{TypeId}
use Rattle.mo_values.specs.Shapes.{Bytes}
use Rattle.typed_tree.specs.Language.{Exp}

-- a public function: its name, whether it is a query, and the types of arguments and results
pub record Method : Type 0 where
  pub name : Bytes
  pub query : Bool
  pub parameters : List TypeId
  pub results : List TypeId

pub record StableVariable : Type 0 where
  pub name : Bytes
  pub of_type : TypeId

pub record Program : Type 0 where
  pub head : TypeId → Node TypeId
  pub stable : List StableVariable
  pub methods : List Method
  -- the nodes of the actor's declarations
  pub nodes : ℕ
  -- The actor's declarations. The names around them are, the nearest first: the actor itself; each method, as the shared
  -- function of that name of the actor; and for each stable variable the kept value, which is an option. Their value is a tuple
  -- of four: a tuple of the functions of the methods, which take the context of the call before the arguments; `preupgrade`
  -- and `postupgrade`, each an option; and an object of the cells of the stable variables, under their names.
  pub body : Exp
