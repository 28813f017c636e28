-- Programs of the core languages: Motoko language manual, sections "Actors" and "Stable variables". They differ in what the body
-- of a function is.
use Rattle.std.specs.Prelude.{ℕ, List, Bool}
use Rattle.mo_types.specs.declared.node.Node.{Node}
use Rattle.mo_types.specs.declared.node.TypeId.{TypeId}
use Rattle.mo_values.specs.Shapes.{Bytes}

-- the types of the arguments and results of a shared function
pub record Signature : Type 0 where
  pub parameters : List TypeId
  pub results : List TypeId

-- `stable var x : A`
pub record StableVariable : Type 0 where
  pub name : Bytes
  pub of_type : TypeId

module _ (Body : Type 0) where
  -- functions that are made together, and how many values they see of where they are made
  pub record Group : Type 0 where
    pub sees : ℕ
    pub bodies : List Body

  -- its body takes the context of the call, and then the arguments
  pub record Method : Type 0 where
    pub name : Bytes
    pub query : Bool
    pub signature : Signature
    pub body : Body

  -- the functions of a group make groups before it alone
  pub record Program : Type 0 where
    pub head : TypeId → Node TypeId
    pub groups : List Group
    pub methods : List Method
    pub stable : List StableVariable
    -- the hook before an upgrade, and then the values of the stable variables as a tuple
    pub save : Body
    -- It takes what was kept of each stable variable, as an option, and then whether this is an upgrade. It gives the values of
    -- the actor's own names as a tuple.
    pub start : Body
