-- The kernel of typed programs as a language of actors: what its store, its bodies and what waits are.
use Rattle.std.specs.Prelude.{ℕ, List, Option}
use Rattle.mo_types.specs.declared.node.TypeId.{TypeId}
use Rattle.mo_types.specs.Code.{Variable}
use Rattle.mo_values.specs.Shapes.{Bytes}
use Rattle.mo_actor.specs.Languages.{Language, language}
use Rattle.mo_actor.specs.Programs.{OutgoingCall}
use Rattle.typed_tree.specs.Language.{Value, Exp}
use Rattle.mo_meaning.specs.Acts.{Store, Given}
use Rattle.mo_meaning.specs.Coding.{Types}

-- The store of an actor, and the value of its declarations: its functions and its stable variables.
pub record Fields : Type 0 where
  pub cells : Store
  pub exports : Value

-- a shared body that stands at an `await`: its nodes, the types of its results, and the expression
pub record Waiting : Type 0 where
  pub nodes : ℕ
  pub results : List TypeId
  pub at : Exp

-- a method by its place in the program, or `__resume`, which has none
pub record Entry : Type 0 where
  pub place : Option ℕ
  pub parameters : List TypeId
  pub results : List TypeId

pub data Body : Type 0 where
  -- a method with its caller and its arguments
  Enters : (entry : Entry) → (caller : Bytes) → (arguments : List Value) → Body
  -- what waited, with what it was given
  Resumes : (waiting : Waiting) → (g : Given) → Body

-- what an upgrade hands on: the types of the program that saved, and its stable variables with their values
pub record Kept : Type 0 where
  pub types : Types
  pub variables : List (Variable TypeId)

abbrev pub kernel : Language
kernel = language Fields Body Waiting (List TypeId) Given Entry Kept

-- a call that an execution makes
abbrev pub Outgoing : Type 0
Outgoing = OutgoingCall kernel
