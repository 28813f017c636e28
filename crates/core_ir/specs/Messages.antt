-- What an actor's program is told of messages and of what upgrades keep (Candid specification; Motoko language manual, sections
-- "Candid serialization" and "Stable variables"): K is what an upgrade hands on.
use Rattle.std.specs.Prelude.{ℕ, List, Option}
use Rattle.mo_types.specs.declared.node.TypeId.{TypeId}
use Rattle.mo_values.specs.Shapes.{Bytes}
use Rattle.mo_actor.specs.Executions.{ReadingCost}
use Rattle.core_ir.specs.Values.{Value}

-- what is kept, and how many bytes it takes in stable memory
pub record Saved (K : Type 0) : Type 0 where
  pub kept : K
  pub size : ℕ

pub record Messages (K : Type 0) : Type 0 where
  -- the bytes of values at types; none where they are no values of these
  pub spell : List TypeId → List Value → Option Bytes
  -- the values that bytes read as at types; none where they do not
  pub read : List TypeId → Bytes → Option (List Value)
  pub reading_cost : List TypeId → Bytes → ReadingCost
  -- the values of the stable variables, in order; none where they are no values of their types
  pub save : List Value → Option (Saved K)
  -- each stable variable's value as an option; none where what was kept is no value of its type
  pub restore : K → Option (List (Option Value))
  pub restoring_cost : K → ReadingCost
