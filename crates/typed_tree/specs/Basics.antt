-- The types that each program has (Motoko language manual, sections "Booleans", "Tuples", "Iteration").
use Rattle.std.specs.Prelude.{List}
use Rattle.mo_num.specs.declared.kind.Kind.TheVariants as kind
use Rattle.mo_types.specs.declared.node.TypeId.{TypeId}
use Rattle.mo_types.specs.Graph.{Slot, head_at}
use Rattle.typed_tree.specs.MemberTypes.{IsUnit, IsNumber}
use Rattle.typed_tree.specs.OperationTypes.{IsBool}

-- Bool, () and Nat are among the types: what a comparison, an assignment and the size of an array give
pub record HasBasics (types : List Slot) : Type 0 where
  pub flag : TypeId
  pub is_flag : IsBool (head_at types) flag
  pub unit : TypeId
  pub is_unit : IsUnit (head_at types) unit
  pub natural : TypeId
  pub is_natural : IsNumber (head_at types) kind.Nat natural
