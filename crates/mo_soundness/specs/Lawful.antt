-- What is asked of the types of a program that runs (Motoko language manual, sections "Types" and "Well-formed types").
use Rattle.mo_num.specs.declared.kind.Kind.TheVariants as kind
use Rattle.mo_types.specs.declared.node.Node.{Node}
use Rattle.mo_types.specs.declared.node.TypeId.{TypeId}
use Rattle.subtype_laws.specs.Bounds.{OneBound}
use Rattle.subtype_laws.specs.Labels.{OwnLabels}
use Rattle.typed_tree.specs.MemberTypes.{IsUnit, IsNumber}
use Rattle.typed_tree.specs.OperationTypes.{IsBool}

-- Labels tell fields apart, type parameters of one number have equal bounds, and Bool, () and Nat are among the types: a loop over an
-- iterator tests and gives them, also where the program names none of the three.
pub record IsLawful (head : TypeId → Node TypeId) : Type 0 where
  pub own : (t : TypeId) → OwnLabels (head t)
  pub one : OneBound head
  pub flag : TypeId
  pub is_flag : IsBool head flag
  pub unit : TypeId
  pub is_unit : IsUnit head unit
  pub natural : TypeId
  pub is_natural : IsNumber head kind.Nat natural
