-- The types of a well-typed program, with Bool, () and Nat among them, are as a run asks.
use Rattle.std.proofs.Common.{List, subst}
use Rattle.mo_num.specs.declared.kind.Kind.TheVariants as kind
use Rattle.mo_types.specs.declared.node.TypeId.{TypeId}
use Rattle.mo_types.specs.Graph.{Slot, head_at}
use Rattle.mo_types.specs.Sub.{IsSubtype}
use Rattle.subtype_laws.proofs.Reflexive as reflexivity
use Rattle.typed_tree.specs.MemberTypes.{IsUnit, IsNumber}
use Rattle.typed_tree.specs.OperationTypes.{IsBool}
use Rattle.typed_tree.specs.Types.{AreLawful}
use Rattle.typed_tree.proofs.OwnLabels.{labels_own}
use Rattle.mo_soundness.specs.Lawful.{IsLawful}

module _ (types : List Slot) (lawful : AreLawful types) where
  reflexive : (t : TypeId) → IsSubtype (head_at types) t t
  reflexive t = reflexivity.reflexive (head_at types) t (λ u r. labels_own types lawful u)

  pub lawful_graph : (b u n : TypeId) → IsBool (head_at types) b → IsUnit (head_at types) u → IsNumber (head_at types) kind.Nat n → IsLawful (head_at types)
  lawful_graph b u n p q r = record {
    own = labels_own types lawful;
    one = λ t w x y v e f. subst (IsSubtype (head_at types) x) (lawful.bounds t w x y v e f) (reflexive x);
    flag = b;
    is_flag = p;
    unit = u;
    is_unit = q;
    natural = n;
    is_natural = r;
  }
