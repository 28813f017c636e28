-- Trees that are typed, by the forms of their nodes.
use Rattle.std.proofs.Common.{List, refl}
use Rattle.mo_types.specs.declared.node.TypeId.{TypeId}
use Rattle.mo_types.specs.Graph.{Slot, head_at}
use Rattle.typed_tree.specs.declared.action.Action.{Action}
use Rattle.typed_tree.specs.declared.expression.Form.{roll-Form}
use Rattle.typed_tree.specs.declared.expression.Form.TheOpen as F
use Rattle.typed_tree.specs.declared.expression.TypedExpression.{TypedExpression}
use Rattle.typed_tree.specs.ActionTypes.{Context, ActionTyped}
use Rattle.typed_tree.specs.PatternTypes.{IsInScope}
use Rattle.typed_tree.specs.Typing.{OwnType, EachGives, Typed}
use Rattle.typed_tree.specs.TypingLaws.{form_typing}
use Rattle.typed_tree.specs.Wants.{Want, Of, CellOf, Below, Serves}
use Rattle.typed_tree.proofs.Rules.{forms, expressions}
use Rattle.typing_rules.specs.Definitions.{Definitions}
use Rattle.typing_rules.specs.Terms.{Term}
use Rattle.desugaring.specs.Nodes.{Layer, node_of}
use Rattle.desugaring_laws.specs.GraphOf.{IsGraphOf}
use Rattle.desugaring_laws.specs.Known.{IsKnown}
use Rattle.desugaring_laws.proofs.Graph.{in_scope, reflexive}

module _ (defs : Definitions) (slots : List Slot) (terms : List Term) (number : Term → TypeId) (g : IsGraphOf defs slots terms number) (c : Context) where
  -- a node whose form gives this serves where something is wanted
  pub node : (u : Term) → IsInScope slots c.parameters (number u) → (x : Layer) (given w : Want TypeId) → OwnType (head_at slots) given (number u) → form_typing slots x c given → Serves (head_at slots) given w
      → Typed slots (node_of (number u) x) c w
  node u k x given w own h s = (expressions slots (record { of_type = number u; form = roll-Form x }) c w).1 (given, own, k, (forms slots x c given).1 h, s)

  pub scope_of : (u : Term) → IsKnown defs terms c.parameters u → IsInScope slots c.parameters (number u)
  scope_of u k = in_scope defs slots terms number g c.parameters u k.there k.fine.scoped

  -- a node that gives a value
  pub value_node : (u : Term) → IsKnown defs terms c.parameters u → (x : Layer) → form_typing slots x c (Of (number u)) → (t : TypeId) → Below (head_at slots) (number u) t → Typed slots (node_of (number u) x) c (Of t)
  value_node u k x h t b = node u (scope_of u k) x (Of (number u)) (Of t) refl h b

  pub self : (t : TypeId) → Below (head_at slots) t t
  self t = reflexive defs slots terms number g t

  -- one that gives a cell
  pub cell_node : (u : Term) → IsKnown defs terms c.parameters u → (x : Layer) → form_typing slots x c (CellOf (number u)) → Typed slots (node_of (number u) x) c (CellOf (number u))
  cell_node u k x h = node u (scope_of u k) x (CellOf (number u)) (CellOf (number u)) refl h (self (number u), self (number u))

  -- one that acts, and gives a value
  pub acting : (u : Term) → IsKnown defs terms c.parameters u → (a : Action) (es : List TypedExpression) (ws : List (Want TypeId)) → ActionTyped (head_at slots) c a ws (Of (number u)) → EachGives (Typed slots) c es ws
      → (t : TypeId) → Below (head_at slots) (number u) t → Typed slots (node_of (number u) (F.Do a es)) c (Of t)
  acting u k a es ws h gs = value_node u k (F.Do a es) (ws, h, gs)

  -- one that acts, and gives a cell
  pub acting_on : (u : Term) → IsKnown defs terms c.parameters u → (a : Action) (es : List TypedExpression) (ws : List (Want TypeId)) → ActionTyped (head_at slots) c a ws (CellOf (number u)) → EachGives (Typed slots) c es ws
      → Typed slots (node_of (number u) (F.Do a es)) c (CellOf (number u))
  acting_on u k a es ws h gs = cell_node u k (F.Do a es) (ws, h, gs)
