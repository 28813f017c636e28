-- Members, elements and calls with the types as they are in the table and in the graph.
use Rattle.std.specs.Prelude.{◌≡◌, Bool, true, false, List, [], ◌∷◌, Option, Some, None, map}
use Rattle.mo_types.specs.declared.node.Field.{Field}
use Rattle.mo_types.specs.declared.node.Node.{Node}
use Rattle.mo_types.specs.declared.node.Node.TheVariants as node
use Rattle.mo_types.specs.declared.node.Sort.TheVariants as sort
use Rattle.mo_types.specs.declared.node.TypeId.{TypeId}
use Rattle.mo_types.specs.Sub.{find}
use Rattle.mo_values.specs.declared.operation.Operation.TheVariants as op
use Rattle.typed_tree.specs.declared.action.Action.{Action}
use Rattle.typed_tree.specs.declared.action.Action.TheVariants as action
use Rattle.typed_tree.specs.declared.expression.TypedExpression.{TypedExpression}
use Rattle.typing_rules.specs.AbstractSyntax.{Bytes}
use Rattle.typing_rules.specs.Expressions.{element_of}
use Rattle.typing_rules.specs.Terms.{Term}
use Rattle.typing_rules.specs.Terms as t
use Rattle.type_terms.specs.declared.form.TermId.{TermId}
use Rattle.type_definitions.specs.Meanings.{term}
use Rattle.met_types.specs.States.{State}
use Rattle.desugaring.specs.Expressions as expressions
use Rattle.desugaring.specs.Nodes as nodes
use Rattle.kernel_types.specs.Numbers.{definitions, head_of, members_head_of, number}
use Rattle.kernel_nodes.specs.Made.{acts_at, held_at, operates_at}
use Rattle.kernel_members.specs.declared.members.Access.{Access}
use Rattle.kernel_members.specs.declared.members.Access.TheVariants as access

-- ---- of a head

module _ {A : Type 0} where
  abbrev pub is_var : Option (Field A) → Bool
  is_var None = false
  is_var (Some f) = f.mutable

  abbrev pub part_of : Option (Field A) → Option A
  part_of None = None
  part_of (Some f) = Some f.part

  abbrev pub field_at : Bytes → Node A → Option (Field A)
  field_at x (node.Object fs) = find x fs
  field_at x _ = None

  -- what `a.x` is
  abbrev pub access_at : Bytes → Node A → Access
  access_at x (node.Object fs) = access.Field (is_var (find x fs))
  access_at x (node.Actor fs) = access.Method
  access_at x node.Text = access.BuiltIn (nodes.text_method x)
  access_at x _ = access.BuiltIn (nodes.array_method x)

  abbrev pub is_mutable_at : Node A → Bool
  is_mutable_at (node.MutArray a) = true
  is_mutable_at _ = false

  abbrev pub element_at : Node A → Option A
  element_at (node.Array a) = Some a
  element_at (node.MutArray a) = Some a
  element_at _ = None

-- how a function is called
abbrev pub callee_at : Node TypeId → Action
callee_at (node.Func sort.Local ps rs) = action.Call
callee_at (node.Func s ps rs) = action.Send ps rs
callee_at _ = action.Call

abbrev pub callee_in : (Term → TypeId) → Node Term → Action
callee_in number (node.Func sort.Local ps rs) = action.Call
callee_in number (node.Func s ps rs) = action.Send (map number ps) (map number rs)
callee_in number _ = action.Call

-- ---- of a type

abbrev pub or_number : TypeId → Option TypeId → TypeId
or_number u None = u
or_number u (Some v) = v

-- it is the number of the type of the field, where there is one
abbrev pub IsFieldNumber : State → Node Term → Bytes → Option TypeId → Type 0
IsFieldNumber s y x o = (u : Term) → number s (expressions.part_or u (expressions.field_of x y)) ≡ or_number (number s u) o

module _ (s : State) where
  abbrev pub element_number_of : TermId → TypeId
  element_number_of kind = number s (expressions.or_else t.Bottom (element_of (head_of s kind)))

  abbrev pub callee_of : TermId → Action
  callee_of v = callee_in (number s) (members_head_of s v)

  module _ (kind : TermId) where
    abbrev pub field_in : Bytes → Bool → TypedExpression → TypedExpression
    field_in x mutable a = held_at s kind mutable (operates_at s kind (op.Field x) (a ∷ []))

    abbrev pub accessed_in : Bytes → Access → TypedExpression → TypedExpression
    accessed_in x (access.Field mutable) a = field_in x mutable a
    accessed_in x access.Method a = operates_at s kind (op.Method x) (a ∷ [])
    accessed_in x (access.BuiltIn m) a = acts_at s kind (action.BuiltIn m) (a ∷ [])

    abbrev pub member_in : Bytes → TermId → TypedExpression → TypedExpression
    member_in x v a = expressions.member_of (definitions s) (number s) (term s.forms kind) x (members_head_of s v) a

    abbrev pub element_in : TermId → TypedExpression → TypedExpression → TypedExpression
    element_in v a i = expressions.element_at (definitions s) (number s) (term s.forms kind) (members_head_of s v) a i

    abbrev pub call_in : TermId → List TypedExpression → TypedExpression
    call_in v es = expressions.call_of (definitions s) (number s) (term s.forms kind) (members_head_of s v) es
