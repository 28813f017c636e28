-- The head of a type with the types of its parts, by which subtyping goes (Motoko language manual, sections "Types", "Subtyping" and "Type parameters").
use Rattle.std.specs.Prelude.{ℕ, zero, suc, List, [], ◌∷◌, length, Option, Some, None}
use Rattle.mo_types.specs.declared.node.Node.{Node}
use Rattle.mo_types.specs.declared.node.Node.TheVariants as node
use Rattle.mo_types.specs.declared.node.Sort.TheVariants as sort
use Rattle.typing_rules.specs.Terms.{Term, Tuple, Parameter, Use, listed, unlisted, listed_fields}
use Rattle.typing_rules.specs.Terms as t
use Rattle.typing_rules.specs.Definitions.{Definitions, bound_at, unfolded}

-- the results of a type that unfolds to this one: a tuple stands for its parts
abbrev pub results : Term → Term → List Term
results r (Tuple parts) = listed parts
results r _ = r ∷ []

-- and the parts for their tuple
abbrev pub result : List Term → Term
result (r ∷ []) = r
result rs = Tuple (unlisted rs)

abbrev pub bound_of : Node Term → Option Term
bound_of (node.Variable at b) = Some b
bound_of _ = None

abbrev pub promoted_once : Option Term → Term → Term
promoted_once None u = u
promoted_once (Some b) u = b

module _ (defs : Definitions) where
  -- the head of a type that is no use of a name
  abbrev pub shape : Term → Node Term
  shape (t.Number k) = node.Number k
  shape t.Boolean = node.Bool
  shape t.Character = node.Char
  shape t.Text = node.Text
  shape t.Blob = node.Blob
  shape t.Principal = node.Principal
  shape t.Error = node.Error
  shape t.Null = node.Null
  shape t.Any = node.Any
  shape t.Bottom = node.Bottom
  shape (t.Optional a) = node.Opt a
  shape (t.Array a) = node.Array a
  shape (t.MutableArray a) = node.MutArray a
  shape (Tuple parts) = node.Tuple (listed parts)
  shape (t.Object fields) = node.Object (listed_fields fields)
  shape (t.Actor methods) = node.Actor (listed_fields methods)
  shape (t.Variant tags) = node.Variant (listed_fields tags)
  shape (t.Function parameters r) = node.Func sort.Local (listed parameters) (r ∷ [])
  -- If B is a tuple, unfolded, `async B` has its parts as results.
  shape (t.Shared s parameters r) = node.Func s (listed parameters) (results r (unfolded defs.types r))
  shape (t.Async a) = node.Async a
  shape (Parameter at) = node.Variable at (bound_at defs.parameters at)
  shape (Use at arguments) = node.Bottom

  unfoldable pub head : Term → Node Term
  head u = shape (unfolded defs.types u)

  -- a type parameter's bound, and its bound, and so on
  abbrev pub promoted : ℕ → Term → Term
  promoted zero u = u
  promoted (suc n) u = promoted n (promoted_once (bound_of (head u)) u)

  -- the head that a value's members go by: that of the bound, where the type is a parameter
  unfoldable pub members_head : Term → Node Term
  members_head u = head (promoted (suc (length defs.parameters)) u)
