-- Expressions and declarations written out, one clause for each form (Motoko language manual, sections "Expressions" and "Declarations"). Derived forms
-- become the forms of typed trees; each node keeps its type.
use Rattle.std.specs.Prelude.{ℕ, suc, ◌+◌, Bool, true, false, List, [], ◌∷◌, ◌++◌, map, Option, Some, None}
use Rattle.mo_types.specs.declared.node.Node.{Node}
use Rattle.mo_types.specs.declared.node.Node.TheVariants as node
use Rattle.mo_types.specs.declared.node.Field.{Field}
use Rattle.mo_types.specs.declared.node.Sort.{Sort}
use Rattle.mo_types.specs.declared.node.Sort.TheVariants as sort
use Rattle.mo_types.specs.declared.node.TypeId.{TypeId}
use Rattle.mo_types.specs.Sub.{find}
use Rattle.mo_values.specs.declared.operation.Operation.TheVariants as op
use Rattle.typed_tree.specs.declared.action.Action.TheVariants as action
use Rattle.typed_tree.specs.declared.literal.Literal.TheVariants as literal
use Rattle.typed_tree.specs.declared.expression.Form.TheOpen as F
use Rattle.typed_tree.specs.declared.expression.Step.{roll-Step}
use Rattle.typed_tree.specs.declared.expression.Case.{Case, roll-Case}
use Rattle.typed_tree.specs.declared.expression.Function.{Function, roll-Function}
use Rattle.typed_tree.specs.declared.expression.TypedExpression.{TypedExpression}
use Rattle.typed_tree.specs.declared.pattern.TypedPattern.{TypedPattern}
use Rattle.typed_tree.specs.declared.pattern.PatternForm.TheOpen as P
use Rattle.typing_rules.specs.AbstractSyntax.{Bytes, Named, Signature, Pattern, Expression, Form, Expressions, Cases, ObjectFields, Declaration, Declarations}
use Rattle.typing_rules.specs.AbstractSyntax as p
use Rattle.typing_rules.specs.Terms.{Term, unit}
use Rattle.typing_rules.specs.Terms as t
use Rattle.typing_rules.specs.Definitions.{Definitions}
use Rattle.typing_rules.specs.Heads.{head, members_head, result}
use Rattle.typing_rules.specs.TypeScopes.{places_of}
use Rattle.typing_rules.specs.TypeScopes as scopes
use Rattle.typing_rules.specs.Expressions.{element_of}
use Rattle.typing_rules.specs.Nodes as counts
use Rattle.typing_rules.specs.TypedTrees.{Note, Typed, type_of}
use Rattle.desugaring.specs.FreeNames.{names_in, names_in_each, field_names, declared}
use Rattle.desugaring.specs.Frames.{Unnamed, value, cell, Labelled, Continued, Optional, Frame, with_entries, with_names, with_exit, in_function, found, kept_at, is_label, is_continued, is_optional, is_returned, exit}
use Rattle.desugaring.specs.Nodes.{literal_at, built_in, array_method, text_method, at, acts, operates, constant, unit_value, named, held, operation, binary, kind_of}
use Rattle.desugaring.specs.Patterns.{stands, pattern, patterns}
use Rattle.desugaring.specs.Pieces.{Becomes, AStep, AFunction, AnExpression, Nothing, Piece, Arranged, arranged}
use Rattle.desugaring.specs.PrincipalBytes.{principal_bytes}

abbrev pub or_else : {A : Type 0} → A → Option A → A
or_else a None = a
or_else a (Some b) = b

abbrev pub field_of : Bytes → Node Term → Option (Field Term)
field_of x (node.Object fs) = find x fs
field_of x y = None

abbrev pub is_mutable : Option (Field Term) → Bool
is_mutable None = false
is_mutable (Some f) = f.mutable

abbrev pub part_or : Term → Option (Field Term) → Term
part_or u None = u
part_or u (Some f) = f.part

abbrev pub labels_of : ObjectFields Note → List Bytes
labels_of p.NoFields = []
labels_of (p.Field mutable x u a rest) = x.bytes ∷ labels_of rest

-- the names of an object's fields, which its public declarations bind
abbrev pub public_names : Declarations Note → List Bytes
public_names p.End = []
public_names (p.Then true n d rest) = field_names d ++ public_names rest
public_names (p.Then false n d rest) = public_names rest

-- the result of a function of this type
abbrev pub result_of : Node Term → Term
result_of (node.Func s ps rs) = result rs
result_of _ = unit

module _ (defs : Definitions) (number : Term → TypeId) where
  -- a list as a block of type u; without a last expression its value is ()
  abbrev pub block_of : Term → Arranged → TypedExpression
  block_of u a = at defs number u (F.Block a.steps (or_else (unit_value defs number) a.last))

  -- the public names of an object with its fields, in a frame: a `var` is its cell
  abbrev pub object_operands : Node Term → Frame → List Bytes → List TypedExpression
  object_operands y frame [] = []
  object_operands y frame (x ∷ xs) = at defs number (part_or unit (field_of x y)) (F.Name (found frame x).index) ∷ object_operands y frame xs

  abbrev pub object_of_names : Term → List Bytes → Arranged → TypedExpression
  object_of_names u names a =
      at defs number u (F.Block a.steps (operates defs number u (op.MakeObject names) (object_operands (head defs u) a.frame names)))

  -- a call of a function with this head
  abbrev pub call_of : Term → Node Term → List TypedExpression → TypedExpression
  call_of u (node.Func sort.Local ps rs) es = acts defs number u action.Call es
  call_of u (node.Func s ps rs) es = acts defs number u (action.Send (map number ps) (map number rs)) es
  call_of u y es = acts defs number u action.Call es

  -- `a.x`, by what a is: a `var` field is read
  abbrev pub member_of : Term → Bytes → Node Term → TypedExpression → TypedExpression
  member_of u x (node.Object fs) a = held defs number u (is_mutable (find x fs)) (operates defs number u (op.Field x) (a ∷ []))
  member_of u x (node.Actor fs) a = operates defs number u (op.Method x) (a ∷ [])
  member_of u x node.Text a = acts defs number u (action.BuiltIn (text_method x)) (a ∷ [])
  member_of u x y a = acts defs number u (action.BuiltIn (array_method x)) (a ∷ [])

  -- `a[i]`: an element of a mutable array is read
  abbrev pub element_at : Term → Node Term → TypedExpression → TypedExpression → TypedExpression
  element_at u (node.MutArray v) a i = held defs number u true (operates defs number u op.Element (a ∷ i ∷ []))
  element_at u y a i = operates defs number u op.Element (a ∷ i ∷ [])

  abbrev pub new_cell : Term → TypedExpression → TypedExpression
  new_cell u e = acts defs number u action.New (e ∷ [])

  abbrev pub tuple_of : Term → List TypedExpression → TypedExpression
  tuple_of u [] = constant defs number u literal.Unit
  tuple_of u es = operates defs number u op.MakeTuple es

  -- `- a`, where a number with its sign is a literal
  abbrev pub negative_of : Term → Typed → TypedExpression → TypedExpression
  negative_of u (p.exp n (p.Constant (p.Number m))) e = constant defs number u (literal_at true (p.Number m) (head defs u))
  negative_of u _ e = operates defs number u (op.Negate (kind_of defs number u)) (e ∷ [])

  -- a field of `{..}`: a `var` field is a new cell of the field's type
  abbrev pub field_value : Node Term → Bool → Bytes → Typed → TypedExpression → TypedExpression
  field_value y false x a e = e
  field_value y true x a e = new_cell (part_or (type_of a) (field_of x y)) e

  -- a function of a signature, whose body is told its frame
  abbrev pub function_of : Sort → Signature Note → ℕ → (Frame → TypedExpression) → Frame → Function
  function_of how g nodes body frame = roll-Function (record {
    sort = how;
    type_parameters = map (λ n. number (t.Parameter n)) (places_of (scopes.names_of g.generics));
    nodes = nodes;
    parameters = patterns defs number g.parameters;
    body = body (in_function (names_in_each g.parameters) frame);
  })

  -- a function without a name, as the value of a group of its own
  abbrev pub alone : Term → (Frame → Function) → Frame → TypedExpression
  alone u f frame = at defs number u (F.Block (roll-Step (F.Functions (f (with_entries (Unnamed ∷ []) frame) ∷ [])) ∷ []) (at defs number u (F.Name 0)))

  -- a name at a type
  abbrev pub bound : Term → TypedPattern
  bound u = stands defs number u P.Bind

  abbrev pub leaves : Term → ℕ → TypedExpression → TypedExpression
  leaves u n e = acts defs number u (action.Break n) (e ∷ [])

  abbrev mutual
    pub tree : Frame → Expression Note → TypedExpression
    tree f (p.exp n x) = form f n x

    pub form : Frame → Note → Form Note → TypedExpression
    form f n (p.Constant l) = constant defs number n.type (literal_at false l (head defs n.type))
    form f n (p.Name x) = named defs number n.type (found f x)
    form f n (p.Tuple items) = tuple_of n.type (trees f items)
    form f n (p.Optional a) = operates defs number n.type op.MakeOption (tree f a ∷ [])
    form f n (p.Tag x) = operates defs number n.type (op.MakeTag x) (unit_value defs number ∷ [])
    form f n (p.Tagged x a) = operates defs number n.type (op.MakeTag x) (tree f a ∷ [])
    form f n (p.Array false items) = operates defs number n.type op.MakeArray (trees f items)
    form f n (p.Array true items) = operates defs number n.type op.MakeArray (map (new_cell (or_else t.Bottom (element_of (head defs n.type)))) (trees f items))
    form f n (p.Object fields) = operates defs number n.type (op.MakeObject (labels_of fields)) (field_trees f (head defs n.type) fields)
    form f n (p.Member a x) = member_of n.type x (members_head defs (type_of a)) (tree f a)
    form f n (p.Projection a i) = operates defs number n.type (op.Project i) (tree f a ∷ [])
    form f n (p.Index a i) = element_at n.type (members_head defs (type_of a)) (tree f a) (tree f i)
    -- at a type above its own
    form f n (p.Annotated a u) = at defs number n.type (F.Block [] (tree f a))
    form f n (p.Subsumed a) = tree f a
    form f n (p.Negative a) = negative_of n.type a (tree f a)
    form f n (p.Binary o a b) = binary defs number o n.type (type_of a) (tree f a) (tree f b)
    form f n (p.Not a) = operates defs number n.type op.Not (tree f a ∷ [])
    form f n (p.Assign q a) = assigned f n.type q (tree f a)
    form f n (p.AssignBy o q a) = at defs number n.type (F.Update (operation defs number o (type_of q)) (cell_tree f q) (tree f a))
    form f n (p.Call g types arguments) = call_of n.type (members_head defs (type_of g)) (tree f g ∷ trees f arguments)
    form f n (p.When c a) = at defs number n.type (F.If (tree f c) (tree f a) (unit_value defs number))
    form f n (p.If c a b) = at defs number n.type (F.If (tree f c) (tree f a) (tree f b))
    form f n (p.Switch a cases) = at defs number n.type (F.Switch n.at (tree f a) (case_trees f cases))
    form f n (p.Try a q b) = at defs number n.type (F.Try (tree f a) (pattern defs number q) (tree (with_names (names_in q) f) b))
    form f n (p.While c a) = at defs number n.type (F.While (tree f c) (tree f a))
    form f n (p.Loop a) = at defs number n.type (F.Loop (tree f a))
    form f n (p.LoopWhile a c) = at defs number n.type (F.Repeat (tree f a) (tree f c))
    form f n (p.For q a b) = at defs number n.type (F.For (pattern defs number q) (tree f a) (tree (with_names (names_in q) f) b))
    form f n (p.Label x u a) = at defs number n.type (F.Label (looped (with_exit (Labelled x) f) x a))
    form f n (p.Break x) = leaves n.type (exit f (is_label x)) (unit_value defs number)
    form f n (p.BreakWith x a) = leaves n.type (exit f (is_label x)) (tree f a)
    form f n (p.Continue x) = leaves n.type (exit f (is_continued x)) (unit_value defs number)
    form f n p.Return = leaves n.type (exit f is_returned) (unit_value defs number)
    form f n (p.ReturnWith a) = leaves n.type (exit f is_returned) (tree f a)
    form f n (p.Throw a) = acts defs number n.type action.Throw (tree f a ∷ [])
    form f n (p.Do a) = tree f a
    form f n (p.DoOption a) = at defs number n.type (F.Label (operates defs number n.type op.MakeOption (tree (with_exit Optional f) a ∷ [])))
    form f n (p.Bang a) = acts defs number n.type (action.Unwrap (exit f is_optional)) (tree f a ∷ [])
    form f n (p.Block ds) = block_of n.type (arranged true (pieces ds) f)
    form f n (p.Function g body) = alone n.type (function_of sort.Local g (counts.in_patterns g.parameters + counts.in_expression body) (λ inner. tree inner body)) f
    form f n (p.ObjectBlock fields) = object_of_names n.type (public_names fields) (arranged false (pieces fields) f)
    form f n (p.Assert a) = operates defs number n.type op.Assert (tree f a ∷ [])
    form f n (p.Ignore a) = at defs number n.type (F.Block (roll-Step (F.Evaluate (tree f a)) ∷ []) (unit_value defs number))
    form f n (p.Debug a) = tree f a
    form f n (p.ActorReference x) = constant defs number n.type (literal.Actor (principal_bytes x))
    form f n (p.Await a) = acts defs number n.type action.Await (tree f a ∷ [])
    form f n (p.BuiltIn m) = acts defs number n.type (action.BuiltIn (built_in m)) []

    pub trees : Frame → Expressions Note → List TypedExpression
    trees f p.Nil = []
    trees f (p.Cons a rest) = tree f a ∷ trees f rest

    pub case_trees : Frame → Cases Note → List Case
    case_trees f p.NoCases = []
    case_trees f (p.Case q a rest) = roll-Case (record { pattern = pattern defs number q; body = tree (with_names (names_in q) f) a }) ∷ case_trees f rest

    pub field_trees : Frame → Node Term → ObjectFields Note → List TypedExpression
    field_trees f y p.NoFields = []
    field_trees f y (p.Field mutable x u a rest) = field_value y mutable x.bytes a (tree f a) ∷ field_trees f y rest

    -- the cell that is assigned to
    pub cell_tree : Frame → Expression Note → TypedExpression
    cell_tree f (p.exp n (p.Name x)) = at defs number n.type (F.Name (found f x).index)
    cell_tree f (p.exp n (p.Member a x)) = operates defs number n.type (op.Field x) (tree f a ∷ [])
    cell_tree f (p.exp n (p.Index a i)) = operates defs number n.type op.Element (tree f a ∷ tree f i ∷ [])
    cell_tree f (p.exp n x) = form f n x

    -- `p := e`: the bound of an array is tested after e
    pub assigned : Frame → Term → Expression Note → TypedExpression → TypedExpression
    assigned f u (p.exp n (p.Index a i)) e = acts defs number u action.WriteElement (tree f a ∷ tree f i ∷ e ∷ [])
    assigned f u (p.exp n (p.Name x)) e = acts defs number u action.Write (at defs number n.type (F.Name (found f x).index) ∷ e ∷ [])
    assigned f u (p.exp n (p.Member a x)) e = acts defs number u action.Write (operates defs number n.type (op.Field x) (tree f a ∷ []) ∷ e ∷ [])
    assigned f u (p.exp n x) e = acts defs number u action.Write (form f n x ∷ e ∷ [])

    -- what stands under a label: the body of a loop has one more, which `continue` leaves
    pub looped : Frame → Bytes → Expression Note → TypedExpression
    looped f x (p.exp n (p.While c a)) = at defs number n.type (F.While (tree f c) (at defs number unit (F.Label (tree (with_exit (Continued x) f) a))))
    looped f x (p.exp n (p.Loop a)) = at defs number n.type (F.Loop (at defs number unit (F.Label (tree (with_exit (Continued x) f) a))))
    looped f x (p.exp n (p.LoopWhile a c)) = at defs number n.type (F.Repeat (at defs number unit (F.Label (tree (with_exit (Continued x) f) a))) (tree f c))
    looped f x (p.exp n (p.For q a b)) =
        at defs number n.type (F.For (pattern defs number q) (tree f a) (at defs number unit (F.Label (tree (with_exit (Continued x) (with_names (names_in q) f)) b))))
    looped f x (p.exp n y) = form f n y

    -- ---- declarations

    pub pieces : Declarations Note → List Piece
    pieces p.End = []
    pieces (p.Then public n d rest) = record { declared = declared d; becomes = becomes n d } ∷ pieces rest

    pub becomes : Note → Declaration Note → Becomes
    becomes n (p.Let q a) = AStep (map value (names_in q)) (λ f. roll-Step (F.Let (pattern defs number q) (tree f a)))
    becomes n (p.Var false x u a) = AStep (cell x.bytes ∷ []) (λ f. roll-Step (F.Var (tree f a)))
    becomes n (p.Var true x u a) = AStep (cell x.bytes ∷ []) (λ f. roll-Step (F.Stable (kept_at f x.bytes) (tree f a)))
    becomes n (p.Func x g body) =
        AFunction x.bytes (function_of sort.Local g (counts.in_patterns g.parameters + counts.in_expression body) (λ inner. tree inner body))
    becomes n (p.Method query context x g body) = Nothing
    becomes n (p.System x body) = Nothing
    becomes n (p.TypeAlias x parameters u) = Nothing
    -- the object that a class makes is a node of its body
    becomes n (p.Class x g fields) =
        AFunction x.bytes (function_of sort.Local g (suc (counts.in_patterns g.parameters + counts.in_list fields))
        (λ inner. object_of_names n.type (public_names fields) (arranged false (pieces fields) inner)))
    becomes n (p.NamedObject x fields) = AStep (value x.bytes ∷ []) (λ f. roll-Step (F.Let (bound n.type) (object_of_names n.type (public_names fields) (arranged false (pieces fields) f))))
    becomes n (p.Evaluate a) = AnExpression (λ f. tree f a)
