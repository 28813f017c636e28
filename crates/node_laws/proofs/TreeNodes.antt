-- What is written out has at most four times as many nodes as what is written.
use Rattle.std.proofs.Common.{◌≡◌, ◌≤◌, ℕ, suc, ◌+◌, ◌*◌, Bool, true, false, List, [], ◌∷◌, length, map, Option, Some, None, refl, ap, ◌∙◌, arith}
use Rattle.mo_syntax.specs.declared.operators.BinaryOperator.{BinaryOperator}
use Rattle.mo_syntax.specs.declared.operators.BinaryOperator.TheVariants as sign
use Rattle.mo_types.specs.declared.node.Node.{Node}
use Rattle.mo_types.specs.declared.node.Node.TheVariants as node
use Rattle.mo_types.specs.declared.node.Sort.TheVariants as sort
use Rattle.mo_types.specs.declared.node.TypeId.{TypeId}
use Rattle.mo_types.specs.Sub.{find}
use Rattle.mo_values.specs.declared.operation.Comparison.TheVariants as comparison
use Rattle.mo_values.specs.declared.operation.Operation.TheVariants as op
use Rattle.typed_tree.specs.declared.action.Action.{Action}
use Rattle.typed_tree.specs.declared.action.Action.TheVariants as action
use Rattle.typed_tree.specs.declared.literal.Literal.TheVariants as literal
use Rattle.typed_tree.specs.declared.expression.Form.TheOpen as F
use Rattle.typed_tree.specs.declared.expression.Function.{Function}
use Rattle.typed_tree.specs.declared.expression.Step.{Step, roll-Step}
use Rattle.typed_tree.specs.declared.expression.TypedExpression.{TypedExpression}
use Rattle.typed_tree.specs.Nodes.{StepNodes, total, in_pattern, in_patterns, in_expression, in_step}
use Rattle.typing_rules.specs.AbstractSyntax.{Bytes, Expression, Form, Expressions, Cases, ObjectFields, Signature, Declaration, Declarations}
use Rattle.typing_rules.specs.AbstractSyntax as p
use Rattle.typing_rules.specs.Definitions.{Definitions}
use Rattle.typing_rules.specs.Heads.{head, members_head}
use Rattle.typing_rules.specs.Nodes as counts
use Rattle.typing_rules.specs.Terms.{Term, unit}
use Rattle.typing_rules.specs.Terms as t
use Rattle.typing_rules.specs.TypedTrees.{Note, Typed, type_of, count}
use Rattle.typing_rules.specs.Expressions.{element_of}
use Rattle.desugaring.specs.Expressions.{is_mutable, field_of, part_or, labels_of, or_else, public_names, block_of, object_operands, object_of_names, call_of, member_of, element_at, new_cell, tuple_of, negative_of, function_of, alone, bound, tree, form, trees, case_trees, field_trees, cell_tree, assigned, looped, pieces, becomes}
use Rattle.desugaring.specs.FreeNames.{names_in, names_in_each, field_names}
use Rattle.desugaring.specs.Frames.{Unnamed, Frame, Use, with_entries, with_names, with_exit, in_function, found, kept_at, Continued, Labelled, Optional, is_label, is_continued, is_optional, is_returned, exit}
use Rattle.desugaring.specs.Nodes.{literal_at, built_in, array_method, text_method, scalar_of, at, acts, operates, unit_value, flag, kind_of, held, named, operation, binary}
use Rattle.desugaring.specs.Patterns as made
use Rattle.desugaring.specs.Pieces.{Arranged, arranged}
use Rattle.desugaring.specs.PrincipalBytes.{principal_bytes}
use Rattle.node_laws.proofs.Arranging.{each, sum}
use Rattle.node_laws.proofs.Arranging as arranging
use Rattle.node_laws.proofs.Equations.{in_case, in_function as nodes_of, constant_nodes, name_nodes, action_nodes, choice_nodes, switch_nodes, while_nodes, loop_nodes, repeat_nodes, for_nodes, label_nodes, try_nodes, update_nodes, block_nodes, let_nodes, var_nodes, stable_nodes, evaluated_nodes, functions_nodes, case_nodes, function_nodes}
use Rattle.node_laws.proofs.PatternNodes.{bind_nodes, pattern_covered, patterns_covered, names_few, length_append}

-- ---- all nodes of steps

pub all_evaluated : (a : TypedExpression) → (in_step (roll-Step (F.Evaluate a))).all ≡ in_expression a
all_evaluated a = ap (λ (s : StepNodes). s.all) (evaluated_nodes a)

each_counted : (fs : List Function) → length (map nodes_of fs) + total (map nodes_of fs) ≡ each nodes_of fs
each_counted [] = refl
each_counted (f ∷ fs) = omega (arith, each_counted fs)

pub all_functions : (fs : List Function) → (in_step (roll-Step (F.Functions fs))).all ≡ each nodes_of fs
all_functions fs = ap (λ (s : StepNodes). s.all) (functions_nodes fs) ∙ each_counted fs

abbrev pub cost : List Step → ℕ
cost steps = total (map (λ s. s.all) (map in_step steps))

abbrev pub last_cost : Option TypedExpression → ℕ
last_cost None = 0
last_cost (Some e) = in_expression e

module _ (defs : Definitions) (number : Term → TypeId) where
  -- ---- single nodes

  none : (u : Term) (a : Action) → in_expression (acts defs number u a []) ≡ 1
  none u a = action_nodes (number u) a []

  one : (u : Term) (a : Action) (e : TypedExpression) → in_expression (acts defs number u a (e ∷ [])) ≡ 1 + (in_expression e + 0)
  one u a e = action_nodes (number u) a (e ∷ [])

  two : (u : Term) (a : Action) (e f : TypedExpression) → in_expression (acts defs number u a (e ∷ f ∷ [])) ≡ 1 + (in_expression e + (in_expression f + 0))
  two u a e f = action_nodes (number u) a (e ∷ f ∷ [])

  three : (u : Term) (a : Action) (e f g : TypedExpression) → in_expression (acts defs number u a (e ∷ f ∷ g ∷ [])) ≡ 1 + (in_expression e + (in_expression f + (in_expression g + 0)))
  three u a e f g = action_nodes (number u) a (e ∷ f ∷ g ∷ [])

  unit_nodes : in_expression (unit_value defs number) ≡ 1
  unit_nodes = constant_nodes (number unit) literal.Unit

  flag_nodes : (b : Bool) → in_expression (flag defs number b) ≡ 1
  flag_nodes b = constant_nodes (number t.Boolean) (literal.Flag b)

  held_nodes : (u : Term) (b : Bool) (e : TypedExpression) → in_expression (held defs number u b e) ≤ 1 + in_expression e
  held_nodes u false e = omega arith
  held_nodes u true e = omega (arith, one u action.Read e)

  named_nodes : (u : Term) (x : Use) → in_expression (named defs number u x) ≤ 2
  named_nodes u x = omega (arith, held_nodes u x.cell (at defs number u (F.Name x.index)), name_nodes (number u) x.index)

  tuple_nodes : (u : Term) (es : List TypedExpression) → in_expression (tuple_of defs number u es) ≤ 1 + total (map in_expression es)
  tuple_nodes u [] = omega (arith, constant_nodes (number u) literal.Unit)
  tuple_nodes u (e ∷ es) = omega (arith, action_nodes (number u) (action.Operate op.MakeTuple) (e ∷ es))

  member_nodes : (u : Term) (x : Bytes) (y : Node Term) (a : TypedExpression) → in_expression (member_of defs number u x y a) ≤ 2 + in_expression a
  member_nodes u x (node.Number k) a = omega (arith, one u (action.BuiltIn (array_method x)) a)
  member_nodes u x node.Bool a = omega (arith, one u (action.BuiltIn (array_method x)) a)
  member_nodes u x node.Char a = omega (arith, one u (action.BuiltIn (array_method x)) a)
  member_nodes u x node.Text a = omega (arith, one u (action.BuiltIn (text_method x)) a)
  member_nodes u x node.Blob a = omega (arith, one u (action.BuiltIn (array_method x)) a)
  member_nodes u x node.Principal a = omega (arith, one u (action.BuiltIn (array_method x)) a)
  member_nodes u x node.Error a = omega (arith, one u (action.BuiltIn (array_method x)) a)
  member_nodes u x node.Null a = omega (arith, one u (action.BuiltIn (array_method x)) a)
  member_nodes u x node.Any a = omega (arith, one u (action.BuiltIn (array_method x)) a)
  member_nodes u x node.Bottom a = omega (arith, one u (action.BuiltIn (array_method x)) a)
  member_nodes u x (node.Opt b) a = omega (arith, one u (action.BuiltIn (array_method x)) a)
  member_nodes u x (node.Array b) a = omega (arith, one u (action.BuiltIn (array_method x)) a)
  member_nodes u x (node.MutArray b) a = omega (arith, one u (action.BuiltIn (array_method x)) a)
  member_nodes u x (node.Tuple ts) a = omega (arith, one u (action.BuiltIn (array_method x)) a)
  member_nodes u x (node.Object fs) a = omega (arith, held_nodes u (is_mutable (find x fs)) (operates defs number u (op.Field x) (a ∷ [])), one u (action.Operate (op.Field x)) a)
  member_nodes u x (node.Actor fs) a = omega (arith, one u (action.Operate (op.Method x)) a)
  member_nodes u x (node.Variant fs) a = omega (arith, one u (action.BuiltIn (array_method x)) a)
  member_nodes u x (node.Func s ps rs) a = omega (arith, one u (action.BuiltIn (array_method x)) a)
  member_nodes u x (node.Async b) a = omega (arith, one u (action.BuiltIn (array_method x)) a)
  member_nodes u x (node.Variable v b) a = omega (arith, one u (action.BuiltIn (array_method x)) a)

  element_nodes : (u : Term) (y : Node Term) (a i : TypedExpression) → in_expression (element_at defs number u y a i) ≤ 2 + in_expression a + in_expression i
  element_nodes u (node.Number k) a i = omega (arith, two u (action.Operate op.Element) a i)
  element_nodes u node.Bool a i = omega (arith, two u (action.Operate op.Element) a i)
  element_nodes u node.Char a i = omega (arith, two u (action.Operate op.Element) a i)
  element_nodes u node.Text a i = omega (arith, two u (action.Operate op.Element) a i)
  element_nodes u node.Blob a i = omega (arith, two u (action.Operate op.Element) a i)
  element_nodes u node.Principal a i = omega (arith, two u (action.Operate op.Element) a i)
  element_nodes u node.Error a i = omega (arith, two u (action.Operate op.Element) a i)
  element_nodes u node.Null a i = omega (arith, two u (action.Operate op.Element) a i)
  element_nodes u node.Any a i = omega (arith, two u (action.Operate op.Element) a i)
  element_nodes u node.Bottom a i = omega (arith, two u (action.Operate op.Element) a i)
  element_nodes u (node.Opt b) a i = omega (arith, two u (action.Operate op.Element) a i)
  element_nodes u (node.Array b) a i = omega (arith, two u (action.Operate op.Element) a i)
  element_nodes u (node.MutArray b) a i = omega (arith, held_nodes u true (operates defs number u op.Element (a ∷ i ∷ [])), two u (action.Operate op.Element) a i)
  element_nodes u (node.Tuple ts) a i = omega (arith, two u (action.Operate op.Element) a i)
  element_nodes u (node.Object fs) a i = omega (arith, two u (action.Operate op.Element) a i)
  element_nodes u (node.Actor fs) a i = omega (arith, two u (action.Operate op.Element) a i)
  element_nodes u (node.Variant fs) a i = omega (arith, two u (action.Operate op.Element) a i)
  element_nodes u (node.Func s ps rs) a i = omega (arith, two u (action.Operate op.Element) a i)
  element_nodes u (node.Async b) a i = omega (arith, two u (action.Operate op.Element) a i)
  element_nodes u (node.Variable v b) a i = omega (arith, two u (action.Operate op.Element) a i)

  call_nodes : (u : Term) (y : Node Term) (es : List TypedExpression) → in_expression (call_of defs number u y es) ≡ 1 + total (map in_expression es)
  call_nodes u (node.Number k) es = action_nodes (number u) action.Call es
  call_nodes u node.Bool es = action_nodes (number u) action.Call es
  call_nodes u node.Char es = action_nodes (number u) action.Call es
  call_nodes u node.Text es = action_nodes (number u) action.Call es
  call_nodes u node.Blob es = action_nodes (number u) action.Call es
  call_nodes u node.Principal es = action_nodes (number u) action.Call es
  call_nodes u node.Error es = action_nodes (number u) action.Call es
  call_nodes u node.Null es = action_nodes (number u) action.Call es
  call_nodes u node.Any es = action_nodes (number u) action.Call es
  call_nodes u node.Bottom es = action_nodes (number u) action.Call es
  call_nodes u (node.Opt a) es = action_nodes (number u) action.Call es
  call_nodes u (node.Array a) es = action_nodes (number u) action.Call es
  call_nodes u (node.MutArray a) es = action_nodes (number u) action.Call es
  call_nodes u (node.Tuple ts) es = action_nodes (number u) action.Call es
  call_nodes u (node.Object fs) es = action_nodes (number u) action.Call es
  call_nodes u (node.Actor fs) es = action_nodes (number u) action.Call es
  call_nodes u (node.Variant fs) es = action_nodes (number u) action.Call es
  call_nodes u (node.Func sort.Local ps rs) es = action_nodes (number u) action.Call es
  call_nodes u (node.Func sort.Shared ps rs) es = action_nodes (number u) (action.Send (map number ps) (map number rs)) es
  call_nodes u (node.Func sort.Query ps rs) es = action_nodes (number u) (action.Send (map number ps) (map number rs)) es
  call_nodes u (node.Async a) es = action_nodes (number u) action.Call es
  call_nodes u (node.Variable v b) es = action_nodes (number u) action.Call es

  binary_nodes : (o : BinaryOperator) (u v : Term) (a b : TypedExpression) → in_expression (binary defs number o u v a b) ≤ 2 + in_expression a + in_expression b
  binary_nodes sign.Or u v a b = omega (arith, choice_nodes (number u) a (flag defs number true) b, flag_nodes true)
  binary_nodes sign.And u v a b = omega (arith, choice_nodes (number u) a b (flag defs number false), flag_nodes false)
  binary_nodes sign.Equal u v a b = omega (arith, two u (action.Operate (op.Equal (number v))) a b)
  binary_nodes sign.NotEqual u v a b = omega (arith, two u (action.Operate (op.Unequal (number v))) a b)
  binary_nodes sign.Less u v a b = omega (arith, two u (action.Operate (op.Compare comparison.Less (scalar_of (head defs v)))) a b)
  binary_nodes sign.Greater u v a b = omega (arith, two u (action.Operate (op.Compare comparison.Greater (scalar_of (head defs v)))) a b)
  binary_nodes sign.LessEqual u v a b = omega (arith, two u (action.Operate (op.Compare comparison.LessOrEqual (scalar_of (head defs v)))) a b)
  binary_nodes sign.GreaterEqual u v a b = omega (arith, two u (action.Operate (op.Compare comparison.GreaterOrEqual (scalar_of (head defs v)))) a b)
  binary_nodes sign.Add u v a b = omega (arith, two u (action.Operate (operation defs number sign.Add u)) a b)
  binary_nodes sign.Subtract u v a b = omega (arith, two u (action.Operate (operation defs number sign.Subtract u)) a b)
  binary_nodes sign.Concat u v a b = omega (arith, two u (action.Operate (operation defs number sign.Concat u)) a b)
  binary_nodes sign.AddWrap u v a b = omega (arith, two u (action.Operate (operation defs number sign.AddWrap u)) a b)
  binary_nodes sign.SubtractWrap u v a b = omega (arith, two u (action.Operate (operation defs number sign.SubtractWrap u)) a b)
  binary_nodes sign.Multiply u v a b = omega (arith, two u (action.Operate (operation defs number sign.Multiply u)) a b)
  binary_nodes sign.Divide u v a b = omega (arith, two u (action.Operate (operation defs number sign.Divide u)) a b)
  binary_nodes sign.Remainder u v a b = omega (arith, two u (action.Operate (operation defs number sign.Remainder u)) a b)
  binary_nodes sign.MultiplyWrap u v a b = omega (arith, two u (action.Operate (operation defs number sign.MultiplyWrap u)) a b)
  binary_nodes sign.Power u v a b = omega (arith, two u (action.Operate (operation defs number sign.Power u)) a b)

  negative_nodes : (u : Term) (a : Typed) (e : TypedExpression) → in_expression (negative_of defs number u a e) ≤ 1 + in_expression e
  negative_nodes u (p.exp n (p.Constant (p.Number m))) e = omega (arith, constant_nodes (number u) (literal_at true (p.Number m) (head defs u)))
  negative_nodes u (p.exp n (p.Constant (p.Character c))) e = omega (arith, one u (action.Operate (op.Negate (kind_of defs number u))) e)
  negative_nodes u (p.exp n (p.Constant (p.Text x))) e = omega (arith, one u (action.Operate (op.Negate (kind_of defs number u))) e)
  negative_nodes u (p.exp n (p.Constant p.True)) e = omega (arith, one u (action.Operate (op.Negate (kind_of defs number u))) e)
  negative_nodes u (p.exp n (p.Constant p.False)) e = omega (arith, one u (action.Operate (op.Negate (kind_of defs number u))) e)
  negative_nodes u (p.exp n (p.Constant p.Null)) e = omega (arith, one u (action.Operate (op.Negate (kind_of defs number u))) e)
  negative_nodes u (p.exp n (p.Name x)) e = omega (arith, one u (action.Operate (op.Negate (kind_of defs number u))) e)
  negative_nodes u (p.exp n (p.Tuple items)) e = omega (arith, one u (action.Operate (op.Negate (kind_of defs number u))) e)
  negative_nodes u (p.exp n (p.Optional a)) e = omega (arith, one u (action.Operate (op.Negate (kind_of defs number u))) e)
  negative_nodes u (p.exp n (p.Tag x)) e = omega (arith, one u (action.Operate (op.Negate (kind_of defs number u))) e)
  negative_nodes u (p.exp n (p.Tagged x a)) e = omega (arith, one u (action.Operate (op.Negate (kind_of defs number u))) e)
  negative_nodes u (p.exp n (p.Array m items)) e = omega (arith, one u (action.Operate (op.Negate (kind_of defs number u))) e)
  negative_nodes u (p.exp n (p.Object fields)) e = omega (arith, one u (action.Operate (op.Negate (kind_of defs number u))) e)
  negative_nodes u (p.exp n (p.Member a x)) e = omega (arith, one u (action.Operate (op.Negate (kind_of defs number u))) e)
  negative_nodes u (p.exp n (p.Projection a i)) e = omega (arith, one u (action.Operate (op.Negate (kind_of defs number u))) e)
  negative_nodes u (p.exp n (p.Index a i)) e = omega (arith, one u (action.Operate (op.Negate (kind_of defs number u))) e)
  negative_nodes u (p.exp n (p.Annotated a t)) e = omega (arith, one u (action.Operate (op.Negate (kind_of defs number u))) e)
  negative_nodes u (p.exp n (p.Negative a)) e = omega (arith, one u (action.Operate (op.Negate (kind_of defs number u))) e)
  negative_nodes u (p.exp n (p.Binary o a b)) e = omega (arith, one u (action.Operate (op.Negate (kind_of defs number u))) e)
  negative_nodes u (p.exp n (p.Not a)) e = omega (arith, one u (action.Operate (op.Negate (kind_of defs number u))) e)
  negative_nodes u (p.exp n (p.Assign r a)) e = omega (arith, one u (action.Operate (op.Negate (kind_of defs number u))) e)
  negative_nodes u (p.exp n (p.AssignBy o r a)) e = omega (arith, one u (action.Operate (op.Negate (kind_of defs number u))) e)
  negative_nodes u (p.exp n (p.Call g types arguments)) e = omega (arith, one u (action.Operate (op.Negate (kind_of defs number u))) e)
  negative_nodes u (p.exp n (p.When c a)) e = omega (arith, one u (action.Operate (op.Negate (kind_of defs number u))) e)
  negative_nodes u (p.exp n (p.If c a b)) e = omega (arith, one u (action.Operate (op.Negate (kind_of defs number u))) e)
  negative_nodes u (p.exp n (p.Switch a cases)) e = omega (arith, one u (action.Operate (op.Negate (kind_of defs number u))) e)
  negative_nodes u (p.exp n (p.Try a r b)) e = omega (arith, one u (action.Operate (op.Negate (kind_of defs number u))) e)
  negative_nodes u (p.exp n (p.While c a)) e = omega (arith, one u (action.Operate (op.Negate (kind_of defs number u))) e)
  negative_nodes u (p.exp n (p.Loop a)) e = omega (arith, one u (action.Operate (op.Negate (kind_of defs number u))) e)
  negative_nodes u (p.exp n (p.LoopWhile a c)) e = omega (arith, one u (action.Operate (op.Negate (kind_of defs number u))) e)
  negative_nodes u (p.exp n (p.For r a b)) e = omega (arith, one u (action.Operate (op.Negate (kind_of defs number u))) e)
  negative_nodes u (p.exp n (p.Label x t a)) e = omega (arith, one u (action.Operate (op.Negate (kind_of defs number u))) e)
  negative_nodes u (p.exp n (p.Break x)) e = omega (arith, one u (action.Operate (op.Negate (kind_of defs number u))) e)
  negative_nodes u (p.exp n (p.BreakWith x a)) e = omega (arith, one u (action.Operate (op.Negate (kind_of defs number u))) e)
  negative_nodes u (p.exp n (p.Continue x)) e = omega (arith, one u (action.Operate (op.Negate (kind_of defs number u))) e)
  negative_nodes u (p.exp n p.Return) e = omega (arith, one u (action.Operate (op.Negate (kind_of defs number u))) e)
  negative_nodes u (p.exp n (p.ReturnWith a)) e = omega (arith, one u (action.Operate (op.Negate (kind_of defs number u))) e)
  negative_nodes u (p.exp n (p.Throw a)) e = omega (arith, one u (action.Operate (op.Negate (kind_of defs number u))) e)
  negative_nodes u (p.exp n (p.Do a)) e = omega (arith, one u (action.Operate (op.Negate (kind_of defs number u))) e)
  negative_nodes u (p.exp n (p.DoOption a)) e = omega (arith, one u (action.Operate (op.Negate (kind_of defs number u))) e)
  negative_nodes u (p.exp n (p.Bang a)) e = omega (arith, one u (action.Operate (op.Negate (kind_of defs number u))) e)
  negative_nodes u (p.exp n (p.Block ds)) e = omega (arith, one u (action.Operate (op.Negate (kind_of defs number u))) e)
  negative_nodes u (p.exp n (p.Function g body)) e = omega (arith, one u (action.Operate (op.Negate (kind_of defs number u))) e)
  negative_nodes u (p.exp n (p.ObjectBlock fields)) e = omega (arith, one u (action.Operate (op.Negate (kind_of defs number u))) e)
  negative_nodes u (p.exp n (p.Assert a)) e = omega (arith, one u (action.Operate (op.Negate (kind_of defs number u))) e)
  negative_nodes u (p.exp n (p.Ignore a)) e = omega (arith, one u (action.Operate (op.Negate (kind_of defs number u))) e)
  negative_nodes u (p.exp n (p.Debug a)) e = omega (arith, one u (action.Operate (op.Negate (kind_of defs number u))) e)
  negative_nodes u (p.exp n (p.ActorReference x)) e = omega (arith, one u (action.Operate (op.Negate (kind_of defs number u))) e)
  negative_nodes u (p.exp n (p.Await a)) e = omega (arith, one u (action.Operate (op.Negate (kind_of defs number u))) e)
  negative_nodes u (p.exp n (p.BuiltIn m)) e = omega (arith, one u (action.Operate (op.Negate (kind_of defs number u))) e)
  negative_nodes u (p.exp n (p.Subsumed a)) e = omega (arith, one u (action.Operate (op.Negate (kind_of defs number u))) e)

  operands_nodes : (y : Node Term) (f : Frame) (xs : List Bytes) → total (map in_expression (object_operands defs number y f xs)) ≡ length xs
  operands_nodes y f [] = refl
  operands_nodes y f (x ∷ xs) = omega (arith, name_nodes (number (part_or unit (field_of x y))) (found f x).index, operands_nodes y f xs)

  object_nodes : (u : Term) (xs : List Bytes) (a : Arranged) → in_expression (object_of_names defs number u xs a) ≡ 2 + cost a.steps + length xs
  object_nodes u xs a =
      omega (
        arith,
        block_nodes (number u) a.steps (operates defs number u (op.MakeObject xs) (object_operands defs number (head defs u) a.frame xs)),
        action_nodes (number u) (action.Operate (op.MakeObject xs)) (object_operands defs number (head defs u) a.frame xs),
        operands_nodes (head defs u) a.frame xs,
      )

  last_nodes : (e : Option TypedExpression) → in_expression (or_else (unit_value defs number) e) ≤ 1 + last_cost e
  last_nodes None = omega (arith, unit_nodes)
  last_nodes (Some e) = omega arith

  list_nodes : (u : Term) (a : Arranged) → in_expression (block_of defs number u a) ≤ 2 + cost a.steps + last_cost a.last
  list_nodes u a = omega (arith, block_nodes (number u) a.steps (or_else (unit_value defs number) a.last), last_nodes a.last)

  -- a function, whose body has this many nodes
  function_cost : (g : Signature Note) (nodes : ℕ) (body : Frame → TypedExpression) (f : Frame) → nodes_of (function_of defs number sort.Local g nodes body f) ≡ in_patterns (made.patterns defs number g.parameters) + in_expression (body (in_function (names_in_each g.parameters) f))
  function_cost g nodes body f = function_nodes _

  alone_nodes : (u : Term) (make : Frame → Function) (f : Frame) → in_expression (alone defs number u make f) ≡ 3 + nodes_of (make (with_entries (Unnamed ∷ []) f))
  alone_nodes u make f =
      let g = make (with_entries (Unnamed ∷ []) f) in
      omega (arith, block_nodes (number u) (roll-Step (F.Functions (g ∷ [])) ∷ []) (at defs number u (F.Name 0)), all_functions (g ∷ []), name_nodes (number u) 0)

  pub bound_nodes : (u : Term) → in_pattern (bound defs number u) ≡ 1
  bound_nodes u = bind_nodes (number u)

  -- ---- lists

  abbrev Costs : Declarations Note → List ℕ → Type 0
  Costs ds ms = arranging.AllCost (λ s. s.all) nodes_of all_evaluated all_functions (pieces defs number ds) ms

  -- what a declaration may come to
  abbrev pub spent : Declaration Note → ℕ
  spent (p.Let q a) = 4 + 3 * counts.in_pattern q + 4 * counts.in_expression a
  spent (p.Var stable x u a) = 3 + 4 * counts.in_expression a
  spent (p.Func x g body) = 3 + 4 * counts.in_signature g + 4 * counts.in_expression body
  spent (p.Class x g fields) = 3 + 4 * counts.in_signature g + 4 * counts.in_list fields
  spent (p.NamedObject x fields) = 4 + 4 * counts.in_list fields
  spent (p.Evaluate a) = 4 * counts.in_expression a
  spent _ = 0

  abbrev pub each_spent : Declarations Note → List ℕ
  each_spent p.End = []
  each_spent (p.Then public n d rest) = spent d ∷ each_spent rest

  -- with the fields that it gives
  spent_few : (d : Declaration Note) → spent d + length (field_names d) ≤ 4 * suc (counts.in_declaration d)
  spent_few (p.Let q a) = omega (arith, names_few q)
  spent_few (p.Var stable x u a) = omega arith
  spent_few (p.Func x g body) = omega arith
  spent_few (p.Method query context x g body) = omega arith
  spent_few (p.System x body) = omega arith
  spent_few (p.TypeAlias x parameters u) = omega arith
  spent_few (p.Class x g fields) = omega arith
  spent_few (p.NamedObject x fields) = omega arith
  spent_few (p.Evaluate a) = omega arith

  all_spent : (ds : Declarations Note) → sum (each_spent ds) + length (public_names ds) ≤ 4 * counts.in_list ds
  all_spent p.End = omega arith
  all_spent (p.Then true n d rest) = omega (arith, spent_few d, length_append (field_names d) (public_names rest), all_spent rest)
  all_spent (p.Then false n d rest) = omega (arith, spent_few d, all_spent rest)

  list_cost : (has_value : Bool) (ds : Declarations Note) → Costs ds (each_spent ds) → (f : Frame) → cost (arranged has_value (pieces defs number ds) f).steps + last_cost (arranged has_value (pieces defs number ds) f).last ≤ sum (each_spent ds)
  list_cost has_value ds c f = by (arranged has_value (pieces defs number ds) f) (arranging.list_cost (λ s. s.all) nodes_of all_evaluated all_functions has_value (pieces defs number ds) (each_spent ds) c f) where
    by : (a : Arranged) → arranging.cost (λ s. s.all) nodes_of all_evaluated all_functions a.steps + arranging.last_cost (λ s. s.all) nodes_of all_evaluated all_functions a.last ≤ sum (each_spent ds) → cost a.steps + last_cost a.last ≤ sum (each_spent ds)
    by a h = on a.last h where
      on : (e : Option TypedExpression) → cost a.steps + arranging.last_cost (λ s. s.all) nodes_of all_evaluated all_functions e ≤ sum (each_spent ds) → cost a.steps + last_cost e ≤ sum (each_spent ds)
      on None h = h
      on (Some e) h = h

  -- an object of the fields of a list
  pub object_list : (u : Term) (ds : Declarations Note) → Costs ds (each_spent ds) → (f : Frame) → in_expression (object_of_names defs number u (public_names ds) (arranged false (pieces defs number ds) f)) ≤ 2 + 4 * counts.in_list ds
  object_list u ds c f = omega (arith, object_nodes u (public_names ds) (arranged false (pieces defs number ds) f), list_cost false ds c f, all_spent ds)

  -- ---- whole trees

  mutual
    pub tree_nodes : (f : Frame) (a : Expression Note) → in_expression (tree defs number f a) + 2 ≤ 4 * counts.in_expression a
    tree_nodes f (p.exp n x) = form_nodes f n x

    form_nodes : (f : Frame) (n : Note) (x : Form Note) → in_expression (form defs number f n x) + 2 ≤ 4 * counts.in_expression (p.exp n x)
    form_nodes f n (p.Constant l) = omega (arith, constant_nodes (number n.type) (literal_at false l (head defs n.type)))
    form_nodes f n (p.Name x) = omega (arith, named_nodes n.type (found f x))
    form_nodes f n (p.Tuple items) = omega (arith, tuple_nodes n.type (trees defs number f items), each_nodes f items)
    form_nodes f n (p.Optional a) = omega (arith, one n.type (action.Operate (op.MakeOption)) (tree defs number f a), tree_nodes f a)
    form_nodes f n (p.Tag x) = omega (arith, one n.type (action.Operate (op.MakeTag x)) (unit_value defs number), unit_nodes)
    form_nodes f n (p.Tagged x a) = omega (arith, one n.type (action.Operate (op.MakeTag x)) (tree defs number f a), tree_nodes f a)
    form_nodes f n (p.Array false items) = omega (arith, action_nodes (number n.type) (action.Operate (op.MakeArray)) (trees defs number f items), each_nodes f items)
    form_nodes f n (p.Array true items) =
        let u = or_else t.Bottom (element_of (head defs n.type)) in
        omega (arith, action_nodes (number n.type) (action.Operate op.MakeArray) (map (new_cell defs number u) (trees defs number f items)), cells_nodes u f items, each_nodes f items)
    form_nodes f n (p.Object fields) = omega (arith, action_nodes (number n.type) (action.Operate (op.MakeObject (labels_of fields))) (field_trees defs number f (head defs n.type) fields), fields_nodes f (head defs n.type) fields)
    form_nodes f n (p.Member a x) = omega (arith, member_nodes n.type x (members_head defs (type_of a)) (tree defs number f a), tree_nodes f a)
    form_nodes f n (p.Projection a i) = omega (arith, one n.type (action.Operate (op.Project i)) (tree defs number f a), tree_nodes f a)
    form_nodes f n (p.Index a i) = omega (arith, element_nodes n.type (members_head defs (type_of a)) (tree defs number f a) (tree defs number f i), tree_nodes f a, tree_nodes f i)
    form_nodes f n (p.Annotated a u) = omega (arith, block_nodes (number n.type) [] (tree defs number f a), tree_nodes f a)
    form_nodes f n (p.Negative a) = omega (arith, negative_nodes n.type a (tree defs number f a), tree_nodes f a)
    form_nodes f n (p.Binary o a b) = omega (arith, binary_nodes o n.type (type_of a) (tree defs number f a) (tree defs number f b), tree_nodes f a, tree_nodes f b)
    form_nodes f n (p.Not a) = omega (arith, one n.type (action.Operate (op.Not)) (tree defs number f a), tree_nodes f a)
    form_nodes f n (p.Assign q a) = omega (arith, assigned_nodes f n.type q (tree defs number f a), tree_nodes f a)
    form_nodes f n (p.AssignBy o q a) = omega (arith, update_nodes (number n.type) (operation defs number o (type_of q)) (cell_tree defs number f q) (tree defs number f a), cell_nodes f q, tree_nodes f a)
    form_nodes f n (p.Call g types arguments) = omega (arith, call_nodes n.type (members_head defs (type_of g)) (tree defs number f g ∷ trees defs number f arguments), tree_nodes f g, each_nodes f arguments)
    form_nodes f n (p.When c a) = omega (arith, choice_nodes (number n.type) (tree defs number f c) (tree defs number f a) (unit_value defs number), unit_nodes, tree_nodes f c, tree_nodes f a)
    form_nodes f n (p.If c a b) = omega (arith, choice_nodes (number n.type) (tree defs number f c) (tree defs number f a) (tree defs number f b), tree_nodes f c, tree_nodes f a, tree_nodes f b)
    form_nodes f n (p.Switch a cases) = omega (arith, switch_nodes (number n.type) n.at (tree defs number f a) (case_trees defs number f cases), tree_nodes f a, cases_nodes f cases)
    form_nodes f n (p.Try a q b) =
        omega (arith, try_nodes (number n.type) (tree defs number f a) (made.pattern defs number q) (tree defs number (with_names (names_in q) f) b), tree_nodes f a, pattern_covered defs number q, tree_nodes (with_names (names_in q) f) b)
    form_nodes f n (p.While c a) = omega (arith, while_nodes (number n.type) (tree defs number f c) (tree defs number f a), tree_nodes f c, tree_nodes f a)
    form_nodes f n (p.Loop a) = omega (arith, loop_nodes (number n.type) (tree defs number f a), tree_nodes f a)
    form_nodes f n (p.LoopWhile a c) = omega (arith, repeat_nodes (number n.type) (tree defs number f a) (tree defs number f c), tree_nodes f a, tree_nodes f c)
    form_nodes f n (p.For q a b) =
        omega (arith, for_nodes (number n.type) (made.pattern defs number q) (tree defs number f a) (tree defs number (with_names (names_in q) f) b), tree_nodes f a, pattern_covered defs number q, tree_nodes (with_names (names_in q) f) b)
    form_nodes f n (p.Label x u a) = omega (arith, label_nodes (number n.type) (looped defs number (with_exit (Labelled x) f) x a), looped_nodes (with_exit (Labelled x) f) x a)
    form_nodes f n (p.Break x) = omega (arith, one n.type (action.Break (exit f (is_label x))) (unit_value defs number), unit_nodes)
    form_nodes f n (p.BreakWith x a) = omega (arith, one n.type (action.Break (exit f (is_label x))) (tree defs number f a), tree_nodes f a)
    form_nodes f n (p.Continue x) = omega (arith, one n.type (action.Break (exit f (is_continued x))) (unit_value defs number), unit_nodes)
    form_nodes f n p.Return = omega (arith, one n.type (action.Break (exit f is_returned)) (unit_value defs number), unit_nodes)
    form_nodes f n (p.ReturnWith a) = omega (arith, one n.type (action.Break (exit f is_returned)) (tree defs number f a), tree_nodes f a)
    form_nodes f n (p.Throw a) = omega (arith, one n.type action.Throw (tree defs number f a), tree_nodes f a)
    form_nodes f n (p.Do a) = omega (arith, tree_nodes f a)
    form_nodes f n (p.DoOption a) =
        let b = tree defs number (with_exit Optional f) a in
        omega (arith, label_nodes (number n.type) (operates defs number n.type op.MakeOption (b ∷ [])), one n.type (action.Operate op.MakeOption) b, tree_nodes (with_exit Optional f) a)
    form_nodes f n (p.Bang a) = omega (arith, one n.type (action.Unwrap (exit f is_optional)) (tree defs number f a), tree_nodes f a)
    form_nodes f n (p.Block ds) = omega (arith, list_nodes n.type (arranged true (pieces defs number ds) f), list_cost true ds (pieces_cost ds) f, all_spent ds)
    form_nodes f n (p.Function g body) =
        let inner = in_function (names_in_each g.parameters) (with_entries (Unnamed ∷ []) f) in
        let make = function_of defs number sort.Local g (counts.in_patterns g.parameters + counts.in_expression body) (λ inner. tree defs number inner body) in
        omega (
          arith,
          alone_nodes n.type make f,
          function_cost g (counts.in_patterns g.parameters + counts.in_expression body) (λ inner. tree defs number inner body) (with_entries (Unnamed ∷ []) f),
          patterns_covered defs number g.parameters,
          tree_nodes inner body,
        )
    form_nodes f n (p.ObjectBlock fields) = omega (arith, object_list n.type fields (pieces_cost fields) f)
    form_nodes f n (p.Assert a) = omega (arith, one n.type (action.Operate (op.Assert)) (tree defs number f a), tree_nodes f a)
    form_nodes f n (p.Ignore a) =
        omega (arith, block_nodes (number n.type) (roll-Step (F.Evaluate (tree defs number f a)) ∷ []) (unit_value defs number), all_evaluated (tree defs number f a), unit_nodes, tree_nodes f a)
    form_nodes f n (p.Debug a) = omega (arith, tree_nodes f a)
    form_nodes f n (p.ActorReference x) = omega (arith, constant_nodes (number n.type) (literal.Actor (principal_bytes x)))
    form_nodes f n (p.Await a) = omega (arith, one n.type action.Await (tree defs number f a), tree_nodes f a)
    form_nodes f n (p.BuiltIn m) = omega (arith, none n.type (action.BuiltIn (built_in m)))
    form_nodes f n (p.Subsumed a) = omega (arith, tree_nodes f a)

    each_nodes : (f : Frame) (items : Expressions Note) → total (map in_expression (trees defs number f items)) + 2 * count items ≤ 4 * counts.in_each items
    each_nodes f p.Nil = omega arith
    each_nodes f (p.Cons a rest) = omega (arith, tree_nodes f a, each_nodes f rest)

    cells_nodes : (u : Term) (f : Frame) (items : Expressions Note) → total (map in_expression (map (new_cell defs number u) (trees defs number f items))) ≤ total (map in_expression (trees defs number f items)) + count items
    cells_nodes u f p.Nil = omega arith
    cells_nodes u f (p.Cons a rest) = omega (arith, one u action.New (tree defs number f a), cells_nodes u f rest)

    cases_nodes : (f : Frame) (cases : Cases Note) → total (map in_case (case_trees defs number f cases)) ≤ 4 * counts.in_cases cases
    cases_nodes f p.NoCases = omega arith
    cases_nodes f (p.Case q a rest) =
        omega (arith, case_nodes (made.pattern defs number q) (tree defs number (with_names (names_in q) f) a), pattern_covered defs number q, tree_nodes (with_names (names_in q) f) a, cases_nodes f rest)

    fields_nodes : (f : Frame) (y : Node Term) (fields : ObjectFields Note) → total (map in_expression (field_trees defs number f y fields)) ≤ 4 * counts.in_fields fields
    fields_nodes f y p.NoFields = omega arith
    fields_nodes f y (p.Field false x u a rest) = omega (arith, tree_nodes f a, fields_nodes f y rest)
    fields_nodes f y (p.Field true x u a rest) = omega (arith, one (part_or (type_of a) (field_of x.bytes y)) action.New (tree defs number f a), tree_nodes f a, fields_nodes f y rest)

    cell_nodes : (f : Frame) (q : Expression Note) → in_expression (cell_tree defs number f q) + 2 ≤ 4 * counts.in_expression q
    cell_nodes f (p.exp n (p.Constant l)) = form_nodes f n (p.Constant l)
    cell_nodes f (p.exp n (p.Name x)) = omega (arith, name_nodes (number n.type) (found f x).index)
    cell_nodes f (p.exp n (p.Tuple items)) = form_nodes f n (p.Tuple items)
    cell_nodes f (p.exp n (p.Optional a)) = form_nodes f n (p.Optional a)
    cell_nodes f (p.exp n (p.Tag x)) = form_nodes f n (p.Tag x)
    cell_nodes f (p.exp n (p.Tagged x a)) = form_nodes f n (p.Tagged x a)
    cell_nodes f (p.exp n (p.Array m items)) = form_nodes f n (p.Array m items)
    cell_nodes f (p.exp n (p.Object fields)) = form_nodes f n (p.Object fields)
    cell_nodes f (p.exp n (p.Member a x)) = omega (arith, one n.type (action.Operate (op.Field x)) (tree defs number f a), tree_nodes f a)
    cell_nodes f (p.exp n (p.Projection a i)) = form_nodes f n (p.Projection a i)
    cell_nodes f (p.exp n (p.Index a i)) = omega (arith, two n.type (action.Operate op.Element) (tree defs number f a) (tree defs number f i), tree_nodes f a, tree_nodes f i)
    cell_nodes f (p.exp n (p.Annotated a t)) = form_nodes f n (p.Annotated a t)
    cell_nodes f (p.exp n (p.Negative a)) = form_nodes f n (p.Negative a)
    cell_nodes f (p.exp n (p.Binary o a b)) = form_nodes f n (p.Binary o a b)
    cell_nodes f (p.exp n (p.Not a)) = form_nodes f n (p.Not a)
    cell_nodes f (p.exp n (p.Assign r a)) = form_nodes f n (p.Assign r a)
    cell_nodes f (p.exp n (p.AssignBy o r a)) = form_nodes f n (p.AssignBy o r a)
    cell_nodes f (p.exp n (p.Call g types arguments)) = form_nodes f n (p.Call g types arguments)
    cell_nodes f (p.exp n (p.When c a)) = form_nodes f n (p.When c a)
    cell_nodes f (p.exp n (p.If c a b)) = form_nodes f n (p.If c a b)
    cell_nodes f (p.exp n (p.Switch a cases)) = form_nodes f n (p.Switch a cases)
    cell_nodes f (p.exp n (p.Try a r b)) = form_nodes f n (p.Try a r b)
    cell_nodes f (p.exp n (p.While c a)) = form_nodes f n (p.While c a)
    cell_nodes f (p.exp n (p.Loop a)) = form_nodes f n (p.Loop a)
    cell_nodes f (p.exp n (p.LoopWhile a c)) = form_nodes f n (p.LoopWhile a c)
    cell_nodes f (p.exp n (p.For r a b)) = form_nodes f n (p.For r a b)
    cell_nodes f (p.exp n (p.Label x t a)) = form_nodes f n (p.Label x t a)
    cell_nodes f (p.exp n (p.Break x)) = form_nodes f n (p.Break x)
    cell_nodes f (p.exp n (p.BreakWith x a)) = form_nodes f n (p.BreakWith x a)
    cell_nodes f (p.exp n (p.Continue x)) = form_nodes f n (p.Continue x)
    cell_nodes f (p.exp n p.Return) = form_nodes f n p.Return
    cell_nodes f (p.exp n (p.ReturnWith a)) = form_nodes f n (p.ReturnWith a)
    cell_nodes f (p.exp n (p.Throw a)) = form_nodes f n (p.Throw a)
    cell_nodes f (p.exp n (p.Do a)) = form_nodes f n (p.Do a)
    cell_nodes f (p.exp n (p.DoOption a)) = form_nodes f n (p.DoOption a)
    cell_nodes f (p.exp n (p.Bang a)) = form_nodes f n (p.Bang a)
    cell_nodes f (p.exp n (p.Block ds)) = form_nodes f n (p.Block ds)
    cell_nodes f (p.exp n (p.Function g body)) = form_nodes f n (p.Function g body)
    cell_nodes f (p.exp n (p.ObjectBlock fields)) = form_nodes f n (p.ObjectBlock fields)
    cell_nodes f (p.exp n (p.Assert a)) = form_nodes f n (p.Assert a)
    cell_nodes f (p.exp n (p.Ignore a)) = form_nodes f n (p.Ignore a)
    cell_nodes f (p.exp n (p.Debug a)) = form_nodes f n (p.Debug a)
    cell_nodes f (p.exp n (p.ActorReference x)) = form_nodes f n (p.ActorReference x)
    cell_nodes f (p.exp n (p.Await a)) = form_nodes f n (p.Await a)
    cell_nodes f (p.exp n (p.BuiltIn m)) = form_nodes f n (p.BuiltIn m)
    cell_nodes f (p.exp n (p.Subsumed a)) = form_nodes f n (p.Subsumed a)

    assigned_nodes : (f : Frame) (u : Term) (q : Expression Note) (e : TypedExpression) → in_expression (assigned defs number f u q e) + 1 ≤ 4 * counts.in_expression q + in_expression e
    assigned_nodes f u (p.exp n (p.Constant l)) e = omega (arith, two u action.Write (form defs number f n (p.Constant l)) e, form_nodes f n (p.Constant l))
    assigned_nodes f u (p.exp n (p.Name x)) e = omega (arith, two u action.Write (at defs number n.type (F.Name (found f x).index)) e, name_nodes (number n.type) (found f x).index)
    assigned_nodes f u (p.exp n (p.Tuple items)) e = omega (arith, two u action.Write (form defs number f n (p.Tuple items)) e, form_nodes f n (p.Tuple items))
    assigned_nodes f u (p.exp n (p.Optional a)) e = omega (arith, two u action.Write (form defs number f n (p.Optional a)) e, form_nodes f n (p.Optional a))
    assigned_nodes f u (p.exp n (p.Tag x)) e = omega (arith, two u action.Write (form defs number f n (p.Tag x)) e, form_nodes f n (p.Tag x))
    assigned_nodes f u (p.exp n (p.Tagged x a)) e = omega (arith, two u action.Write (form defs number f n (p.Tagged x a)) e, form_nodes f n (p.Tagged x a))
    assigned_nodes f u (p.exp n (p.Array m items)) e = omega (arith, two u action.Write (form defs number f n (p.Array m items)) e, form_nodes f n (p.Array m items))
    assigned_nodes f u (p.exp n (p.Object fields)) e = omega (arith, two u action.Write (form defs number f n (p.Object fields)) e, form_nodes f n (p.Object fields))
    assigned_nodes f u (p.exp n (p.Member a x)) e = omega (arith, two u action.Write (operates defs number n.type (op.Field x) (tree defs number f a ∷ [])) e, one n.type (action.Operate (op.Field x)) (tree defs number f a), tree_nodes f a)
    assigned_nodes f u (p.exp n (p.Projection a i)) e = omega (arith, two u action.Write (form defs number f n (p.Projection a i)) e, form_nodes f n (p.Projection a i))
    assigned_nodes f u (p.exp n (p.Index a i)) e = omega (arith, three u action.WriteElement (tree defs number f a) (tree defs number f i) e, tree_nodes f a, tree_nodes f i)
    assigned_nodes f u (p.exp n (p.Annotated a t)) e = omega (arith, two u action.Write (form defs number f n (p.Annotated a t)) e, form_nodes f n (p.Annotated a t))
    assigned_nodes f u (p.exp n (p.Negative a)) e = omega (arith, two u action.Write (form defs number f n (p.Negative a)) e, form_nodes f n (p.Negative a))
    assigned_nodes f u (p.exp n (p.Binary o a b)) e = omega (arith, two u action.Write (form defs number f n (p.Binary o a b)) e, form_nodes f n (p.Binary o a b))
    assigned_nodes f u (p.exp n (p.Not a)) e = omega (arith, two u action.Write (form defs number f n (p.Not a)) e, form_nodes f n (p.Not a))
    assigned_nodes f u (p.exp n (p.Assign r a)) e = omega (arith, two u action.Write (form defs number f n (p.Assign r a)) e, form_nodes f n (p.Assign r a))
    assigned_nodes f u (p.exp n (p.AssignBy o r a)) e = omega (arith, two u action.Write (form defs number f n (p.AssignBy o r a)) e, form_nodes f n (p.AssignBy o r a))
    assigned_nodes f u (p.exp n (p.Call g types arguments)) e = omega (arith, two u action.Write (form defs number f n (p.Call g types arguments)) e, form_nodes f n (p.Call g types arguments))
    assigned_nodes f u (p.exp n (p.When c a)) e = omega (arith, two u action.Write (form defs number f n (p.When c a)) e, form_nodes f n (p.When c a))
    assigned_nodes f u (p.exp n (p.If c a b)) e = omega (arith, two u action.Write (form defs number f n (p.If c a b)) e, form_nodes f n (p.If c a b))
    assigned_nodes f u (p.exp n (p.Switch a cases)) e = omega (arith, two u action.Write (form defs number f n (p.Switch a cases)) e, form_nodes f n (p.Switch a cases))
    assigned_nodes f u (p.exp n (p.Try a r b)) e = omega (arith, two u action.Write (form defs number f n (p.Try a r b)) e, form_nodes f n (p.Try a r b))
    assigned_nodes f u (p.exp n (p.While c a)) e = omega (arith, two u action.Write (form defs number f n (p.While c a)) e, form_nodes f n (p.While c a))
    assigned_nodes f u (p.exp n (p.Loop a)) e = omega (arith, two u action.Write (form defs number f n (p.Loop a)) e, form_nodes f n (p.Loop a))
    assigned_nodes f u (p.exp n (p.LoopWhile a c)) e = omega (arith, two u action.Write (form defs number f n (p.LoopWhile a c)) e, form_nodes f n (p.LoopWhile a c))
    assigned_nodes f u (p.exp n (p.For r a b)) e = omega (arith, two u action.Write (form defs number f n (p.For r a b)) e, form_nodes f n (p.For r a b))
    assigned_nodes f u (p.exp n (p.Label x t a)) e = omega (arith, two u action.Write (form defs number f n (p.Label x t a)) e, form_nodes f n (p.Label x t a))
    assigned_nodes f u (p.exp n (p.Break x)) e = omega (arith, two u action.Write (form defs number f n (p.Break x)) e, form_nodes f n (p.Break x))
    assigned_nodes f u (p.exp n (p.BreakWith x a)) e = omega (arith, two u action.Write (form defs number f n (p.BreakWith x a)) e, form_nodes f n (p.BreakWith x a))
    assigned_nodes f u (p.exp n (p.Continue x)) e = omega (arith, two u action.Write (form defs number f n (p.Continue x)) e, form_nodes f n (p.Continue x))
    assigned_nodes f u (p.exp n p.Return) e = omega (arith, two u action.Write (form defs number f n p.Return) e, form_nodes f n p.Return)
    assigned_nodes f u (p.exp n (p.ReturnWith a)) e = omega (arith, two u action.Write (form defs number f n (p.ReturnWith a)) e, form_nodes f n (p.ReturnWith a))
    assigned_nodes f u (p.exp n (p.Throw a)) e = omega (arith, two u action.Write (form defs number f n (p.Throw a)) e, form_nodes f n (p.Throw a))
    assigned_nodes f u (p.exp n (p.Do a)) e = omega (arith, two u action.Write (form defs number f n (p.Do a)) e, form_nodes f n (p.Do a))
    assigned_nodes f u (p.exp n (p.DoOption a)) e = omega (arith, two u action.Write (form defs number f n (p.DoOption a)) e, form_nodes f n (p.DoOption a))
    assigned_nodes f u (p.exp n (p.Bang a)) e = omega (arith, two u action.Write (form defs number f n (p.Bang a)) e, form_nodes f n (p.Bang a))
    assigned_nodes f u (p.exp n (p.Block ds)) e = omega (arith, two u action.Write (form defs number f n (p.Block ds)) e, form_nodes f n (p.Block ds))
    assigned_nodes f u (p.exp n (p.Function g body)) e = omega (arith, two u action.Write (form defs number f n (p.Function g body)) e, form_nodes f n (p.Function g body))
    assigned_nodes f u (p.exp n (p.ObjectBlock fields)) e = omega (arith, two u action.Write (form defs number f n (p.ObjectBlock fields)) e, form_nodes f n (p.ObjectBlock fields))
    assigned_nodes f u (p.exp n (p.Assert a)) e = omega (arith, two u action.Write (form defs number f n (p.Assert a)) e, form_nodes f n (p.Assert a))
    assigned_nodes f u (p.exp n (p.Ignore a)) e = omega (arith, two u action.Write (form defs number f n (p.Ignore a)) e, form_nodes f n (p.Ignore a))
    assigned_nodes f u (p.exp n (p.Debug a)) e = omega (arith, two u action.Write (form defs number f n (p.Debug a)) e, form_nodes f n (p.Debug a))
    assigned_nodes f u (p.exp n (p.ActorReference x)) e = omega (arith, two u action.Write (form defs number f n (p.ActorReference x)) e, form_nodes f n (p.ActorReference x))
    assigned_nodes f u (p.exp n (p.Await a)) e = omega (arith, two u action.Write (form defs number f n (p.Await a)) e, form_nodes f n (p.Await a))
    assigned_nodes f u (p.exp n (p.BuiltIn m)) e = omega (arith, two u action.Write (form defs number f n (p.BuiltIn m)) e, form_nodes f n (p.BuiltIn m))
    assigned_nodes f u (p.exp n (p.Subsumed a)) e = omega (arith, two u action.Write (form defs number f n (p.Subsumed a)) e, form_nodes f n (p.Subsumed a))

    looped_nodes : (f : Frame) (x : Bytes) (a : Expression Note) → in_expression (looped defs number f x a) + 1 ≤ 4 * counts.in_expression a
    looped_nodes f x (p.exp n (p.Constant l)) = omega (arith, form_nodes f n (p.Constant l))
    looped_nodes f x (p.exp n (p.Name y)) = omega (arith, form_nodes f n (p.Name y))
    looped_nodes f x (p.exp n (p.Tuple items)) = omega (arith, form_nodes f n (p.Tuple items))
    looped_nodes f x (p.exp n (p.Optional a)) = omega (arith, form_nodes f n (p.Optional a))
    looped_nodes f x (p.exp n (p.Tag y)) = omega (arith, form_nodes f n (p.Tag y))
    looped_nodes f x (p.exp n (p.Tagged y a)) = omega (arith, form_nodes f n (p.Tagged y a))
    looped_nodes f x (p.exp n (p.Array m items)) = omega (arith, form_nodes f n (p.Array m items))
    looped_nodes f x (p.exp n (p.Object fields)) = omega (arith, form_nodes f n (p.Object fields))
    looped_nodes f x (p.exp n (p.Member a y)) = omega (arith, form_nodes f n (p.Member a y))
    looped_nodes f x (p.exp n (p.Projection a i)) = omega (arith, form_nodes f n (p.Projection a i))
    looped_nodes f x (p.exp n (p.Index a i)) = omega (arith, form_nodes f n (p.Index a i))
    looped_nodes f x (p.exp n (p.Annotated a t)) = omega (arith, form_nodes f n (p.Annotated a t))
    looped_nodes f x (p.exp n (p.Negative a)) = omega (arith, form_nodes f n (p.Negative a))
    looped_nodes f x (p.exp n (p.Binary o a b)) = omega (arith, form_nodes f n (p.Binary o a b))
    looped_nodes f x (p.exp n (p.Not a)) = omega (arith, form_nodes f n (p.Not a))
    looped_nodes f x (p.exp n (p.Assign r a)) = omega (arith, form_nodes f n (p.Assign r a))
    looped_nodes f x (p.exp n (p.AssignBy o r a)) = omega (arith, form_nodes f n (p.AssignBy o r a))
    looped_nodes f x (p.exp n (p.Call g types arguments)) = omega (arith, form_nodes f n (p.Call g types arguments))
    looped_nodes f x (p.exp n (p.When c a)) = omega (arith, form_nodes f n (p.When c a))
    looped_nodes f x (p.exp n (p.If c a b)) = omega (arith, form_nodes f n (p.If c a b))
    looped_nodes f x (p.exp n (p.Switch a cases)) = omega (arith, form_nodes f n (p.Switch a cases))
    looped_nodes f x (p.exp n (p.Try a r b)) = omega (arith, form_nodes f n (p.Try a r b))
    looped_nodes f x (p.exp n (p.While c a)) =
        let b = tree defs number (with_exit (Continued x) f) a in
        omega (arith, while_nodes (number n.type) (tree defs number f c) (at defs number unit (F.Label b)), label_nodes (number unit) b, tree_nodes f c, tree_nodes (with_exit (Continued x) f) a)
    looped_nodes f x (p.exp n (p.Loop a)) =
        let b = tree defs number (with_exit (Continued x) f) a in
        omega (arith, loop_nodes (number n.type) (at defs number unit (F.Label b)), label_nodes (number unit) b, tree_nodes (with_exit (Continued x) f) a)
    looped_nodes f x (p.exp n (p.LoopWhile a c)) =
        let b = tree defs number (with_exit (Continued x) f) a in
        omega (arith, repeat_nodes (number n.type) (at defs number unit (F.Label b)) (tree defs number f c), label_nodes (number unit) b, tree_nodes f c, tree_nodes (with_exit (Continued x) f) a)
    looped_nodes f x (p.exp n (p.For q a b)) =
        let inner = with_exit (Continued x) (with_names (names_in q) f) in
        let c = tree defs number inner b in
        omega (arith, for_nodes (number n.type) (made.pattern defs number q) (tree defs number f a) (at defs number unit (F.Label c)), label_nodes (number unit) c, tree_nodes f a, pattern_covered defs number q, tree_nodes inner b)
    looped_nodes f x (p.exp n (p.Label y t a)) = omega (arith, form_nodes f n (p.Label y t a))
    looped_nodes f x (p.exp n (p.Break y)) = omega (arith, form_nodes f n (p.Break y))
    looped_nodes f x (p.exp n (p.BreakWith y a)) = omega (arith, form_nodes f n (p.BreakWith y a))
    looped_nodes f x (p.exp n (p.Continue y)) = omega (arith, form_nodes f n (p.Continue y))
    looped_nodes f x (p.exp n p.Return) = omega (arith, form_nodes f n p.Return)
    looped_nodes f x (p.exp n (p.ReturnWith a)) = omega (arith, form_nodes f n (p.ReturnWith a))
    looped_nodes f x (p.exp n (p.Throw a)) = omega (arith, form_nodes f n (p.Throw a))
    looped_nodes f x (p.exp n (p.Do a)) = omega (arith, form_nodes f n (p.Do a))
    looped_nodes f x (p.exp n (p.DoOption a)) = omega (arith, form_nodes f n (p.DoOption a))
    looped_nodes f x (p.exp n (p.Bang a)) = omega (arith, form_nodes f n (p.Bang a))
    looped_nodes f x (p.exp n (p.Block ds)) = omega (arith, form_nodes f n (p.Block ds))
    looped_nodes f x (p.exp n (p.Function g body)) = omega (arith, form_nodes f n (p.Function g body))
    looped_nodes f x (p.exp n (p.ObjectBlock fields)) = omega (arith, form_nodes f n (p.ObjectBlock fields))
    looped_nodes f x (p.exp n (p.Assert a)) = omega (arith, form_nodes f n (p.Assert a))
    looped_nodes f x (p.exp n (p.Ignore a)) = omega (arith, form_nodes f n (p.Ignore a))
    looped_nodes f x (p.exp n (p.Debug a)) = omega (arith, form_nodes f n (p.Debug a))
    looped_nodes f x (p.exp n (p.ActorReference y)) = omega (arith, form_nodes f n (p.ActorReference y))
    looped_nodes f x (p.exp n (p.Await a)) = omega (arith, form_nodes f n (p.Await a))
    looped_nodes f x (p.exp n (p.BuiltIn m)) = omega (arith, form_nodes f n (p.BuiltIn m))
    looped_nodes f x (p.exp n (p.Subsumed a)) = omega (arith, form_nodes f n (p.Subsumed a))

    pub pieces_cost : (ds : Declarations Note) → Costs ds (each_spent ds)
    pieces_cost p.End = tt
    pieces_cost (p.Then public n d rest) = (piece_cost n d, pieces_cost rest)

    piece_cost : (n : Note) (d : Declaration Note) → arranging.Costs (λ s. s.all) nodes_of all_evaluated all_functions (becomes defs number n d) (spent d)
    piece_cost n (p.Let q a) = λ f. omega (arith, ap (λ (s : StepNodes). s.all) (let_nodes (made.pattern defs number q) (tree defs number f a)), pattern_covered defs number q, tree_nodes f a)
    piece_cost n (p.Var false x u a) = λ f. omega (arith, ap (λ (s : StepNodes). s.all) (var_nodes (tree defs number f a)), tree_nodes f a)
    piece_cost n (p.Var true x u a) = λ f. omega (arith, ap (λ (s : StepNodes). s.all) (stable_nodes (kept_at f x.bytes) (tree defs number f a)), tree_nodes f a)
    piece_cost n (p.Func x g body) = λ f.
        omega (arith, function_cost g (counts.in_patterns g.parameters + counts.in_expression body) (λ inner. tree defs number inner body) f, patterns_covered defs number g.parameters, tree_nodes (in_function (names_in_each g.parameters) f) body)
    piece_cost n (p.Method query context x g body) = tt
    piece_cost n (p.System x body) = tt
    piece_cost n (p.TypeAlias x parameters u) = tt
    piece_cost n (p.Class x g fields) = λ f.
        omega (
          arith,
          function_cost g (suc (counts.in_patterns g.parameters + counts.in_list fields)) (λ inner. object_of_names defs number n.type (public_names fields) (arranged false (pieces defs number fields) inner)) f,
          patterns_covered defs number g.parameters,
          object_list n.type fields (pieces_cost fields) (in_function (names_in_each g.parameters) f),
        )
    piece_cost n (p.NamedObject x fields) = λ f.
        let e = object_of_names defs number n.type (public_names fields) (arranged false (pieces defs number fields) f) in
        omega (arith, ap (λ (s : StepNodes). s.all) (let_nodes (bound defs number n.type) e), bound_nodes n.type, object_list n.type fields (pieces_cost fields) f)
    piece_cost n (p.Evaluate a) = λ f. omega (arith, tree_nodes f a)
