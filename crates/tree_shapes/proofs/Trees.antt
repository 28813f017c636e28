-- What is written out nests less than it has written nodes.
use Rattle.std.proofs.Common.{◌≡◌, ◌≤◌, ◌<◌, ℕ, suc, ◌+◌, Bool, true, false, List, [], ◌∷◌, map, Option, Some, None, refl, sym, ap, ◌∙◌, subst, arith}
use Rattle.std.specs.Prelude.{cond}
use Rattle.mo_scopes.specs.declared.library.Member as library_member
use Rattle.mo_scopes.specs.declared.library.Member.TheVariants as library
use Rattle.mo_syntax.specs.declared.operators.BinaryOperator.{BinaryOperator}
use Rattle.mo_syntax.specs.declared.operators.BinaryOperator.TheVariants as sign
use Rattle.mo_types.specs.declared.node.Node.{Node}
use Rattle.mo_types.specs.declared.node.Node.TheVariants as node
use Rattle.mo_types.specs.declared.node.Sort.TheVariants as sort
use Rattle.mo_types.specs.declared.node.TypeId.{TypeId}
use Rattle.mo_types.specs.Sub.{find}
use Rattle.mo_values.specs.declared.operation.Comparison.TheVariants as comparison
use Rattle.mo_values.specs.declared.operation.Operation.TheVariants as op
use Rattle.std.specs.Prelude.{codes}
use Rattle.std.specs.Str.{bytes_eq}
use Rattle.typed_tree.specs.declared.action.Action.{Action}
use Rattle.typed_tree.specs.declared.action.Action.TheVariants as action
use Rattle.typed_tree.specs.declared.action.Member.TheVariants as member
use Rattle.typed_tree.specs.declared.literal.Literal.{Literal}
use Rattle.typed_tree.specs.declared.literal.Literal.TheVariants as literal
use Rattle.typed_tree.specs.declared.expression.Form.TheOpen as F
use Rattle.typed_tree.specs.declared.expression.Function.{Function}
use Rattle.typed_tree.specs.declared.expression.Step.{roll-Step}
use Rattle.typed_tree.specs.declared.expression.TypedExpression.{TypedExpression}
use Rattle.typed_tree.specs.Language.{Exp, Exps, Label, While, Repeat, For}
use Rattle.typed_tree.specs.PatternView.{literal_value, pattern}
use Rattle.typed_tree.specs.View.{CaseView, exps, cases, endless, declaration, expression, case_view, function}
use Rattle.typed_tree.proofs.Views.{declaration_views}
use Rattle.typing_rules.specs.AbstractSyntax.{Bytes, Expression, Form, Expressions, Cases as WrittenCases, ObjectFields, Signature, Declaration, Declarations}
use Rattle.typing_rules.specs.AbstractSyntax as p
use Rattle.typing_rules.specs.Definitions.{Definitions}
use Rattle.typing_rules.specs.Heads.{head, members_head}
use Rattle.typing_rules.specs.Nodes as counts
use Rattle.typing_rules.specs.Terms.{Term, unit}
use Rattle.typing_rules.specs.Terms as t
use Rattle.typing_rules.specs.TypedTrees.{Note, Typed, type_of}
use Rattle.typing_rules.specs.Expressions.{element_of}
use Rattle.desugaring.specs.Expressions.{is_mutable, field_of, part_or, labels_of, or_else, public_names, block_of, object_operands, object_of_names, call_of, member_of, element_at, new_cell, tuple_of, negative_of, field_value, function_of, alone, bound, tree, form, trees, case_trees, field_trees, cell_tree, assigned, looped, pieces, becomes}
use Rattle.desugaring.specs.FreeNames.{names_in, names_in_each}
use Rattle.desugaring.specs.Frames.{Unnamed, Frame, Use, with_entries, with_names, with_exit, in_function, found, kept_at, Continued, Labelled, Optional, is_label, is_continued, is_optional, is_returned, exit}
use Rattle.desugaring.specs.Nodes.{literal_at, built_in, array_method, text_method, scalar_of, at, acts, operates, constant, unit_value, flag, kind_of, held, named, operation, binary}
use Rattle.desugaring.specs.Patterns as made
use Rattle.desugaring.specs.Pieces.{Arranged, arranged}
use Rattle.desugaring.specs.PrincipalBytes.{principal_bytes}
use Rattle.nesting.specs.Shapes.{least, nest, nest_all, pile, pile_all, IsPlain, IsWritten, Shaped, Fine}
use Rattle.tree_shapes.proofs.Lists.{FunctionFine, StepFine, LastFine, ArrangedFine, PieceFine, PiecesFine, sum_of, step_more, let_fine, var_fine, stable_fine, evaluated_fine, functions_fine, list_fine}
use Rattle.tree_shapes.proofs.Patterns.{bind_tests, tests_few, all_tests_few}
use Rattle.tree_shapes.proofs.Simple.{Few, CasesFew, is_fine, weaken, value_fine, name_fine, none_fine, do_fine, one_fine, deep_fine, two_fine, three_fine, no_operands, more_operands, if_fine, no_cases, more_cases, switch_fine, try_fine, update_fine, label_fine, while_fine, label_while, endless_fine, label_endless, repeat_fine, label_repeat, for_fine, label_for}
use Rattle.tree_shapes.proofs.Single.{constant_is, name_is, action_is, choice_is, switch_is, while_is, loop_is, repeat_is, for_is, label_is, try_is, update_is, block_is}

-- ---- built-in functions that are written

array_written : (b c : Bool) → IsWritten (action.BuiltIn (cond b member.ArraySize (cond c member.ArrayVals member.ArrayKeys)))
array_written true c = tt
array_written false true = tt
array_written false false = tt

text_written : (b : Bool) → IsWritten (action.BuiltIn (cond b member.TextSize member.TextChars))
text_written true = tt
text_written false = tt

built_in_written : (m : library_member.Member) → IsWritten (action.BuiltIn (built_in m))
built_in_written library.DebugPrint = tt
built_in_written library.DebugTrap = tt
built_in_written library.ErrorReject = tt
built_in_written library.ErrorMessage = tt
built_in_written library.ErrorCode = tt
built_in_written library.NatToText = tt
built_in_written library.IntToText = tt
built_in_written library.ArrayTabulate = tt
built_in_written library.ArrayInit = tt
built_in_written library.ArrayFreeze = tt
built_in_written library.ArrayThaw = tt
built_in_written library.PrincipalFromActor = tt

array_method_written : (x : Bytes) → IsWritten (action.BuiltIn (array_method x))
array_method_written x = array_written (bytes_eq x (codes "size")) (bytes_eq x (codes "vals"))

text_method_written : (x : Bytes) → IsWritten (action.BuiltIn (text_method x))
text_method_written x = text_written (bytes_eq x (codes "size"))

literal_plain : (l : Literal) → IsPlain (literal_value l)
literal_plain literal.Unit = tt
literal_plain literal.Null = tt
literal_plain (literal.Flag b) = tt
literal_plain (literal.Number n) = tt
literal_plain (literal.Character c) = tt
literal_plain (literal.Text x) = tt
literal_plain (literal.Blob x) = tt
literal_plain (literal.Actor x) = tt

abbrev T : ℕ → TypedExpression → Type 0
T k e = Fine k (expression e)

abbrev TreesFew : ℕ → List TypedExpression → Type 0
TreesFew k es = Few k (exps (map expression es))

up : (k : ℕ) (e : Exp) → Fine k e → Fine (suc k) e
up k e h = weaken k (suc k) e (omega arith) h

few_more : (k l : ℕ) (es : Exps) → k ≤ l → Few k es → Few l es
few_more k l es m h = record { few = let x : nest_all es ≤ k = h.few in omega (arith, m, x); light = let x : pile_all 1 1 es ≤ k = h.light in omega (arith, m, x); shaped = h.shaped }

-- the value of a list
record LastFew (l : ℕ) (e : Exp) : Type 0 where
  few : nest e ≤ l
  light : pile 1 1 e ≤ l
  shaped : Shaped e

module _ (defs : Definitions) (number : Term → TypeId) where
  -- ---- single nodes

  acts_none : (u : Term) (a : Action) → IsWritten a → least a ≡ 0 → T 1 (acts defs number u a [])
  acts_none u a w l = is_fine 1 _ _ (action_is (number u) a []) (none_fine a w l)

  acts_all : (u : Term) (a : Action) (es : List TypedExpression) (k : ℕ) → IsWritten a → least a ≡ 0 → TreesFew k es → T (suc k) (acts defs number u a es)
  acts_all u a es k w l h = is_fine (suc k) _ _ (action_is (number u) a es) (do_fine a (exps (map expression es)) k w l h)

  acts_same : (u : Term) (a : Action) (e : TypedExpression) (k : ℕ) → IsWritten a → least a ≡ 0 → T k e → T k (acts defs number u a (e ∷ []))
  acts_same u a e k w l h = is_fine k _ _ (action_is (number u) a (e ∷ [])) (one_fine a (expression e) k w l h)

  acts_one : (u : Term) (a : Action) (e : TypedExpression) (k : ℕ) → IsWritten a → least a ≡ 0 → T k e → T (suc k) (acts defs number u a (e ∷ []))
  acts_one u a e k w l h = up k _ (acts_same u a e k w l h)

  acts_deep : (u : Term) (a : Action) (e : TypedExpression) (k : ℕ) → IsWritten a → least a ≤ 1 → T k e → T (suc k) (acts defs number u a (e ∷ []))
  acts_deep u a e k w l h = is_fine (suc k) _ _ (action_is (number u) a (e ∷ [])) (deep_fine a (expression e) k w l h)

  acts_two : (u : Term) (a : Action) (x y : TypedExpression) (k l : ℕ) → IsWritten a → least a ≡ 0 → T k x → T l y → T (k + l) (acts defs number u a (x ∷ y ∷ []))
  acts_two u a x y k l w z h i = is_fine (k + l) _ _ (action_is (number u) a (x ∷ y ∷ [])) (two_fine a (expression x) (expression y) k l w z h i)

  acts_three : (u : Term) (a : Action) (x y z : TypedExpression) (k l m : ℕ) → IsWritten a → least a ≡ 0 → T k x → T l y → T m z → T (k + l + m) (acts defs number u a (x ∷ y ∷ z ∷ []))
  acts_three u a x y z k l m w r h i j = is_fine (k + l + m) _ _ (action_is (number u) a (x ∷ y ∷ z ∷ [])) (three_fine a (expression x) (expression y) (expression z) k l m w r h i j)

  constant_fine : (u : Term) (l : Literal) → T 1 (constant defs number u l)
  constant_fine u l = is_fine 1 _ _ (constant_is (number u) l) (value_fine (literal_value l) (literal_plain l))

  unit_fine : T 1 (unit_value defs number)
  unit_fine = constant_fine unit literal.Unit

  flag_fine : (b : Bool) → T 1 (flag defs number b)
  flag_fine b = constant_fine t.Boolean (literal.Flag b)

  name_at_fine : (u : Term) (x : ℕ) → T 1 (at defs number u (F.Name x))
  name_at_fine u x = is_fine 1 _ _ (name_is (number u) x) (name_fine x)

  held_fine : (u : Term) (b : Bool) (e : TypedExpression) (k : ℕ) → T k e → T k (held defs number u b e)
  held_fine u false e k h = h
  held_fine u true e k h = acts_same u action.Read e k tt refl h

  named_fine : (u : Term) (x : Use) → T 1 (named defs number u x)
  named_fine u x = held_fine u x.cell (at defs number u (F.Name x.index)) 1 (name_at_fine u x.index)

  tuple_fine : (u : Term) (es : List TypedExpression) (k : ℕ) → TreesFew k es → T (suc k) (tuple_of defs number u es)
  tuple_fine u [] k h = weaken 1 (suc k) _ (omega arith) (constant_fine u literal.Unit)
  tuple_fine u (e ∷ es) k h = acts_all u (action.Operate op.MakeTuple) (e ∷ es) k tt refl h

  member_fine : (u : Term) (x : Bytes) (y : Node Term) (a : TypedExpression) (k : ℕ) → T k a → T k (member_of defs number u x y a)
  member_fine u x (node.Number i) a k h = acts_same u (action.BuiltIn (array_method x)) a k (array_method_written x) refl h
  member_fine u x node.Bool a k h = acts_same u (action.BuiltIn (array_method x)) a k (array_method_written x) refl h
  member_fine u x node.Char a k h = acts_same u (action.BuiltIn (array_method x)) a k (array_method_written x) refl h
  member_fine u x node.Text a k h = acts_same u (action.BuiltIn (text_method x)) a k (text_method_written x) refl h
  member_fine u x node.Blob a k h = acts_same u (action.BuiltIn (array_method x)) a k (array_method_written x) refl h
  member_fine u x node.Principal a k h = acts_same u (action.BuiltIn (array_method x)) a k (array_method_written x) refl h
  member_fine u x node.Error a k h = acts_same u (action.BuiltIn (array_method x)) a k (array_method_written x) refl h
  member_fine u x node.Null a k h = acts_same u (action.BuiltIn (array_method x)) a k (array_method_written x) refl h
  member_fine u x node.Any a k h = acts_same u (action.BuiltIn (array_method x)) a k (array_method_written x) refl h
  member_fine u x node.Bottom a k h = acts_same u (action.BuiltIn (array_method x)) a k (array_method_written x) refl h
  member_fine u x (node.Opt b) a k h = acts_same u (action.BuiltIn (array_method x)) a k (array_method_written x) refl h
  member_fine u x (node.Array b) a k h = acts_same u (action.BuiltIn (array_method x)) a k (array_method_written x) refl h
  member_fine u x (node.MutArray b) a k h = acts_same u (action.BuiltIn (array_method x)) a k (array_method_written x) refl h
  member_fine u x (node.Tuple ts) a k h = acts_same u (action.BuiltIn (array_method x)) a k (array_method_written x) refl h
  member_fine u x (node.Object fs) a k h = held_fine u (is_mutable (find x fs)) (operates defs number u (op.Field x) (a ∷ [])) k (acts_same u (action.Operate (op.Field x)) a k tt refl h)
  member_fine u x (node.Actor fs) a k h = acts_same u (action.Operate (op.Method x)) a k tt refl h
  member_fine u x (node.Variant fs) a k h = acts_same u (action.BuiltIn (array_method x)) a k (array_method_written x) refl h
  member_fine u x (node.Func s ps rs) a k h = acts_same u (action.BuiltIn (array_method x)) a k (array_method_written x) refl h
  member_fine u x (node.Async b) a k h = acts_same u (action.BuiltIn (array_method x)) a k (array_method_written x) refl h
  member_fine u x (node.Variable v b) a k h = acts_same u (action.BuiltIn (array_method x)) a k (array_method_written x) refl h

  element_fine : (u : Term) (y : Node Term) (a i : TypedExpression) (k l : ℕ) → T k a → T l i → T (k + l) (element_at defs number u y a i)
  element_fine u (node.Number j) a i k l h r = acts_two u (action.Operate op.Element) a i k l tt refl h r
  element_fine u node.Bool a i k l h r = acts_two u (action.Operate op.Element) a i k l tt refl h r
  element_fine u node.Char a i k l h r = acts_two u (action.Operate op.Element) a i k l tt refl h r
  element_fine u node.Text a i k l h r = acts_two u (action.Operate op.Element) a i k l tt refl h r
  element_fine u node.Blob a i k l h r = acts_two u (action.Operate op.Element) a i k l tt refl h r
  element_fine u node.Principal a i k l h r = acts_two u (action.Operate op.Element) a i k l tt refl h r
  element_fine u node.Error a i k l h r = acts_two u (action.Operate op.Element) a i k l tt refl h r
  element_fine u node.Null a i k l h r = acts_two u (action.Operate op.Element) a i k l tt refl h r
  element_fine u node.Any a i k l h r = acts_two u (action.Operate op.Element) a i k l tt refl h r
  element_fine u node.Bottom a i k l h r = acts_two u (action.Operate op.Element) a i k l tt refl h r
  element_fine u (node.Opt b) a i k l h r = acts_two u (action.Operate op.Element) a i k l tt refl h r
  element_fine u (node.Array b) a i k l h r = acts_two u (action.Operate op.Element) a i k l tt refl h r
  element_fine u (node.MutArray b) a i k l h r =
      held_fine u true (operates defs number u op.Element (a ∷ i ∷ [])) (k + l) (acts_two u (action.Operate op.Element) a i k l tt refl h r)
  element_fine u (node.Tuple ts) a i k l h r = acts_two u (action.Operate op.Element) a i k l tt refl h r
  element_fine u (node.Object fs) a i k l h r = acts_two u (action.Operate op.Element) a i k l tt refl h r
  element_fine u (node.Actor fs) a i k l h r = acts_two u (action.Operate op.Element) a i k l tt refl h r
  element_fine u (node.Variant fs) a i k l h r = acts_two u (action.Operate op.Element) a i k l tt refl h r
  element_fine u (node.Func s ps rs) a i k l h r = acts_two u (action.Operate op.Element) a i k l tt refl h r
  element_fine u (node.Async b) a i k l h r = acts_two u (action.Operate op.Element) a i k l tt refl h r
  element_fine u (node.Variable v b) a i k l h r = acts_two u (action.Operate op.Element) a i k l tt refl h r

  call_fine : (u : Term) (y : Node Term) (es : List TypedExpression) (k : ℕ) → TreesFew k es → T (suc k) (call_of defs number u y es)
  call_fine u (node.Number i) es k h = acts_all u action.Call es k tt refl h
  call_fine u node.Bool es k h = acts_all u action.Call es k tt refl h
  call_fine u node.Char es k h = acts_all u action.Call es k tt refl h
  call_fine u node.Text es k h = acts_all u action.Call es k tt refl h
  call_fine u node.Blob es k h = acts_all u action.Call es k tt refl h
  call_fine u node.Principal es k h = acts_all u action.Call es k tt refl h
  call_fine u node.Error es k h = acts_all u action.Call es k tt refl h
  call_fine u node.Null es k h = acts_all u action.Call es k tt refl h
  call_fine u node.Any es k h = acts_all u action.Call es k tt refl h
  call_fine u node.Bottom es k h = acts_all u action.Call es k tt refl h
  call_fine u (node.Opt b) es k h = acts_all u action.Call es k tt refl h
  call_fine u (node.Array b) es k h = acts_all u action.Call es k tt refl h
  call_fine u (node.MutArray b) es k h = acts_all u action.Call es k tt refl h
  call_fine u (node.Tuple ts) es k h = acts_all u action.Call es k tt refl h
  call_fine u (node.Object fs) es k h = acts_all u action.Call es k tt refl h
  call_fine u (node.Actor fs) es k h = acts_all u action.Call es k tt refl h
  call_fine u (node.Variant fs) es k h = acts_all u action.Call es k tt refl h
  call_fine u (node.Func sort.Local ps rs) es k h = acts_all u action.Call es k tt refl h
  call_fine u (node.Func sort.Shared ps rs) es k h = acts_all u (action.Send (map number ps) (map number rs)) es k tt refl h
  call_fine u (node.Func sort.Query ps rs) es k h = acts_all u (action.Send (map number ps) (map number rs)) es k tt refl h
  call_fine u (node.Async b) es k h = acts_all u action.Call es k tt refl h
  call_fine u (node.Variable v b) es k h = acts_all u action.Call es k tt refl h

  two_up : (u : Term) (a : Action) (x y : TypedExpression) (k l : ℕ) → IsWritten a → least a ≡ 0 → T k x → T l y → T (suc (k + l)) (acts defs number u a (x ∷ y ∷ []))
  two_up u a x y k l w z h i = up (k + l) _ (acts_two u a x y k l w z h i)

  choice_fine : (u : Term) (c a b : TypedExpression) (k l m : ℕ) → T k c → T l a → T m b → T (k + l + m) (at defs number u (F.If c a b))
  choice_fine u c a b k l m h i j = is_fine (k + l + m) _ _ (choice_is (number u) c a b) (if_fine (expression c) (expression a) (expression b) k l m h i j)

  binary_fine : (o : BinaryOperator) (u v : Term) (a b : TypedExpression) (k l : ℕ) → T k a → T l b → T (suc (k + l)) (binary defs number o u v a b)
  binary_fine sign.Or u v a b k l h i = weaken (k + 1 + l) (suc (k + l)) _ (omega arith) (choice_fine u a (flag defs number true) b k 1 l h (flag_fine true) i)
  binary_fine sign.And u v a b k l h i = weaken (k + l + 1) (suc (k + l)) _ (omega arith) (choice_fine u a b (flag defs number false) k l 1 h i (flag_fine false))
  binary_fine sign.Equal u v a b k l h i = two_up u (action.Operate (op.Equal (number v))) a b k l tt refl h i
  binary_fine sign.NotEqual u v a b k l h i = two_up u (action.Operate (op.Unequal (number v))) a b k l tt refl h i
  binary_fine sign.Less u v a b k l h i = two_up u (action.Operate (op.Compare comparison.Less (scalar_of (head defs v)))) a b k l tt refl h i
  binary_fine sign.Greater u v a b k l h i = two_up u (action.Operate (op.Compare comparison.Greater (scalar_of (head defs v)))) a b k l tt refl h i
  binary_fine sign.LessEqual u v a b k l h i = two_up u (action.Operate (op.Compare comparison.LessOrEqual (scalar_of (head defs v)))) a b k l tt refl h i
  binary_fine sign.GreaterEqual u v a b k l h i = two_up u (action.Operate (op.Compare comparison.GreaterOrEqual (scalar_of (head defs v)))) a b k l tt refl h i
  binary_fine sign.Add u v a b k l h i = two_up u (action.Operate (operation defs number sign.Add u)) a b k l tt refl h i
  binary_fine sign.Subtract u v a b k l h i = two_up u (action.Operate (operation defs number sign.Subtract u)) a b k l tt refl h i
  binary_fine sign.Concat u v a b k l h i = two_up u (action.Operate (operation defs number sign.Concat u)) a b k l tt refl h i
  binary_fine sign.AddWrap u v a b k l h i = two_up u (action.Operate (operation defs number sign.AddWrap u)) a b k l tt refl h i
  binary_fine sign.SubtractWrap u v a b k l h i = two_up u (action.Operate (operation defs number sign.SubtractWrap u)) a b k l tt refl h i
  binary_fine sign.Multiply u v a b k l h i = two_up u (action.Operate (operation defs number sign.Multiply u)) a b k l tt refl h i
  binary_fine sign.Divide u v a b k l h i = two_up u (action.Operate (operation defs number sign.Divide u)) a b k l tt refl h i
  binary_fine sign.Remainder u v a b k l h i = two_up u (action.Operate (operation defs number sign.Remainder u)) a b k l tt refl h i
  binary_fine sign.MultiplyWrap u v a b k l h i = two_up u (action.Operate (operation defs number sign.MultiplyWrap u)) a b k l tt refl h i
  binary_fine sign.Power u v a b k l h i = two_up u (action.Operate (operation defs number sign.Power u)) a b k l tt refl h i

  negative_fine : (u : Term) (a : Typed) (e : TypedExpression) (k : ℕ) → T k e → T (suc k) (negative_of defs number u a e)
  negative_fine u (p.exp n (p.Constant (p.Number m))) e k h = weaken 1 (suc k) _ (omega arith) (constant_fine u (literal_at true (p.Number m) (head defs u)))
  negative_fine u (p.exp n (p.Constant (p.Character c))) e k h = acts_one u (action.Operate (op.Negate (kind_of defs number u))) e k tt refl h
  negative_fine u (p.exp n (p.Constant (p.Text x))) e k h = acts_one u (action.Operate (op.Negate (kind_of defs number u))) e k tt refl h
  negative_fine u (p.exp n (p.Constant p.True)) e k h = acts_one u (action.Operate (op.Negate (kind_of defs number u))) e k tt refl h
  negative_fine u (p.exp n (p.Constant p.False)) e k h = acts_one u (action.Operate (op.Negate (kind_of defs number u))) e k tt refl h
  negative_fine u (p.exp n (p.Constant p.Null)) e k h = acts_one u (action.Operate (op.Negate (kind_of defs number u))) e k tt refl h
  negative_fine u (p.exp n (p.Name x)) e k h = acts_one u (action.Operate (op.Negate (kind_of defs number u))) e k tt refl h
  negative_fine u (p.exp n (p.Tuple items)) e k h = acts_one u (action.Operate (op.Negate (kind_of defs number u))) e k tt refl h
  negative_fine u (p.exp n (p.Optional a)) e k h = acts_one u (action.Operate (op.Negate (kind_of defs number u))) e k tt refl h
  negative_fine u (p.exp n (p.Tag x)) e k h = acts_one u (action.Operate (op.Negate (kind_of defs number u))) e k tt refl h
  negative_fine u (p.exp n (p.Tagged x a)) e k h = acts_one u (action.Operate (op.Negate (kind_of defs number u))) e k tt refl h
  negative_fine u (p.exp n (p.Array m items)) e k h = acts_one u (action.Operate (op.Negate (kind_of defs number u))) e k tt refl h
  negative_fine u (p.exp n (p.Object xs)) e k h = acts_one u (action.Operate (op.Negate (kind_of defs number u))) e k tt refl h
  negative_fine u (p.exp n (p.Member a x)) e k h = acts_one u (action.Operate (op.Negate (kind_of defs number u))) e k tt refl h
  negative_fine u (p.exp n (p.Projection a i)) e k h = acts_one u (action.Operate (op.Negate (kind_of defs number u))) e k tt refl h
  negative_fine u (p.exp n (p.Index a i)) e k h = acts_one u (action.Operate (op.Negate (kind_of defs number u))) e k tt refl h
  negative_fine u (p.exp n (p.Annotated a t)) e k h = acts_one u (action.Operate (op.Negate (kind_of defs number u))) e k tt refl h
  negative_fine u (p.exp n (p.Negative a)) e k h = acts_one u (action.Operate (op.Negate (kind_of defs number u))) e k tt refl h
  negative_fine u (p.exp n (p.Binary o a b)) e k h = acts_one u (action.Operate (op.Negate (kind_of defs number u))) e k tt refl h
  negative_fine u (p.exp n (p.Not a)) e k h = acts_one u (action.Operate (op.Negate (kind_of defs number u))) e k tt refl h
  negative_fine u (p.exp n (p.Assign r a)) e k h = acts_one u (action.Operate (op.Negate (kind_of defs number u))) e k tt refl h
  negative_fine u (p.exp n (p.AssignBy o r a)) e k h = acts_one u (action.Operate (op.Negate (kind_of defs number u))) e k tt refl h
  negative_fine u (p.exp n (p.Call g types arguments)) e k h = acts_one u (action.Operate (op.Negate (kind_of defs number u))) e k tt refl h
  negative_fine u (p.exp n (p.When c a)) e k h = acts_one u (action.Operate (op.Negate (kind_of defs number u))) e k tt refl h
  negative_fine u (p.exp n (p.If c a b)) e k h = acts_one u (action.Operate (op.Negate (kind_of defs number u))) e k tt refl h
  negative_fine u (p.exp n (p.Switch a xs)) e k h = acts_one u (action.Operate (op.Negate (kind_of defs number u))) e k tt refl h
  negative_fine u (p.exp n (p.Try a r b)) e k h = acts_one u (action.Operate (op.Negate (kind_of defs number u))) e k tt refl h
  negative_fine u (p.exp n (p.While c a)) e k h = acts_one u (action.Operate (op.Negate (kind_of defs number u))) e k tt refl h
  negative_fine u (p.exp n (p.Loop a)) e k h = acts_one u (action.Operate (op.Negate (kind_of defs number u))) e k tt refl h
  negative_fine u (p.exp n (p.LoopWhile a c)) e k h = acts_one u (action.Operate (op.Negate (kind_of defs number u))) e k tt refl h
  negative_fine u (p.exp n (p.For r a b)) e k h = acts_one u (action.Operate (op.Negate (kind_of defs number u))) e k tt refl h
  negative_fine u (p.exp n (p.Label x t a)) e k h = acts_one u (action.Operate (op.Negate (kind_of defs number u))) e k tt refl h
  negative_fine u (p.exp n (p.Break x)) e k h = acts_one u (action.Operate (op.Negate (kind_of defs number u))) e k tt refl h
  negative_fine u (p.exp n (p.BreakWith x a)) e k h = acts_one u (action.Operate (op.Negate (kind_of defs number u))) e k tt refl h
  negative_fine u (p.exp n (p.Continue x)) e k h = acts_one u (action.Operate (op.Negate (kind_of defs number u))) e k tt refl h
  negative_fine u (p.exp n p.Return) e k h = acts_one u (action.Operate (op.Negate (kind_of defs number u))) e k tt refl h
  negative_fine u (p.exp n (p.ReturnWith a)) e k h = acts_one u (action.Operate (op.Negate (kind_of defs number u))) e k tt refl h
  negative_fine u (p.exp n (p.Throw a)) e k h = acts_one u (action.Operate (op.Negate (kind_of defs number u))) e k tt refl h
  negative_fine u (p.exp n (p.Do a)) e k h = acts_one u (action.Operate (op.Negate (kind_of defs number u))) e k tt refl h
  negative_fine u (p.exp n (p.DoOption a)) e k h = acts_one u (action.Operate (op.Negate (kind_of defs number u))) e k tt refl h
  negative_fine u (p.exp n (p.Bang a)) e k h = acts_one u (action.Operate (op.Negate (kind_of defs number u))) e k tt refl h
  negative_fine u (p.exp n (p.Block ds)) e k h = acts_one u (action.Operate (op.Negate (kind_of defs number u))) e k tt refl h
  negative_fine u (p.exp n (p.Function g body)) e k h = acts_one u (action.Operate (op.Negate (kind_of defs number u))) e k tt refl h
  negative_fine u (p.exp n (p.ObjectBlock xs)) e k h = acts_one u (action.Operate (op.Negate (kind_of defs number u))) e k tt refl h
  negative_fine u (p.exp n (p.Assert a)) e k h = acts_one u (action.Operate (op.Negate (kind_of defs number u))) e k tt refl h
  negative_fine u (p.exp n (p.Ignore a)) e k h = acts_one u (action.Operate (op.Negate (kind_of defs number u))) e k tt refl h
  negative_fine u (p.exp n (p.Debug a)) e k h = acts_one u (action.Operate (op.Negate (kind_of defs number u))) e k tt refl h
  negative_fine u (p.exp n (p.ActorReference x)) e k h = acts_one u (action.Operate (op.Negate (kind_of defs number u))) e k tt refl h
  negative_fine u (p.exp n (p.Await a)) e k h = acts_one u (action.Operate (op.Negate (kind_of defs number u))) e k tt refl h
  negative_fine u (p.exp n (p.BuiltIn m)) e k h = acts_one u (action.Operate (op.Negate (kind_of defs number u))) e k tt refl h
  negative_fine u (p.exp n (p.Subsumed a)) e k h = acts_one u (action.Operate (op.Negate (kind_of defs number u))) e k tt refl h

  operands_few : (y : Node Term) (f : Frame) (xs : List Bytes) → TreesFew 0 (object_operands defs number y f xs)
  operands_few y f [] = no_operands
  operands_few y f (x ∷ xs) =
      let e = at defs number (part_or unit (field_of x y)) (F.Name (found f x).index) in
      let h : T 1 e = name_at_fine (part_or unit (field_of x y)) (found f x).index in
      let i : TreesFew 0 (object_operands defs number y f xs) = operands_few y f xs in
      record {
        few = let a : nest (expression e) < 1 = h.few in let b : nest_all (exps (map expression (object_operands defs number y f xs))) ≤ 0 = i.few in omega (arith, a, b);
        light = let a : pile 1 1 (expression e) < 1 = h.light in let b : pile_all 1 1 (exps (map expression (object_operands defs number y f xs))) ≤ 0 = i.light in omega (arith, a, b);
        shaped = (h.shaped, i.shaped);
      }

  -- ---- lists

  last_few : (l : ℕ) (o : Option TypedExpression) → LastFine l o → LastFew l (expression (or_else (unit_value defs number) o))
  last_few l None h = record { few = let a : nest (expression (unit_value defs number)) < 1 = unit_fine.few in omega (arith, a); light = let a : pile 1 1 (expression (unit_value defs number)) < 1 = unit_fine.light in omega (arith, a); shaped = unit_fine.shaped }
  last_few l (Some e) h = record { few = let a : nest (expression e) < l = h.few in omega (arith, a); light = let a : pile 1 1 (expression e) < l = h.light in omega (arith, a); shaped = h.shaped }

  block_fine : (u : Term) (a : Arranged) (k : ℕ) → ArrangedFine k a → T (suc k) (block_of defs number u a)
  block_fine u a k h =
      let e = or_else (unit_value defs number) a.last in
      let i : LastFew h.last (expression e) = last_few h.last a.last h.ends in
      is_fine (suc k) _ _ (block_is (number u) a.steps e)
      (record {
        few = let x : h.around + h.last ≤ k = h.sum in let y : nest (expression e) ≤ h.last = i.few in omega (arith, x, y, h.steps.few (expression e));
        light = let x : h.around + h.last ≤ k = h.sum in let y : pile 1 1 (expression e) ≤ h.last = i.light in omega (arith, x, y, h.steps.light (expression e));
        shaped = h.steps.shaped (expression e) i.shaped;
      })

  object_fine : (u : Term) (xs : List Bytes) (a : Arranged) (k : ℕ) → ArrangedFine k a → T (suc k) (object_of_names defs number u xs a)
  object_fine u xs a k h =
      let es = object_operands defs number (head defs u) a.frame xs in
      let e = operates defs number u (op.MakeObject xs) es in
      let i : T 1 e = acts_all u (action.Operate (op.MakeObject xs)) es 0 tt refl (operands_few (head defs u) a.frame xs) in
      is_fine (suc k) _ _ (block_is (number u) a.steps e)
      (record {
        few = let x : h.around + h.last ≤ k = h.sum in let y : nest (expression e) < 1 = i.few in omega (arith, x, y, h.steps.few (expression e));
        light = let x : h.around + h.last ≤ k = h.sum in let y : pile 1 1 (expression e) < 1 = i.light in omega (arith, x, y, h.steps.light (expression e));
        shaped = h.steps.shaped (expression e) i.shaped;
      })

  -- a function, whose body has this many nodes
  function_made : (g : Signature Note) (nodes : ℕ) (body : Frame → TypedExpression) (f : Frame) (k : ℕ) → T k (body (in_function (names_in_each g.parameters) f)) → counts.in_patterns g.parameters + k ≤ nodes
      → FunctionFine (function (function_of defs number sort.Local g nodes body f))
  function_made g nodes body f k h m =
      let e = body (in_function (names_in_each g.parameters) f) in
      subst FunctionFine (sym (declaration_views.function_of sort.Local _ nodes (made.patterns defs number g.parameters) e))
      (record { few = let x : nest (expression e) < k = h.few in omega (arith, all_tests_few defs number g.parameters, x, m); light = let x : pile 1 1 (expression e) < k = h.light in omega (arith, all_tests_few defs number g.parameters, x, m); shaped = h.shaped })

  alone_fine : (u : Term) (make : Frame → Function) (f : Frame) → FunctionFine (function (make (with_entries (Unnamed ∷ []) f))) → T 1 (alone defs number u make f)
  alone_fine u make f h =
      let g = make (with_entries (Unnamed ∷ []) f) in
      let e = at defs number u (F.Name 0) in
      let s : StepFine 0 (declaration (roll-Step (F.Functions (g ∷ [])))) = functions_fine (g ∷ []) (h, tt) in
      let i : T 1 e = name_at_fine u 0 in
      is_fine 1 _ _ (block_is (number u) (roll-Step (F.Functions (g ∷ [])) ∷ []) e)
      (record { few = let x : nest (expression e) < 1 = i.few in omega (arith, x, s.few (expression e)); light = let x : pile 1 1 (expression e) < 1 = i.light in omega (arith, x, s.light (expression e)); shaped = s.shaped (expression e) i.shaped })

  -- what a declaration may come to
  abbrev pub spent : Declaration Note → ℕ
  spent (p.Let q a) = counts.in_pattern q + counts.in_expression a
  spent (p.Var false x u a) = counts.in_expression a
  spent (p.Var true x u a) = suc (counts.in_expression a)
  spent (p.NamedObject x fields) = suc (counts.in_list fields)
  spent (p.Evaluate a) = counts.in_expression a
  spent _ = 0

  abbrev pub each_spent : Declarations Note → List ℕ
  each_spent p.End = []
  each_spent (p.Then public n d rest) = spent d ∷ each_spent rest

  spent_few : (d : Declaration Note) → spent d ≤ suc (counts.in_declaration d)
  spent_few (p.Let q a) = omega arith
  spent_few (p.Var false x u a) = omega arith
  spent_few (p.Var true x u a) = omega arith
  spent_few (p.Func x g body) = omega arith
  spent_few (p.Method query context x g body) = omega arith
  spent_few (p.System x body) = omega arith
  spent_few (p.TypeAlias x parameters u) = omega arith
  spent_few (p.Class x g fields) = omega arith
  spent_few (p.NamedObject x fields) = omega arith
  spent_few (p.Evaluate a) = omega arith

  spent_all : (ds : Declarations Note) → sum_of (each_spent ds) ≤ counts.in_list ds
  spent_all p.End = omega arith
  spent_all (p.Then public n d rest) = omega (arith, spent_few d, spent_all rest)

  abbrev Pieces : Declarations Note → Type 0
  Pieces ds = PiecesFine (pieces defs number ds) (each_spent ds)

  -- an object of the fields of a list
  object_list : (u : Term) (ds : Declarations Note) → Pieces ds → (f : Frame) → T (suc (counts.in_list ds)) (object_of_names defs number u (public_names ds) (arranged false (pieces defs number ds) f))
  object_list u ds c f =
      weaken (suc (sum_of (each_spent ds))) (suc (counts.in_list ds)) _ (omega (arith, spent_all ds))
      (object_fine u (public_names ds) (arranged false (pieces defs number ds) f) (sum_of (each_spent ds)) (list_fine false (pieces defs number ds) (each_spent ds) c f))

  field_fine : (y : Node Term) (mutable : Bool) (x : Bytes) (a : Typed) (e : TypedExpression) (k : ℕ) → T k e → T k (field_value defs number y mutable x a e)
  field_fine y false x a e k h = h
  field_fine y true x a e k h = acts_same (part_or (type_of a) (field_of x y)) action.New e k tt refl h

  -- ---- whole trees

  mutual
    pub tree_fine : (f : Frame) (a : Expression Note) → T (counts.in_expression a) (tree defs number f a)
    tree_fine f (p.exp n x) = form_fine f n x

    form_fine : (f : Frame) (n : Note) (x : Form Note) → T (counts.in_expression (p.exp n x)) (form defs number f n x)
    form_fine f n (p.Constant l) = constant_fine n.type (literal_at false l (head defs n.type))
    form_fine f n (p.Name x) = named_fine n.type (found f x)
    form_fine f n (p.Tuple items) = tuple_fine n.type (trees defs number f items) (counts.in_each items) (each_fine f items)
    form_fine f n (p.Optional a) = acts_one n.type (action.Operate op.MakeOption) (tree defs number f a) (counts.in_expression a) tt refl (tree_fine f a)
    form_fine f n (p.Tag x) = acts_same n.type (action.Operate (op.MakeTag x)) (unit_value defs number) 1 tt refl unit_fine
    form_fine f n (p.Tagged x a) = acts_one n.type (action.Operate (op.MakeTag x)) (tree defs number f a) (counts.in_expression a) tt refl (tree_fine f a)
    form_fine f n (p.Array false items) = acts_all n.type (action.Operate op.MakeArray) (trees defs number f items) (counts.in_each items) tt refl (each_fine f items)
    form_fine f n (p.Array true items) =
        let u = or_else t.Bottom (element_of (head defs n.type)) in
        acts_all n.type (action.Operate op.MakeArray) (map (new_cell defs number u) (trees defs number f items)) (counts.in_each items) tt refl (cells_few u f items)
    form_fine f n (p.Object fields) =
        acts_all n.type (action.Operate (op.MakeObject (labels_of fields))) (field_trees defs number f (head defs n.type) fields) (counts.in_fields fields) tt refl (fields_few f (head defs n.type) fields)
    form_fine f n (p.Member a x) = up _ _ (member_fine n.type x (members_head defs (type_of a)) (tree defs number f a) (counts.in_expression a) (tree_fine f a))
    form_fine f n (p.Projection a i) = acts_one n.type (action.Operate (op.Project i)) (tree defs number f a) (counts.in_expression a) tt refl (tree_fine f a)
    form_fine f n (p.Index a i) =
        up _ _ (element_fine n.type (members_head defs (type_of a)) (tree defs number f a) (tree defs number f i) (counts.in_expression a) (counts.in_expression i) (tree_fine f a) (tree_fine f i))
    form_fine f n (p.Annotated a u) =
        is_fine _ _ _ (block_is (number n.type) [] (tree defs number f a)) (weaken (counts.in_expression a) (suc (counts.in_expression a + counts.in_type u)) _ (omega arith) (tree_fine f a))
    form_fine f n (p.Negative a) = negative_fine n.type a (tree defs number f a) (counts.in_expression a) (tree_fine f a)
    form_fine f n (p.Binary o a b) =
        binary_fine o n.type (type_of a) (tree defs number f a) (tree defs number f b) (counts.in_expression a) (counts.in_expression b) (tree_fine f a) (tree_fine f b)
    form_fine f n (p.Not a) = acts_one n.type (action.Operate op.Not) (tree defs number f a) (counts.in_expression a) tt refl (tree_fine f a)
    form_fine f n (p.Assign q a) = up _ _ (assigned_fine f n.type q (tree defs number f a) (counts.in_expression a) (tree_fine f a))
    form_fine f n (p.AssignBy o q a) =
        let c = cell_tree defs number f q in
        let e = tree defs number f a in
        is_fine _ _ _ (update_is (number n.type) (operation defs number o (type_of q)) c e)
        (up _ _ (update_fine (operation defs number o (type_of q)) (expression c) (expression e) (counts.in_expression q) (counts.in_expression a) (cell_fine f q) (tree_fine f a)))
    form_fine f n (p.Call g types arguments) =
        let es = tree defs number f g ∷ trees defs number f arguments in
        weaken (suc (counts.in_expression g + counts.in_each arguments)) (suc (counts.in_expression g + counts.in_type_arguments types + counts.in_each arguments)) _ (omega arith)
        (call_fine n.type (members_head defs (type_of g)) es (counts.in_expression g + counts.in_each arguments)
        (more_operands (expression (tree defs number f g)) (exps (map expression (trees defs number f arguments))) (counts.in_expression g) (counts.in_each arguments) (tree_fine f g) (each_fine f arguments)))
    form_fine f n (p.When c a) =
        weaken (counts.in_expression c + counts.in_expression a + 1) (suc (counts.in_expression c + counts.in_expression a)) _ (omega arith)
        (choice_fine n.type (tree defs number f c) (tree defs number f a) (unit_value defs number) (counts.in_expression c) (counts.in_expression a) 1 (tree_fine f c) (tree_fine f a) unit_fine)
    form_fine f n (p.If c a b) =
        up _ _ (choice_fine n.type (tree defs number f c) (tree defs number f a) (tree defs number f b) (counts.in_expression c) (counts.in_expression a) (counts.in_expression b) (tree_fine f c) (tree_fine f a) (tree_fine f b))
    form_fine f n (p.Switch a xs) =
        let e = tree defs number f a in
        is_fine _ _ _ (switch_is (number n.type) n.at e (case_trees defs number f xs))
        (switch_fine (expression e) (cases (map case_view (case_trees defs number f xs))) (counts.in_expression a) (counts.in_cases xs) (tree_fine f a) (cases_fine f xs))
    form_fine f n (p.Try a q b) =
        let inner = with_names (names_in q) f in
        let r = made.pattern defs number q in
        is_fine _ _ _ (try_is (number n.type) (tree defs number f a) r (tree defs number inner b))
        (try_fine (expression (tree defs number f a)) (pattern r) (expression (tree defs number inner b)) (counts.in_expression a) (counts.in_pattern q) (counts.in_expression b) (tree_fine f a) (tests_few defs number q) (tree_fine inner b))
    form_fine f n (p.While c a) =
        is_fine _ _ _ (while_is (number n.type) (tree defs number f c) (tree defs number f a))
        (while_fine (expression (tree defs number f c)) (expression (tree defs number f a)) (counts.in_expression c) (counts.in_expression a) (tree_fine f c) (tree_fine f a))
    form_fine f n (p.Loop a) =
        is_fine _ _ _ (loop_is (number n.type) (tree defs number f a)) (endless_fine (expression (tree defs number f a)) (counts.in_expression a) (tree_fine f a))
    form_fine f n (p.LoopWhile a c) =
        is_fine _ _ _ (repeat_is (number n.type) (tree defs number f a) (tree defs number f c))
        (repeat_fine (expression (tree defs number f a)) (expression (tree defs number f c)) (counts.in_expression a) (counts.in_expression c) (tree_fine f a) (tree_fine f c))
    form_fine f n (p.For q a b) =
        let inner = with_names (names_in q) f in
        let r = made.pattern defs number q in
        is_fine _ _ _ (for_is (number n.type) r (tree defs number f a) (tree defs number inner b))
        (for_fine (pattern r) (expression (tree defs number f a)) (expression (tree defs number inner b)) (counts.in_pattern q) (counts.in_expression a) (counts.in_expression b) (tests_few defs number q) (tree_fine f a) (tree_fine inner b))
    form_fine f n (p.Label x u a) =
        is_fine _ _ _ (label_is (number n.type) (looped defs number (with_exit (Labelled x) f) x a))
        (weaken (suc (counts.in_expression a)) (suc (counts.in_annotation u + counts.in_expression a)) _ (omega arith) (looped_fine (with_exit (Labelled x) f) x a))
    form_fine f n (p.Break x) = acts_same n.type (action.Break (exit f (is_label x))) (unit_value defs number) 1 tt refl unit_fine
    form_fine f n (p.BreakWith x a) = acts_one n.type (action.Break (exit f (is_label x))) (tree defs number f a) (counts.in_expression a) tt refl (tree_fine f a)
    form_fine f n (p.Continue x) = acts_same n.type (action.Break (exit f (is_continued x))) (unit_value defs number) 1 tt refl unit_fine
    form_fine f n p.Return = acts_same n.type (action.Break (exit f is_returned)) (unit_value defs number) 1 tt refl unit_fine
    form_fine f n (p.ReturnWith a) = acts_one n.type (action.Break (exit f is_returned)) (tree defs number f a) (counts.in_expression a) tt refl (tree_fine f a)
    form_fine f n (p.Throw a) = acts_one n.type action.Throw (tree defs number f a) (counts.in_expression a) tt refl (tree_fine f a)
    form_fine f n (p.Do a) = up _ _ (tree_fine f a)
    form_fine f n (p.DoOption a) =
        let b = tree defs number (with_exit Optional f) a in
        let e = operates defs number n.type op.MakeOption (b ∷ []) in
        is_fine _ _ _ (label_is (number n.type) e)
        (label_fine (expression e) (counts.in_expression a) (acts_same n.type (action.Operate op.MakeOption) b (counts.in_expression a) tt refl (tree_fine (with_exit Optional f) a)))
    form_fine f n (p.Bang a) = acts_deep n.type (action.Unwrap (exit f is_optional)) (tree defs number f a) (counts.in_expression a) tt (omega arith) (tree_fine f a)
    form_fine f n (p.Block ds) =
        weaken (suc (sum_of (each_spent ds))) (suc (counts.in_list ds)) _ (omega (arith, spent_all ds))
        (block_fine n.type (arranged true (pieces defs number ds) f) (sum_of (each_spent ds)) (list_fine true (pieces defs number ds) (each_spent ds) (pieces_fine ds) f))
    form_fine f n (p.Function g body) =
        let outer = with_entries (Unnamed ∷ []) f in
        let nodes = counts.in_patterns g.parameters + counts.in_expression body in
        weaken 1 (suc (counts.in_signature g + counts.in_expression body)) _ (omega arith)
        (alone_fine n.type (function_of defs number sort.Local g nodes (λ inner. tree defs number inner body)) f
        (function_made g nodes (λ inner. tree defs number inner body) outer (counts.in_expression body) (tree_fine (in_function (names_in_each g.parameters) outer) body) (omega arith)))
    form_fine f n (p.ObjectBlock fields) = object_list n.type fields (pieces_fine fields) f
    form_fine f n (p.Assert a) = acts_one n.type (action.Operate op.Assert) (tree defs number f a) (counts.in_expression a) tt refl (tree_fine f a)
    form_fine f n (p.Ignore a) =
        let d = roll-Step (F.Evaluate (tree defs number f a)) in
        let e = unit_value defs number in
        let s : StepFine (counts.in_expression a) (declaration d) = evaluated_fine (tree defs number f a) (counts.in_expression a) (tree_fine f a) in
        is_fine _ _ _ (block_is (number n.type) (d ∷ []) e)
        (record { few = let x : nest (expression e) < 1 = unit_fine.few in omega (arith, x, s.few (expression e)); light = let x : pile 1 1 (expression e) < 1 = unit_fine.light in omega (arith, x, s.light (expression e)); shaped = s.shaped (expression e) unit_fine.shaped })
    form_fine f n (p.Debug a) = up _ _ (tree_fine f a)
    form_fine f n (p.ActorReference x) = constant_fine n.type (literal.Actor (principal_bytes x))
    form_fine f n (p.Await a) = acts_deep n.type action.Await (tree defs number f a) (counts.in_expression a) tt (omega arith) (tree_fine f a)
    form_fine f n (p.BuiltIn m) = acts_none n.type (action.BuiltIn (built_in m)) (built_in_written m) refl
    form_fine f n (p.Subsumed a) = tree_fine f a

    each_fine : (f : Frame) (items : Expressions Note) → TreesFew (counts.in_each items) (trees defs number f items)
    each_fine f p.Nil = no_operands
    each_fine f (p.Cons a rest) =
        more_operands (expression (tree defs number f a)) (exps (map expression (trees defs number f rest))) (counts.in_expression a) (counts.in_each rest) (tree_fine f a) (each_fine f rest)

    cells_few : (u : Term) (f : Frame) (items : Expressions Note) → TreesFew (counts.in_each items) (map (new_cell defs number u) (trees defs number f items))
    cells_few u f p.Nil = no_operands
    cells_few u f (p.Cons a rest) =
        more_operands (expression (new_cell defs number u (tree defs number f a))) (exps (map expression (map (new_cell defs number u) (trees defs number f rest)))) (counts.in_expression a) (counts.in_each rest)
        (acts_same u action.New (tree defs number f a) (counts.in_expression a) tt refl (tree_fine f a)) (cells_few u f rest)

    cases_fine : (f : Frame) (xs : WrittenCases Note) → CasesFew (counts.in_cases xs) (cases (map case_view (case_trees defs number f xs)))
    cases_fine f p.NoCases = no_cases
    cases_fine f (p.Case q a rest) =
        let inner = with_names (names_in q) f in
        let r = made.pattern defs number q in
        let e = tree defs number inner a in
        let others = map case_view (case_trees defs number f rest) in
        subst (λ (v : CaseView). CasesFew (counts.in_pattern q + counts.in_expression a + counts.in_cases rest) (cases (v ∷ others))) (sym (declaration_views.case_of r e))
        (more_cases (pattern r) (expression e) (cases others) (counts.in_pattern q) (counts.in_expression a) (counts.in_cases rest) (tests_few defs number q) (tree_fine inner a) (cases_fine f rest))

    fields_few : (f : Frame) (y : Node Term) (fields : ObjectFields Note) → TreesFew (counts.in_fields fields) (field_trees defs number f y fields)
    fields_few f y p.NoFields = no_operands
    fields_few f y (p.Field mutable x u a rest) =
        let e = field_value defs number y mutable x.bytes a (tree defs number f a) in
        few_more (counts.in_expression a + counts.in_fields rest) (suc (counts.in_annotation u + counts.in_expression a + counts.in_fields rest)) _ (omega arith)
        (more_operands (expression e) (exps (map expression (field_trees defs number f y rest))) (counts.in_expression a) (counts.in_fields rest) (field_fine y mutable x.bytes a (tree defs number f a) (counts.in_expression a) (tree_fine f a)) (fields_few f y rest))

    cell_fine : (f : Frame) (q : Expression Note) → T (counts.in_expression q) (cell_tree defs number f q)
    cell_fine f (p.exp n (p.Constant l)) = form_fine f n (p.Constant l)
    cell_fine f (p.exp n (p.Name x)) = name_at_fine n.type (found f x).index
    cell_fine f (p.exp n (p.Tuple items)) = form_fine f n (p.Tuple items)
    cell_fine f (p.exp n (p.Optional a)) = form_fine f n (p.Optional a)
    cell_fine f (p.exp n (p.Tag x)) = form_fine f n (p.Tag x)
    cell_fine f (p.exp n (p.Tagged x a)) = form_fine f n (p.Tagged x a)
    cell_fine f (p.exp n (p.Array m items)) = form_fine f n (p.Array m items)
    cell_fine f (p.exp n (p.Object xs)) = form_fine f n (p.Object xs)
    cell_fine f (p.exp n (p.Member a x)) = acts_one n.type (action.Operate (op.Field x)) (tree defs number f a) (counts.in_expression a) tt refl (tree_fine f a)
    cell_fine f (p.exp n (p.Projection a i)) = form_fine f n (p.Projection a i)
    cell_fine f (p.exp n (p.Index a i)) =
        up _ _ (acts_two n.type (action.Operate op.Element) (tree defs number f a) (tree defs number f i) (counts.in_expression a) (counts.in_expression i) tt refl (tree_fine f a) (tree_fine f i))
    cell_fine f (p.exp n (p.Annotated a t)) = form_fine f n (p.Annotated a t)
    cell_fine f (p.exp n (p.Negative a)) = form_fine f n (p.Negative a)
    cell_fine f (p.exp n (p.Binary o a b)) = form_fine f n (p.Binary o a b)
    cell_fine f (p.exp n (p.Not a)) = form_fine f n (p.Not a)
    cell_fine f (p.exp n (p.Assign r a)) = form_fine f n (p.Assign r a)
    cell_fine f (p.exp n (p.AssignBy o r a)) = form_fine f n (p.AssignBy o r a)
    cell_fine f (p.exp n (p.Call g types arguments)) = form_fine f n (p.Call g types arguments)
    cell_fine f (p.exp n (p.When c a)) = form_fine f n (p.When c a)
    cell_fine f (p.exp n (p.If c a b)) = form_fine f n (p.If c a b)
    cell_fine f (p.exp n (p.Switch a xs)) = form_fine f n (p.Switch a xs)
    cell_fine f (p.exp n (p.Try a r b)) = form_fine f n (p.Try a r b)
    cell_fine f (p.exp n (p.While c a)) = form_fine f n (p.While c a)
    cell_fine f (p.exp n (p.Loop a)) = form_fine f n (p.Loop a)
    cell_fine f (p.exp n (p.LoopWhile a c)) = form_fine f n (p.LoopWhile a c)
    cell_fine f (p.exp n (p.For r a b)) = form_fine f n (p.For r a b)
    cell_fine f (p.exp n (p.Label x t a)) = form_fine f n (p.Label x t a)
    cell_fine f (p.exp n (p.Break x)) = form_fine f n (p.Break x)
    cell_fine f (p.exp n (p.BreakWith x a)) = form_fine f n (p.BreakWith x a)
    cell_fine f (p.exp n (p.Continue x)) = form_fine f n (p.Continue x)
    cell_fine f (p.exp n p.Return) = form_fine f n p.Return
    cell_fine f (p.exp n (p.ReturnWith a)) = form_fine f n (p.ReturnWith a)
    cell_fine f (p.exp n (p.Throw a)) = form_fine f n (p.Throw a)
    cell_fine f (p.exp n (p.Do a)) = form_fine f n (p.Do a)
    cell_fine f (p.exp n (p.DoOption a)) = form_fine f n (p.DoOption a)
    cell_fine f (p.exp n (p.Bang a)) = form_fine f n (p.Bang a)
    cell_fine f (p.exp n (p.Block ds)) = form_fine f n (p.Block ds)
    cell_fine f (p.exp n (p.Function g body)) = form_fine f n (p.Function g body)
    cell_fine f (p.exp n (p.ObjectBlock xs)) = form_fine f n (p.ObjectBlock xs)
    cell_fine f (p.exp n (p.Assert a)) = form_fine f n (p.Assert a)
    cell_fine f (p.exp n (p.Ignore a)) = form_fine f n (p.Ignore a)
    cell_fine f (p.exp n (p.Debug a)) = form_fine f n (p.Debug a)
    cell_fine f (p.exp n (p.ActorReference x)) = form_fine f n (p.ActorReference x)
    cell_fine f (p.exp n (p.Await a)) = form_fine f n (p.Await a)
    cell_fine f (p.exp n (p.BuiltIn m)) = form_fine f n (p.BuiltIn m)
    cell_fine f (p.exp n (p.Subsumed a)) = form_fine f n (p.Subsumed a)

    assigned_fine : (f : Frame) (u : Term) (q : Expression Note) (e : TypedExpression) (k : ℕ) → T k e → T (counts.in_expression q + k) (assigned defs number f u q e)
    assigned_fine f u (p.exp n (p.Constant l)) e k h = acts_two u action.Write (form defs number f n (p.Constant l)) e (counts.in_expression (p.exp n (p.Constant l))) k tt refl (form_fine f n (p.Constant l)) h
    assigned_fine f u (p.exp n (p.Name x)) e k h = acts_two u action.Write (at defs number n.type (F.Name (found f x).index)) e 1 k tt refl (name_at_fine n.type (found f x).index) h
    assigned_fine f u (p.exp n (p.Tuple items)) e k h = acts_two u action.Write (form defs number f n (p.Tuple items)) e (counts.in_expression (p.exp n (p.Tuple items))) k tt refl (form_fine f n (p.Tuple items)) h
    assigned_fine f u (p.exp n (p.Optional a)) e k h = acts_two u action.Write (form defs number f n (p.Optional a)) e (counts.in_expression (p.exp n (p.Optional a))) k tt refl (form_fine f n (p.Optional a)) h
    assigned_fine f u (p.exp n (p.Tag x)) e k h = acts_two u action.Write (form defs number f n (p.Tag x)) e (counts.in_expression (p.exp n (p.Tag x))) k tt refl (form_fine f n (p.Tag x)) h
    assigned_fine f u (p.exp n (p.Tagged x a)) e k h = acts_two u action.Write (form defs number f n (p.Tagged x a)) e (counts.in_expression (p.exp n (p.Tagged x a))) k tt refl (form_fine f n (p.Tagged x a)) h
    assigned_fine f u (p.exp n (p.Array m items)) e k h = acts_two u action.Write (form defs number f n (p.Array m items)) e (counts.in_expression (p.exp n (p.Array m items))) k tt refl (form_fine f n (p.Array m items)) h
    assigned_fine f u (p.exp n (p.Object xs)) e k h = acts_two u action.Write (form defs number f n (p.Object xs)) e (counts.in_expression (p.exp n (p.Object xs))) k tt refl (form_fine f n (p.Object xs)) h
    assigned_fine f u (p.exp n (p.Member a x)) e k h =
        acts_two u action.Write (operates defs number n.type (op.Field x) (tree defs number f a ∷ [])) e (suc (counts.in_expression a)) k tt refl
        (acts_one n.type (action.Operate (op.Field x)) (tree defs number f a) (counts.in_expression a) tt refl (tree_fine f a)) h
    assigned_fine f u (p.exp n (p.Projection a i)) e k h = acts_two u action.Write (form defs number f n (p.Projection a i)) e (counts.in_expression (p.exp n (p.Projection a i))) k tt refl (form_fine f n (p.Projection a i)) h
    assigned_fine f u (p.exp n (p.Index a i)) e k h =
        weaken (counts.in_expression a + counts.in_expression i + k) (suc (counts.in_expression a + counts.in_expression i) + k) _ (omega arith)
        (acts_three u action.WriteElement (tree defs number f a) (tree defs number f i) e (counts.in_expression a) (counts.in_expression i) k tt refl (tree_fine f a) (tree_fine f i) h)
    assigned_fine f u (p.exp n (p.Annotated a t)) e k h = acts_two u action.Write (form defs number f n (p.Annotated a t)) e (counts.in_expression (p.exp n (p.Annotated a t))) k tt refl (form_fine f n (p.Annotated a t)) h
    assigned_fine f u (p.exp n (p.Negative a)) e k h = acts_two u action.Write (form defs number f n (p.Negative a)) e (counts.in_expression (p.exp n (p.Negative a))) k tt refl (form_fine f n (p.Negative a)) h
    assigned_fine f u (p.exp n (p.Binary o a b)) e k h = acts_two u action.Write (form defs number f n (p.Binary o a b)) e (counts.in_expression (p.exp n (p.Binary o a b))) k tt refl (form_fine f n (p.Binary o a b)) h
    assigned_fine f u (p.exp n (p.Not a)) e k h = acts_two u action.Write (form defs number f n (p.Not a)) e (counts.in_expression (p.exp n (p.Not a))) k tt refl (form_fine f n (p.Not a)) h
    assigned_fine f u (p.exp n (p.Assign r a)) e k h = acts_two u action.Write (form defs number f n (p.Assign r a)) e (counts.in_expression (p.exp n (p.Assign r a))) k tt refl (form_fine f n (p.Assign r a)) h
    assigned_fine f u (p.exp n (p.AssignBy o r a)) e k h = acts_two u action.Write (form defs number f n (p.AssignBy o r a)) e (counts.in_expression (p.exp n (p.AssignBy o r a))) k tt refl (form_fine f n (p.AssignBy o r a)) h
    assigned_fine f u (p.exp n (p.Call g types arguments)) e k h = acts_two u action.Write (form defs number f n (p.Call g types arguments)) e (counts.in_expression (p.exp n (p.Call g types arguments))) k tt refl (form_fine f n (p.Call g types arguments)) h
    assigned_fine f u (p.exp n (p.When c a)) e k h = acts_two u action.Write (form defs number f n (p.When c a)) e (counts.in_expression (p.exp n (p.When c a))) k tt refl (form_fine f n (p.When c a)) h
    assigned_fine f u (p.exp n (p.If c a b)) e k h = acts_two u action.Write (form defs number f n (p.If c a b)) e (counts.in_expression (p.exp n (p.If c a b))) k tt refl (form_fine f n (p.If c a b)) h
    assigned_fine f u (p.exp n (p.Switch a xs)) e k h = acts_two u action.Write (form defs number f n (p.Switch a xs)) e (counts.in_expression (p.exp n (p.Switch a xs))) k tt refl (form_fine f n (p.Switch a xs)) h
    assigned_fine f u (p.exp n (p.Try a r b)) e k h = acts_two u action.Write (form defs number f n (p.Try a r b)) e (counts.in_expression (p.exp n (p.Try a r b))) k tt refl (form_fine f n (p.Try a r b)) h
    assigned_fine f u (p.exp n (p.While c a)) e k h = acts_two u action.Write (form defs number f n (p.While c a)) e (counts.in_expression (p.exp n (p.While c a))) k tt refl (form_fine f n (p.While c a)) h
    assigned_fine f u (p.exp n (p.Loop a)) e k h = acts_two u action.Write (form defs number f n (p.Loop a)) e (counts.in_expression (p.exp n (p.Loop a))) k tt refl (form_fine f n (p.Loop a)) h
    assigned_fine f u (p.exp n (p.LoopWhile a c)) e k h = acts_two u action.Write (form defs number f n (p.LoopWhile a c)) e (counts.in_expression (p.exp n (p.LoopWhile a c))) k tt refl (form_fine f n (p.LoopWhile a c)) h
    assigned_fine f u (p.exp n (p.For r a b)) e k h = acts_two u action.Write (form defs number f n (p.For r a b)) e (counts.in_expression (p.exp n (p.For r a b))) k tt refl (form_fine f n (p.For r a b)) h
    assigned_fine f u (p.exp n (p.Label x t a)) e k h = acts_two u action.Write (form defs number f n (p.Label x t a)) e (counts.in_expression (p.exp n (p.Label x t a))) k tt refl (form_fine f n (p.Label x t a)) h
    assigned_fine f u (p.exp n (p.Break x)) e k h = acts_two u action.Write (form defs number f n (p.Break x)) e (counts.in_expression (p.exp n (p.Break x))) k tt refl (form_fine f n (p.Break x)) h
    assigned_fine f u (p.exp n (p.BreakWith x a)) e k h = acts_two u action.Write (form defs number f n (p.BreakWith x a)) e (counts.in_expression (p.exp n (p.BreakWith x a))) k tt refl (form_fine f n (p.BreakWith x a)) h
    assigned_fine f u (p.exp n (p.Continue x)) e k h = acts_two u action.Write (form defs number f n (p.Continue x)) e (counts.in_expression (p.exp n (p.Continue x))) k tt refl (form_fine f n (p.Continue x)) h
    assigned_fine f u (p.exp n p.Return) e k h = acts_two u action.Write (form defs number f n p.Return) e (counts.in_expression (p.exp n p.Return)) k tt refl (form_fine f n p.Return) h
    assigned_fine f u (p.exp n (p.ReturnWith a)) e k h = acts_two u action.Write (form defs number f n (p.ReturnWith a)) e (counts.in_expression (p.exp n (p.ReturnWith a))) k tt refl (form_fine f n (p.ReturnWith a)) h
    assigned_fine f u (p.exp n (p.Throw a)) e k h = acts_two u action.Write (form defs number f n (p.Throw a)) e (counts.in_expression (p.exp n (p.Throw a))) k tt refl (form_fine f n (p.Throw a)) h
    assigned_fine f u (p.exp n (p.Do a)) e k h = acts_two u action.Write (form defs number f n (p.Do a)) e (counts.in_expression (p.exp n (p.Do a))) k tt refl (form_fine f n (p.Do a)) h
    assigned_fine f u (p.exp n (p.DoOption a)) e k h = acts_two u action.Write (form defs number f n (p.DoOption a)) e (counts.in_expression (p.exp n (p.DoOption a))) k tt refl (form_fine f n (p.DoOption a)) h
    assigned_fine f u (p.exp n (p.Bang a)) e k h = acts_two u action.Write (form defs number f n (p.Bang a)) e (counts.in_expression (p.exp n (p.Bang a))) k tt refl (form_fine f n (p.Bang a)) h
    assigned_fine f u (p.exp n (p.Block ds)) e k h = acts_two u action.Write (form defs number f n (p.Block ds)) e (counts.in_expression (p.exp n (p.Block ds))) k tt refl (form_fine f n (p.Block ds)) h
    assigned_fine f u (p.exp n (p.Function g body)) e k h = acts_two u action.Write (form defs number f n (p.Function g body)) e (counts.in_expression (p.exp n (p.Function g body))) k tt refl (form_fine f n (p.Function g body)) h
    assigned_fine f u (p.exp n (p.ObjectBlock xs)) e k h = acts_two u action.Write (form defs number f n (p.ObjectBlock xs)) e (counts.in_expression (p.exp n (p.ObjectBlock xs))) k tt refl (form_fine f n (p.ObjectBlock xs)) h
    assigned_fine f u (p.exp n (p.Assert a)) e k h = acts_two u action.Write (form defs number f n (p.Assert a)) e (counts.in_expression (p.exp n (p.Assert a))) k tt refl (form_fine f n (p.Assert a)) h
    assigned_fine f u (p.exp n (p.Ignore a)) e k h = acts_two u action.Write (form defs number f n (p.Ignore a)) e (counts.in_expression (p.exp n (p.Ignore a))) k tt refl (form_fine f n (p.Ignore a)) h
    assigned_fine f u (p.exp n (p.Debug a)) e k h = acts_two u action.Write (form defs number f n (p.Debug a)) e (counts.in_expression (p.exp n (p.Debug a))) k tt refl (form_fine f n (p.Debug a)) h
    assigned_fine f u (p.exp n (p.ActorReference x)) e k h = acts_two u action.Write (form defs number f n (p.ActorReference x)) e (counts.in_expression (p.exp n (p.ActorReference x))) k tt refl (form_fine f n (p.ActorReference x)) h
    assigned_fine f u (p.exp n (p.Await a)) e k h = acts_two u action.Write (form defs number f n (p.Await a)) e (counts.in_expression (p.exp n (p.Await a))) k tt refl (form_fine f n (p.Await a)) h
    assigned_fine f u (p.exp n (p.BuiltIn m)) e k h = acts_two u action.Write (form defs number f n (p.BuiltIn m)) e (counts.in_expression (p.exp n (p.BuiltIn m))) k tt refl (form_fine f n (p.BuiltIn m)) h
    assigned_fine f u (p.exp n (p.Subsumed a)) e k h = acts_two u action.Write (form defs number f n (p.Subsumed a)) e (counts.in_expression (p.exp n (p.Subsumed a))) k tt refl (form_fine f n (p.Subsumed a)) h

    -- under its label
    looped_fine : (f : Frame) (x : Bytes) (a : Expression Note) → Fine (suc (counts.in_expression a)) (Label (expression (looped defs number f x a)))
    looped_fine f x (p.exp n (p.Constant l)) = label_fine _ _ (form_fine f n (p.Constant l))
    looped_fine f x (p.exp n (p.Name y)) = label_fine _ _ (form_fine f n (p.Name y))
    looped_fine f x (p.exp n (p.Tuple items)) = label_fine _ _ (form_fine f n (p.Tuple items))
    looped_fine f x (p.exp n (p.Optional a)) = label_fine _ _ (form_fine f n (p.Optional a))
    looped_fine f x (p.exp n (p.Tag y)) = label_fine _ _ (form_fine f n (p.Tag y))
    looped_fine f x (p.exp n (p.Tagged y a)) = label_fine _ _ (form_fine f n (p.Tagged y a))
    looped_fine f x (p.exp n (p.Array m items)) = label_fine _ _ (form_fine f n (p.Array m items))
    looped_fine f x (p.exp n (p.Object xs)) = label_fine _ _ (form_fine f n (p.Object xs))
    looped_fine f x (p.exp n (p.Member a y)) = label_fine _ _ (form_fine f n (p.Member a y))
    looped_fine f x (p.exp n (p.Projection a i)) = label_fine _ _ (form_fine f n (p.Projection a i))
    looped_fine f x (p.exp n (p.Index a i)) = label_fine _ _ (form_fine f n (p.Index a i))
    looped_fine f x (p.exp n (p.Annotated a t)) = label_fine _ _ (form_fine f n (p.Annotated a t))
    looped_fine f x (p.exp n (p.Negative a)) = label_fine _ _ (form_fine f n (p.Negative a))
    looped_fine f x (p.exp n (p.Binary o a b)) = label_fine _ _ (form_fine f n (p.Binary o a b))
    looped_fine f x (p.exp n (p.Not a)) = label_fine _ _ (form_fine f n (p.Not a))
    looped_fine f x (p.exp n (p.Assign r a)) = label_fine _ _ (form_fine f n (p.Assign r a))
    looped_fine f x (p.exp n (p.AssignBy o r a)) = label_fine _ _ (form_fine f n (p.AssignBy o r a))
    looped_fine f x (p.exp n (p.Call g types arguments)) = label_fine _ _ (form_fine f n (p.Call g types arguments))
    looped_fine f x (p.exp n (p.When c a)) = label_fine _ _ (form_fine f n (p.When c a))
    looped_fine f x (p.exp n (p.If c a b)) = label_fine _ _ (form_fine f n (p.If c a b))
    looped_fine f x (p.exp n (p.Switch a xs)) = label_fine _ _ (form_fine f n (p.Switch a xs))
    looped_fine f x (p.exp n (p.Try a r b)) = label_fine _ _ (form_fine f n (p.Try a r b))
    looped_fine f x (p.exp n (p.While c a)) =
        let b = tree defs number (with_exit (Continued x) f) a in
        let d = tree defs number f c in
        is_fine _ _ _ (ap Label (while_is (number n.type) d (at defs number unit (F.Label b)) ∙ ap (λ e. While (expression d) e) (label_is (number unit) b)))
        (label_while (expression d) (expression b) (counts.in_expression c) (counts.in_expression a) (tree_fine f c) (tree_fine (with_exit (Continued x) f) a))
    looped_fine f x (p.exp n (p.Loop a)) =
        let b = tree defs number (with_exit (Continued x) f) a in
        let k = counts.in_expression a in
        is_fine _ _ _ (ap Label (loop_is (number n.type) (at defs number unit (F.Label b)) ∙ ap endless (label_is (number unit) b)))
        (label_endless (expression b) k (tree_fine (with_exit (Continued x) f) a))
    looped_fine f x (p.exp n (p.LoopWhile a c)) =
        let b = tree defs number (with_exit (Continued x) f) a in
        let d = tree defs number f c in
        is_fine _ _ _ (ap Label (repeat_is (number n.type) (at defs number unit (F.Label b)) d ∙ ap (λ e. Repeat e (expression d)) (label_is (number unit) b)))
        (label_repeat (expression b) (expression d) (counts.in_expression a) (counts.in_expression c) (tree_fine (with_exit (Continued x) f) a) (tree_fine f c))
    looped_fine f x (p.exp n (p.For q a b)) =
        let inner = with_exit (Continued x) (with_names (names_in q) f) in
        let c = tree defs number inner b in
        let d = tree defs number f a in
        let r = made.pattern defs number q in
        is_fine _ _ _ (ap Label (for_is (number n.type) r d (at defs number unit (F.Label c)) ∙ ap (λ e. For (pattern r) (expression d) e) (label_is (number unit) c)))
        (label_for (pattern r) (expression d) (expression c) (counts.in_pattern q) (counts.in_expression a) (counts.in_expression b) (tests_few defs number q) (tree_fine f a) (tree_fine inner b))
    looped_fine f x (p.exp n (p.Label y t a)) = label_fine _ _ (form_fine f n (p.Label y t a))
    looped_fine f x (p.exp n (p.Break y)) = label_fine _ _ (form_fine f n (p.Break y))
    looped_fine f x (p.exp n (p.BreakWith y a)) = label_fine _ _ (form_fine f n (p.BreakWith y a))
    looped_fine f x (p.exp n (p.Continue y)) = label_fine _ _ (form_fine f n (p.Continue y))
    looped_fine f x (p.exp n p.Return) = label_fine _ _ (form_fine f n p.Return)
    looped_fine f x (p.exp n (p.ReturnWith a)) = label_fine _ _ (form_fine f n (p.ReturnWith a))
    looped_fine f x (p.exp n (p.Throw a)) = label_fine _ _ (form_fine f n (p.Throw a))
    looped_fine f x (p.exp n (p.Do a)) = label_fine _ _ (form_fine f n (p.Do a))
    looped_fine f x (p.exp n (p.DoOption a)) = label_fine _ _ (form_fine f n (p.DoOption a))
    looped_fine f x (p.exp n (p.Bang a)) = label_fine _ _ (form_fine f n (p.Bang a))
    looped_fine f x (p.exp n (p.Block ds)) = label_fine _ _ (form_fine f n (p.Block ds))
    looped_fine f x (p.exp n (p.Function g body)) = label_fine _ _ (form_fine f n (p.Function g body))
    looped_fine f x (p.exp n (p.ObjectBlock xs)) = label_fine _ _ (form_fine f n (p.ObjectBlock xs))
    looped_fine f x (p.exp n (p.Assert a)) = label_fine _ _ (form_fine f n (p.Assert a))
    looped_fine f x (p.exp n (p.Ignore a)) = label_fine _ _ (form_fine f n (p.Ignore a))
    looped_fine f x (p.exp n (p.Debug a)) = label_fine _ _ (form_fine f n (p.Debug a))
    looped_fine f x (p.exp n (p.ActorReference y)) = label_fine _ _ (form_fine f n (p.ActorReference y))
    looped_fine f x (p.exp n (p.Await a)) = label_fine _ _ (form_fine f n (p.Await a))
    looped_fine f x (p.exp n (p.BuiltIn m)) = label_fine _ _ (form_fine f n (p.BuiltIn m))
    looped_fine f x (p.exp n (p.Subsumed a)) = label_fine _ _ (form_fine f n (p.Subsumed a))

    pub pieces_fine : (ds : Declarations Note) → Pieces ds
    pieces_fine p.End = tt
    pieces_fine (p.Then public n d rest) = (piece_fine n d, pieces_fine rest)

    piece_fine : (n : Note) (d : Declaration Note) → PieceFine (becomes defs number n d) (spent d)
    piece_fine n (p.Let q a) = λ f. let_fine (made.pattern defs number q) (tree defs number f a) (counts.in_pattern q) (counts.in_expression a) (tests_few defs number q) (tree_fine f a)
    piece_fine n (p.Var false x u a) = λ f. var_fine (tree defs number f a) (counts.in_expression a) (tree_fine f a)
    piece_fine n (p.Var true x u a) = λ f. stable_fine (kept_at f x.bytes) (tree defs number f a) (counts.in_expression a) (tree_fine f a)
    piece_fine n (p.Func x g body) = λ f.
        function_made g (counts.in_patterns g.parameters + counts.in_expression body) (λ inner. tree defs number inner body) f (counts.in_expression body)
        (tree_fine (in_function (names_in_each g.parameters) f) body) (omega arith)
    piece_fine n (p.Method query context x g body) = tt
    piece_fine n (p.System x body) = tt
    piece_fine n (p.TypeAlias x parameters u) = tt
    piece_fine n (p.Class x g fields) = λ f.
        function_made g (suc (counts.in_patterns g.parameters + counts.in_list fields)) (λ inner. object_of_names defs number n.type (public_names fields) (arranged false (pieces defs number fields) inner)) f
        (suc (counts.in_list fields)) (object_list n.type fields (pieces_fine fields) (in_function (names_in_each g.parameters) f)) (omega arith)
    piece_fine n (p.NamedObject x fields) = λ f.
        step_more (0 + suc (counts.in_list fields)) (suc (counts.in_list fields)) _ (omega arith)
        (let_fine (bound defs number n.type) (object_of_names defs number n.type (public_names fields) (arranged false (pieces defs number fields) f)) 0 (suc (counts.in_list fields)) (omega (arith, bind_tests (number n.type)))
        (object_list n.type fields (pieces_fine fields) f))
    piece_fine n (p.Evaluate a) = λ f. tree_fine f a
