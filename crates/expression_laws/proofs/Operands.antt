-- The rules of operators.
use Rattle.std.proofs.Common.{◌≡◌, inl, inr, ℕ, true, [], ◌∷◌, Option, Some, None, refl, sym, ◌∙◌, subst}
use Rattle.mo_num.specs.declared.kind.Kind.{Kind}
use Rattle.mo_syntax.specs.declared.operators.BinaryOperator.{BinaryOperator}
use Rattle.mo_syntax.specs.declared.operators.BinaryOperator.TheVariants as sign
use Rattle.mo_types.specs.declared.node.Node.{Node}
use Rattle.mo_types.specs.declared.node.Node.TheVariants as node
use Rattle.mo_types.specs.Graph.{head_at}
use Rattle.mo_subtype.specs.Renamed.{on_node}
use Rattle.mo_values.specs.declared.operation.Comparison.{Comparison}
use Rattle.mo_values.specs.declared.operation.Comparison.TheVariants as comparison
use Rattle.mo_values.specs.declared.operation.Operation.TheVariants as op
use Rattle.mo_values.specs.Views.{scalar_type}
use Rattle.subtype_laws.specs.Reached.{Among}
use Rattle.typed_tree.specs.declared.action.Action.TheVariants as action
use Rattle.typed_tree.specs.declared.expression.TypedExpression.{TypedExpression}
use Rattle.typed_tree.specs.OperationTypes.{IsOrdered}
use Rattle.typed_tree.specs.Shareable.{IsComparable}
use Rattle.typed_tree.specs.Typing.{Typed}
use Rattle.typed_tree.specs.Wants.{Of}
use Rattle.typing_rules.specs.declared.condition.Condition.TheVariants as condition
use Rattle.typing_rules.specs.AbstractSyntax.{Expression}
use Rattle.typing_rules.specs.AbstractSyntax as p
use Rattle.typing_rules.specs.Ends.{wanted, Has, Greatest}
use Rattle.typing_rules.specs.Heads.{head}
use Rattle.typing_rules.specs.Judgements.{Gives}
use Rattle.typing_rules.specs.Literals.{Written, has_own, may_have}
use Rattle.typing_rules.specs.Operands.{OtherOperand, LiteralOperand, GreatestOf, Operands, Arithmetic, Equality, Ordering}
use Rattle.typing_rules.specs.Operators.{Family, number_with, is_ordered}
use Rattle.typing_rules.specs.Operators as family
use Rattle.typing_rules.specs.Terms.{Term}
use Rattle.typing_rules.specs.Terms as t
use Rattle.typing_rules.specs.TypedTrees.{Note, Judged, type_of, subsumed}
use Rattle.desugaring.specs.Nodes.{scalar_of, operates, binary}
use Rattle.desugaring_laws.specs.Yields.{Yields}
use Rattle.desugaring_laws.proofs.Graph.{below_number}
use Rattle.desugaring_laws.proofs.Yielding.{more, given, tests, if_so, by_case, part as after}
use Rattle.expression_laws.specs.Results.{IsWantFine}
use Rattle.expression_laws.proofs.Comparing.{comparable}
use Rattle.expression_laws.proofs.Ending.{Setting, Place, there, value_of, as_wanted, Known, WantKnown, Is, IsPart, Tree, Value, has, fits, acts}
use Rattle.expression_laws.proofs.Greatest.{IsGreatest, greatest}
use Rattle.expression_laws.proofs.Operating.{binary_value}
use Rattle.expression_laws.proofs.Simple.{boolean_there, boolean_known, as_fine}
use Rattle.expression_laws.proofs.Wanting.{wanted_is}

module _ (S : Setting) (A : Place S) where
  -- an operand, whatever is wanted of it
  abbrev pub IsJudged : Judged → Type 0
  IsJudged j = (v : Option Term) → IsWantFine S.defs A.context.parameters v → Yields S.defs S.terms (j v) (IsPart S A v)

  abbrev Own : p.Expression Note → Type 0
  Own b = Value S A (type_of b) (Tree S A b)

  own : (v : Option Term) (b : p.Expression Note) → IsPart S A v b → Own b
  own v b i = value_of S A.known.labels A.frame A.context v b i

  other_operand : (n : ℕ) (l : Written) (j : Judged) → IsJudged j → (u : Term) → Known S A u → Yields S.defs S.terms (OtherOperand S.defs n l j u) Own
  other_operand n l j h u k = tests S.defs S.terms _ n (may_have l (head S.defs u)) _ Own (λ may. more S.defs S.terms (j (Some u)) (IsPart S A (Some u)) Own (h (Some u) k.fine) (λ b i. own (Some u) b i))

  given_operand : (j : Judged) → IsJudged j → Yields S.defs S.terms (j None) Own
  given_operand j h = more S.defs S.terms (j None) (IsPart S A None) Own (h None tt) (λ b i. own None b i)

  literal_operand : (n : ℕ) (l : Written) (j : Judged) → IsJudged j → (u : Term) → Known S A u → Yields S.defs S.terms (LiteralOperand S.defs n l j u) Own
  literal_operand n l j h u k =
      if_so S.defs S.terms (has_own l) _ _ Own (λ e. λ m. (
        λ below. given_operand j h,
        λ no. (λ above. given_operand j h, λ none. other_operand n l j h u k),
      )) (λ e. other_operand n l j h u k)

  -- both operands at one type
  pub record BothAt (q : Term × p.Expression Note × p.Expression Note) : Type 0 where
    pub known : Known S A q.0
    pub left : Typed S.slots (Tree S A q.1) A.context (Of (S.number q.0))
    pub right : Typed S.slots (Tree S A q.2) A.context (Of (S.number q.0))

  two : (u v : Term) → Known S A u → Known S A v → (z : Term) → Among z (u ∷ v ∷ []) → Known S A z
  two u v k l z (inl e) = subst (λ s. Known S A s) e k
  two u v k l z (inr (inl e)) = subst (λ s. Known S A s) e l
  two u v k l z (inr (inr m)) = absurd m

  greatest_of : (n : ℕ) (a b : p.Expression Note) → Own a → Own b → Yields S.defs S.terms (GreatestOf S.defs n a b) BothAt
  greatest_of n a b ha hb =
      after S.defs S.terms (Greatest condition.BadOperator n (type_of a ∷ type_of b ∷ [])) (λ u. Gives (u, a, b)) (IsGreatest S.defs S.terms (type_of a ∷ type_of b ∷ [])) BothAt (greatest S.defs S.terms condition.BadOperator n (type_of a ∷ type_of b ∷ [])) (λ u i.
      let k = two (type_of a) (type_of b) ha.known hb.known u i.among in
      record {
        known = k;
        left = ha.typed (S.number u) (below_number S.defs S.slots S.terms S.number S.graph (type_of a) u ha.known.there k.there (i.above (type_of a) (inl refl)));
        right = hb.typed (S.number u) (below_number S.defs S.slots S.terms S.number S.graph (type_of b) u hb.known.there k.there (i.above (type_of b) (inr (inl refl))));
      })

  operands : (n : ℕ) (l m : Option Written) (j k : Judged) → IsJudged j → IsJudged k → Yields S.defs S.terms (Operands S.defs n l m j k) BothAt
  operands n (Some l) m j k hj hk =
      after S.defs S.terms (k None) _ Own BothAt (given_operand k hk) (λ b hb.
      after S.defs S.terms (LiteralOperand S.defs n l j (type_of b)) _ Own BothAt (literal_operand n l j hj (type_of b) hb.known) (λ a ha. greatest_of n a b ha hb))
  operands n None (Some l) j k hj hk =
      after S.defs S.terms (j None) _ Own BothAt (given_operand j hj) (λ a ha.
      after S.defs S.terms (LiteralOperand S.defs n l k (type_of a)) _ Own BothAt (literal_operand n l k hk (type_of a) ha.known) (λ b hb. greatest_of n a b ha hb))
  operands n None None j k hj hk =
      after S.defs S.terms (j None) _ Own BothAt (given_operand j hj) (λ a ha.
      after S.defs S.terms (k None) _ Own BothAt (given_operand k hk) (λ b hb. greatest_of n a b ha hb))

  -- ---- arithmetic

  pub arithmetic : (n : ℕ) (w : Option Term) → WantKnown S A w → (o : BinaryOperator) (f : Family) → f ≡ family.family o → (l m : Option Written) (j k : Judged) → IsJudged j → IsJudged k
      → Yields S.defs S.terms (Arithmetic S.defs n w f o l m j k) (Is S A w)
  arithmetic n w kw o f same l m j k hj hk =
      by_case S.defs S.terms (wanted S.defs (number_with f) w) _ _ (Is S A w) (λ q e.
      let r = wanted_is S.defs (number_with f) w q e in
      let v : Known S A q.0 = subst (λ z. WantKnown S A z) r.0 kw in
      after S.defs S.terms (j w) _ (IsPart S A w) (Is S A w) (hj w (as_fine S A w kw)) (λ a ia.
      after S.defs S.terms (k w) _ (IsPart S A w) (Is S A w) (hk w (as_fine S A w kw)) (λ b ib.
      fits S A n q.0 (p.Binary o a b) (λ z. refl) (binary_value S A o q.0 (type_of a) v (q.1, on same q.0 q.1 r.1) (Tree S A a) (Tree S A b) (at_wanted q.0 r.0 a ia) (at_wanted q.0 r.0 b ib)) w r.0))) (λ e.
      after S.defs S.terms (Operands S.defs n l m j k) _ BothAt (Is S A w) (operands n l m j k hj hk) (λ q i.
      given S.defs S.terms condition.BadOperator n (number_with f (head S.defs q.0)) _ (Is S A w) (λ z g.
      has S A n w q.0 (p.Binary o q.1 q.2) (λ y. refl) kw (λ m'. binary_value S A o q.0 (type_of q.1) i.known (z, on same q.0 z g) (Tree S A q.1) (Tree S A q.2) i.left i.right))))
    where
      on : f ≡ family.family o → (u : Term) (z : Kind) → number_with f (head S.defs u) ≡ Some z → number_with (family.family o) (head S.defs u) ≡ Some z
      on e u z g = subst (λ y. number_with y (head S.defs u) ≡ Some z) e g

      at_wanted : (u : Term) → w ≡ Some u → (b : p.Expression Note) → IsPart S A w b → Typed S.slots (Tree S A b) A.context (Of (S.number u))
      at_wanted u e b i = as_wanted S A.known.labels A.frame A.context u b (subst (λ z. IsPart S A z b) e i)

  -- ---- comparisons

  -- an operand at a type above its own
  raised_type : (u : Term) (b : p.Expression Note) → type_of (subsumed u b) ≡ u
  raised_type u (p.exp n x) = refl

  raised_tree : (u : Term) (b : p.Expression Note) → Tree S A (subsumed u b) ≡ Tree S A b
  raised_tree u (p.exp n x) = refl

  raised_typed : (u : Term) (b : p.Expression Note) → Typed S.slots (Tree S A b) A.context (Of (S.number u)) → Typed S.slots (Tree S A (subsumed u b)) A.context (Of (S.number u))
  raised_typed u b h = subst (λ z. Typed S.slots z A.context (Of (S.number u))) (sym (raised_tree u b)) h

  compare_value : (o : BinaryOperator) (c : Comparison) → Known S A t.Boolean → (u : Term) → Known S A u → is_ordered (head S.defs u) ≡ true → (x y : TypedExpression) → Typed S.slots x A.context (Of (S.number u))
      → Typed S.slots y A.context (Of (S.number u)) → Value S A t.Boolean (operates S.defs S.number t.Boolean (op.Compare c (scalar_of (head S.defs u))) (x ∷ y ∷ []))
  compare_value o c kb u k ordered x y hx hy =
      let r = by (head S.defs u) ordered in
      acts S A t.Boolean kb (action.Operate (op.Compare c (scalar_of (head S.defs u)))) (x ∷ y ∷ []) (Of (S.number u) ∷ Of (S.number u) ∷ [])
      (S.number u, r.0, there S u k.there (head S.defs u) refl ∙ r.1, refl, (S.number t.Boolean, refl, boolean_there S kb.there)) (hx, (hy, tt))
    where
      by : (y : Node Term) → is_ordered y ≡ true → IsOrdered (scalar_of y) × (on_node S.number y ≡ scalar_type (scalar_of y))
      by (node.Number k) e = (tt, refl)
      by node.Char e = (tt, refl)
      by node.Text e = (tt, refl)
      by node.Bool e = cc
      by node.Blob e = cc
      by node.Principal e = cc
      by node.Error e = cc
      by node.Null e = cc
      by node.Any e = cc
      by node.Bottom e = cc
      by (node.Opt a) e = cc
      by (node.Array a) e = cc
      by (node.MutArray a) e = cc
      by (node.Tuple ts) e = cc
      by (node.Object fs) e = cc
      by (node.Actor fs) e = cc
      by (node.Variant fs) e = cc
      by (node.Func s ps rs) e = cc
      by (node.Async a) e = cc
      by (node.Variable v b) e = cc

  -- what a comparison is
  abbrev IsOrdering : BinaryOperator → Type 0
  IsOrdering o = family.Ordering ≡ family.family o

  ordering_value : (o : BinaryOperator) → IsOrdering o → Known S A t.Boolean → (u : Term) → Known S A u → is_ordered (head S.defs u) ≡ true → (x y : TypedExpression) → Typed S.slots x A.context (Of (S.number u))
      → Typed S.slots y A.context (Of (S.number u)) → Value S A t.Boolean (binary S.defs S.number o t.Boolean u x y)
  ordering_value sign.Less e kb u k ordered x y hx hy = compare_value sign.Less comparison.Less kb u k ordered x y hx hy
  ordering_value sign.Greater e kb u k ordered x y hx hy = compare_value sign.Greater comparison.Greater kb u k ordered x y hx hy
  ordering_value sign.LessEqual e kb u k ordered x y hx hy = compare_value sign.LessEqual comparison.LessOrEqual kb u k ordered x y hx hy
  ordering_value sign.GreaterEqual e kb u k ordered x y hx hy = compare_value sign.GreaterEqual comparison.GreaterOrEqual kb u k ordered x y hx hy
  ordering_value sign.Or e kb u k ordered x y hx hy = cc
  ordering_value sign.And e kb u k ordered x y hx hy = cc
  ordering_value sign.Equal e kb u k ordered x y hx hy = cc
  ordering_value sign.NotEqual e kb u k ordered x y hx hy = cc
  ordering_value sign.Add e kb u k ordered x y hx hy = cc
  ordering_value sign.Subtract e kb u k ordered x y hx hy = cc
  ordering_value sign.Concat e kb u k ordered x y hx hy = cc
  ordering_value sign.AddWrap e kb u k ordered x y hx hy = cc
  ordering_value sign.SubtractWrap e kb u k ordered x y hx hy = cc
  ordering_value sign.Multiply e kb u k ordered x y hx hy = cc
  ordering_value sign.Divide e kb u k ordered x y hx hy = cc
  ordering_value sign.Remainder e kb u k ordered x y hx hy = cc
  ordering_value sign.MultiplyWrap e kb u k ordered x y hx hy = cc
  ordering_value sign.Power e kb u k ordered x y hx hy = cc

  equality_value : (o : BinaryOperator) → family.Equality ≡ family.family o → Known S A t.Boolean → (u : Term) → Known S A u → IsComparable (head_at S.slots) (S.number u) → (x y : TypedExpression) → Typed S.slots x A.context (Of (S.number u))
      → Typed S.slots y A.context (Of (S.number u)) → Value S A t.Boolean (binary S.defs S.number o t.Boolean u x y)
  equality_value sign.Equal e kb u k c x y hx hy =
      acts S A t.Boolean kb (action.Operate (op.Equal (S.number u))) (x ∷ y ∷ []) (Of (S.number u) ∷ Of (S.number u) ∷ []) (c, refl, (S.number t.Boolean, refl, boolean_there S kb.there)) (hx, (hy, tt))
  equality_value sign.NotEqual e kb u k c x y hx hy =
      acts S A t.Boolean kb (action.Operate (op.Unequal (S.number u))) (x ∷ y ∷ []) (Of (S.number u) ∷ Of (S.number u) ∷ []) (c, refl, (S.number t.Boolean, refl, boolean_there S kb.there)) (hx, (hy, tt))
  equality_value sign.Or e kb u k c x y hx hy = cc
  equality_value sign.And e kb u k c x y hx hy = cc
  equality_value sign.Less e kb u k c x y hx hy = cc
  equality_value sign.Greater e kb u k c x y hx hy = cc
  equality_value sign.LessEqual e kb u k c x y hx hy = cc
  equality_value sign.GreaterEqual e kb u k c x y hx hy = cc
  equality_value sign.Add e kb u k c x y hx hy = cc
  equality_value sign.Subtract e kb u k c x y hx hy = cc
  equality_value sign.Concat e kb u k c x y hx hy = cc
  equality_value sign.AddWrap e kb u k c x y hx hy = cc
  equality_value sign.SubtractWrap e kb u k c x y hx hy = cc
  equality_value sign.Multiply e kb u k c x y hx hy = cc
  equality_value sign.Divide e kb u k c x y hx hy = cc
  equality_value sign.Remainder e kb u k c x y hx hy = cc
  equality_value sign.MultiplyWrap e kb u k c x y hx hy = cc
  equality_value sign.Power e kb u k c x y hx hy = cc

  -- a comparison at the type of both operands
  compared : (n : ℕ) (w : Option Term) → WantKnown S A w → (o : BinaryOperator) (q : Term × p.Expression Note × p.Expression Note) → BothAt q
      → (Known S A t.Boolean → (x y : TypedExpression) → Typed S.slots x A.context (Of (S.number q.0)) → Typed S.slots y A.context (Of (S.number q.0)) → Value S A t.Boolean (binary S.defs S.number o t.Boolean q.0 x y))
      → Yields S.defs S.terms (Has n w t.Boolean (p.Binary o (subsumed q.0 q.1) (subsumed q.0 q.2))) (Is S A w)
  compared n w kw o q i make =
      has S A n w t.Boolean (p.Binary o (subsumed q.0 q.1) (subsumed q.0 q.2)) (λ z. refl) kw (λ m.
      subst (λ u. Value S A t.Boolean (binary S.defs S.number o t.Boolean u (Tree S A (subsumed q.0 q.1)) (Tree S A (subsumed q.0 q.2)))) (sym (raised_type q.0 q.1))
      (make (boolean_known S A.context.parameters m) (Tree S A (subsumed q.0 q.1)) (Tree S A (subsumed q.0 q.2)) (raised_typed q.0 q.1 i.left) (raised_typed q.0 q.2 i.right)))

  pub equality : (n : ℕ) (w : Option Term) → WantKnown S A w → (o : BinaryOperator) → family.Equality ≡ family.family o → (l m : Option Written) (j k : Judged) → IsJudged j → IsJudged k
      → Yields S.defs S.terms (Equality S.defs n w o l m j k) (Is S A w)
  equality n w kw o same l m j k hj hk =
      after S.defs S.terms (Operands S.defs n l m j k) _ BothAt (Is S A w) (operands n l m j k hj hk) (λ q i. (
        λ c. compared n w kw o q i (λ kb x y hx hy. equality_value o same kb q.0 i.known (comparable S q.0 i.known.there c) x y hx hy),
        λ no. tt,
      ))

  pub ordering : (n : ℕ) (w : Option Term) → WantKnown S A w → (o : BinaryOperator) → IsOrdering o → (l m : Option Written) (j k : Judged) → IsJudged j → IsJudged k → Yields S.defs S.terms (Ordering S.defs n w o l m j k) (Is S A w)
  ordering n w kw o same l m j k hj hk =
      after S.defs S.terms (Operands S.defs n l m j k) _ BothAt (Is S A w) (operands n l m j k hj hk) (λ q i.
      tests S.defs S.terms _ n (is_ordered (head S.defs q.0)) _ (Is S A w) (λ ordered.
      compared n w kw o q i (λ kb x y hx hy. ordering_value o same kb q.0 i.known ordered x y hx hy)))
