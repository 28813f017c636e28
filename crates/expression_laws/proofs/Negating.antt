-- Negation.
use Rattle.std.proofs.Common.{◌≡◌, inl, inr, ℕ, zero, suc, true, false, [], ◌∷◌, Option, Some, None, refl, sym, ap, ◌∙◌, subst, arith}
use Rattle.std.specs.Prelude.{pos, neg_ℤ}
use Rattle.std.proofs.lemmas.Int.{ints}
use Rattle.std.specs.Option.{option_and_then}
use Rattle.mo_num.specs.declared.kind.Kind.{Kind}
use Rattle.mo_num.specs.declared.kind.Kind.TheVariants as kind
use Rattle.mo_num.specs.Kinds.{InRange}
use Rattle.mo_types.specs.declared.datum.Datum.TheVariants as part
use Rattle.mo_types.specs.declared.node.Node.{Node}
use Rattle.mo_types.specs.declared.node.Node.TheVariants as node
use Rattle.mo_types.specs.declared.node.TypeId.{TypeId}
use Rattle.mo_types.specs.Graph.{head_at}
use Rattle.mo_types.specs.Heads.{number_of}
use Rattle.mo_types.specs.Sub.{NumberBelow, Sub, NodeBelow}
use Rattle.mo_types.specs.Values.{IsPartOf}
use Rattle.mo_values.specs.declared.operation.Operation.TheVariants as op
use Rattle.typed_tree.specs.declared.action.Action.TheVariants as action
use Rattle.typed_tree.specs.declared.expression.Form.{roll-Form}
use Rattle.typed_tree.specs.declared.expression.Form.TheOpen as F
use Rattle.typed_tree.specs.declared.expression.TypedExpression.{TypedExpression}
use Rattle.typed_tree.specs.declared.literal.Literal.TheVariants as literal
use Rattle.typed_tree.specs.Typing.{Typed}
use Rattle.typed_tree.specs.Wants.{Of, Below, Serves}
use Rattle.typed_tree.proofs.Rules.{forms, expressions}
use Rattle.typing_rules.specs.declared.condition.Condition.TheVariants as condition
use Rattle.typing_rules.specs.AbstractSyntax.{Expression}
use Rattle.typing_rules.specs.AbstractSyntax as p
use Rattle.typing_rules.specs.AsyncPlaces.{Other}
use Rattle.typing_rules.specs.Contexts.{directly}
use Rattle.typing_rules.specs.Ends.{wanted}
use Rattle.typing_rules.specs.Expressions.{Rule}
use Rattle.typing_rules.specs.Heads.{head}
use Rattle.typing_rules.specs.Literals.{plain_number}
use Rattle.typing_rules.specs.Operators.{negated, signed, negated_of, signed_of}
use Rattle.typing_rules.specs.Terms.{Term, nat}
use Rattle.typing_rules.specs.Terms as t
use Rattle.typing_rules.specs.TypedTrees.{Note, typed as at_type, type_of, place}
use Rattle.desugaring.specs.Expressions.{negative_of}
use Rattle.desugaring.specs.Nodes.{kind_or, kind_of, operates}
use Rattle.desugaring_laws.specs.Yields.{Yields}
use Rattle.desugaring_laws.proofs.HeadForms.{is_number}
use Rattle.desugaring_laws.proofs.Yielding.{given, by_case}
use Rattle.expression_laws.proofs.Ending.{Setting, Place, there, value_of, as_wanted, Known, WantKnown, Is, IsPart, IsTypedPart, Tree, Value, judged, has, fits, acts}
use Rattle.expression_laws.proofs.Heads.{number_head, number_fine}
use Rattle.expression_laws.proofs.Literals.{literal_value, number_typed}
use Rattle.expression_laws.proofs.Simple.{as_fine}
use Rattle.expression_laws.proofs.Wanting.{wanted_is}

-- ---- kinds

no_kind : {j : Kind} → None ≡ Some j → ⊥
no_kind e = cc

-- a signed kind has with each of its numbers that are not negative the negated one
negated_in : (k j : Kind) → signed k ≡ Some j → (m : ℕ) → InRange k (pos m) → InRange k (neg_ℤ (pos m))
negated_in kind.Int j e m h = (omega (arith, ints, h.0, h.1), omega (arith, ints, h.0, h.1))
negated_in kind.Int8 j e m h = (omega (arith, ints, h.0, h.1), omega (arith, ints, h.0, h.1))
negated_in kind.Int16 j e m h = (omega (arith, ints, h.0, h.1), omega (arith, ints, h.0, h.1))
negated_in kind.Int32 j e m h = (omega (arith, ints, h.0, h.1), omega (arith, ints, h.0, h.1))
negated_in kind.Int64 j e m h = (omega (arith, ints, h.0, h.1), omega (arith, ints, h.0, h.1))
negated_in kind.Nat j e m h = absurd (no_kind e)
negated_in kind.Nat8 j e m h = absurd (no_kind e)
negated_in kind.Nat16 j e m h = absurd (no_kind e)
negated_in kind.Nat32 j e m h = absurd (no_kind e)
negated_in kind.Nat64 j e m h = absurd (no_kind e)

-- what negation gives is of a signed kind, which has the numbers of the operand's
negated_is : (j k : Kind) → negated j ≡ Some k → NumberBelow j k × (i : Kind) × (signed k ≡ Some i)
negated_is kind.Int k e = let g : kind.Int ≡ k = cc in subst (λ z. NumberBelow kind.Int z × (i : Kind) × (signed z ≡ Some i)) g (inl refl, kind.Int, refl)
negated_is kind.Int8 k e = let g : kind.Int8 ≡ k = cc in subst (λ z. NumberBelow kind.Int8 z × (i : Kind) × (signed z ≡ Some i)) g (inl refl, kind.Int8, refl)
negated_is kind.Int16 k e = let g : kind.Int16 ≡ k = cc in subst (λ z. NumberBelow kind.Int16 z × (i : Kind) × (signed z ≡ Some i)) g (inl refl, kind.Int16, refl)
negated_is kind.Int32 k e = let g : kind.Int32 ≡ k = cc in subst (λ z. NumberBelow kind.Int32 z × (i : Kind) × (signed z ≡ Some i)) g (inl refl, kind.Int32, refl)
negated_is kind.Int64 k e = let g : kind.Int64 ≡ k = cc in subst (λ z. NumberBelow kind.Int64 z × (i : Kind) × (signed z ≡ Some i)) g (inl refl, kind.Int64, refl)
negated_is kind.Nat k e = let g : kind.Int ≡ k = cc in subst (λ z. NumberBelow kind.Nat z × (i : Kind) × (signed z ≡ Some i)) g (inr (refl, refl), kind.Int, refl)
negated_is kind.Nat8 k e = absurd (no_kind e)
negated_is kind.Nat16 k e = absurd (no_kind e)
negated_is kind.Nat32 k e = absurd (no_kind e)
negated_is kind.Nat64 k e = absurd (no_kind e)

wider : (j k : Kind) → NumberBelow j k → (m : ℕ) → InRange j (pos m) → InRange k (pos m)
wider j k (inl e) m h = subst (λ z. InRange z (pos m)) e h
wider j k (inr e) m h = subst (λ z. InRange z (pos m)) (sym e.1) (nat_int (subst (λ z. InRange z (pos m)) e.0 h)) where
  nat_int : InRange kind.Nat (pos m) → InRange kind.Int (pos m)
  nat_int g = (omega (arith, ints), g.1)

some_of : (f : Kind → Option Kind) (o : Option Kind) (k : Kind) → option_and_then f o ≡ Some k → (j : Kind) × (o ≡ Some j) × (f j ≡ Some k)
some_of f None k e = absurd (no_kind e)
some_of f (Some j) k e = (j, refl, e)

kind_in : {A : Type 0} (R : A → A → Type 0) (u : A) (y : Node A) (k : Kind) (m : ℕ) → IsPartOf y (part.Number (pos m)) → NodeBelow R u y (node.Number k) → InRange k (pos m)
kind_in R u (node.Number j) k m h (inl a) = absurd (differ a) where
  differ : false ≡ true → ⊥
  differ e = cc
kind_in R u (node.Number j) k m h (inr b) = wider j k b m h
kind_in R u node.Bool k m h b = absurd h
kind_in R u node.Char k m h b = absurd h
kind_in R u node.Text k m h b = absurd h
kind_in R u node.Blob k m h b = absurd h
kind_in R u node.Principal k m h b = absurd h
kind_in R u node.Error k m h b = absurd h
kind_in R u node.Null k m h b = absurd h
kind_in R u node.Any k m h b = absurd h
kind_in R u node.Bottom k m h b = absurd h
kind_in R u (node.Opt a) k m h b = absurd h
kind_in R u (node.Array a) k m h b = absurd h
kind_in R u (node.MutArray a) k m h b = absurd h
kind_in R u (node.Tuple ts) k m h b = absurd h
kind_in R u (node.Object fs) k m h b = absurd h
kind_in R u (node.Actor fs) k m h b = absurd h
kind_in R u (node.Variant fs) k m h b = absurd h
kind_in R u (node.Func s ps rs) k m h b = absurd h
kind_in R u (node.Async a) k m h b = absurd h
kind_in R u (node.Variable v c) k m h b = absurd h

module _ (S : Setting) (A : Place S) where
  first_step : (t' u : TypeId) → Below (head_at S.slots) t' u → NodeBelow (Sub (head_at S.slots) zero) u (head_at S.slots t') (head_at S.slots u)
  unfolding Sub
  first_step t' u b = b.by 1

  numbers_to : (t' u : TypeId) (j k : Kind) → head_at S.slots t' ≡ node.Number j → head_at S.slots u ≡ node.Number k → NumberBelow j k → (n : ℕ) → Sub (head_at S.slots) n t' u
  unfolding Sub
  numbers_to t' u j k e f b zero = tt
  numbers_to t' u j k e f b (suc n) = subst (λ x. NodeBelow (Sub (head_at S.slots) n) u x (head_at S.slots u)) (sym e) (subst (λ y. NodeBelow (Sub (head_at S.slots) n) u (node.Number j) y) (sym f) (inr b))

  -- a literal number at a type of a kind is one of that kind
  literal_in : (n : Note) (m : ℕ) (u : Term) (k : Kind) → head_at S.slots (S.number u) ≡ node.Number k → Typed S.slots (Tree S A (p.exp n (p.Constant (p.Number m)))) A.context (Of (S.number u)) → InRange k (pos m)
  literal_in n m u k e h =
      let x = (expressions S.slots (record { of_type = S.number n.type; form = roll-Form (F.Constant (literal.Number (pos m))) }) A.context (Of (S.number u))).0 h in
      let y = (forms S.slots (F.Constant (literal.Number (pos m))) A.context x.0).0 x.3 in
      let below : Below (head_at S.slots) y.0 (S.number u) = subst (λ w. Serves (head_at S.slots) w (Of (S.number u))) y.1 x.4 in
      kind_in (Sub (head_at S.slots) zero) (S.number u) (head_at S.slots y.0) k m y.2.1 (subst (λ z. NodeBelow (Sub (head_at S.slots) zero) (S.number u) (head_at S.slots y.0) z) e (first_step y.0 (S.number u) below))

  negate_value : (u : Term) → Known S A u → (k : Kind) → head S.defs u ≡ node.Number k → (x : TypedExpression) → Typed S.slots x A.context (Of (S.number u)) → Value S A u (operates S.defs S.number u (op.Negate (kind_of S.defs S.number u)) (x ∷ []))
  negate_value u kn k e x h =
      acts S A u kn (action.Operate (op.Negate (kind_of S.defs S.number u))) (x ∷ []) (Of (S.number u) ∷ [])
      (S.number u, there S u kn.there (node.Number k) e ∙ ap (λ y. node.Number (kind_or (number_of y))) (sym e), refl, refl) (h, tt)

  negative_value : (u : Term) → Known S A u → (k i : Kind) → head S.defs u ≡ node.Number k → signed k ≡ Some i → (b : p.Expression Note) → Typed S.slots (Tree S A b) A.context (Of (S.number u)) → Value S A u (negative_of S.defs S.number u b (Tree S A b))
  negative_value u kn k i e s (p.exp n (p.Constant (p.Number m))) h =
      literal_value S A u kn true (p.Number m)
      (tt, subst (λ y. IsPartOf y (part.Number (neg_ℤ (pos m)))) (sym (there S u kn.there (node.Number k) e)) (negated_in k i s m (literal_in n m u k (there S u kn.there (node.Number k) e) h)))
  negative_value u kn k i e s (p.exp n (p.Constant (p.Character c))) h = negate_value u kn k e (Tree S A (p.exp n (p.Constant (p.Character c)))) h
  negative_value u kn k i e s (p.exp n (p.Constant (p.Text x))) h = negate_value u kn k e (Tree S A (p.exp n (p.Constant (p.Text x)))) h
  negative_value u kn k i e s (p.exp n (p.Constant p.True)) h = negate_value u kn k e (Tree S A (p.exp n (p.Constant p.True))) h
  negative_value u kn k i e s (p.exp n (p.Constant p.False)) h = negate_value u kn k e (Tree S A (p.exp n (p.Constant p.False))) h
  negative_value u kn k i e s (p.exp n (p.Constant p.Null)) h = negate_value u kn k e (Tree S A (p.exp n (p.Constant p.Null))) h
  negative_value u kn k i e s (p.exp n (p.Name x)) h = negate_value u kn k e (Tree S A (p.exp n (p.Name x))) h
  negative_value u kn k i e s (p.exp n (p.Tuple items)) h = negate_value u kn k e (Tree S A (p.exp n (p.Tuple items))) h
  negative_value u kn k i e s (p.exp n (p.Optional a)) h = negate_value u kn k e (Tree S A (p.exp n (p.Optional a))) h
  negative_value u kn k i e s (p.exp n (p.Tag x)) h = negate_value u kn k e (Tree S A (p.exp n (p.Tag x))) h
  negative_value u kn k i e s (p.exp n (p.Tagged x a)) h = negate_value u kn k e (Tree S A (p.exp n (p.Tagged x a))) h
  negative_value u kn k i e s (p.exp n (p.Array m items)) h = negate_value u kn k e (Tree S A (p.exp n (p.Array m items))) h
  negative_value u kn k i e s (p.exp n (p.Object fields)) h = negate_value u kn k e (Tree S A (p.exp n (p.Object fields))) h
  negative_value u kn k i e s (p.exp n (p.Member a x)) h = negate_value u kn k e (Tree S A (p.exp n (p.Member a x))) h
  negative_value u kn k i e s (p.exp n (p.Projection a y)) h = negate_value u kn k e (Tree S A (p.exp n (p.Projection a y))) h
  negative_value u kn k i e s (p.exp n (p.Index a y)) h = negate_value u kn k e (Tree S A (p.exp n (p.Index a y))) h
  negative_value u kn k i e s (p.exp n (p.Annotated a t)) h = negate_value u kn k e (Tree S A (p.exp n (p.Annotated a t))) h
  negative_value u kn k i e s (p.exp n (p.Negative a)) h = negate_value u kn k e (Tree S A (p.exp n (p.Negative a))) h
  negative_value u kn k i e s (p.exp n (p.Binary o a b)) h = negate_value u kn k e (Tree S A (p.exp n (p.Binary o a b))) h
  negative_value u kn k i e s (p.exp n (p.Not a)) h = negate_value u kn k e (Tree S A (p.exp n (p.Not a))) h
  negative_value u kn k i e s (p.exp n (p.Assign r a)) h = negate_value u kn k e (Tree S A (p.exp n (p.Assign r a))) h
  negative_value u kn k i e s (p.exp n (p.AssignBy o r a)) h = negate_value u kn k e (Tree S A (p.exp n (p.AssignBy o r a))) h
  negative_value u kn k i e s (p.exp n (p.Call g types arguments)) h = negate_value u kn k e (Tree S A (p.exp n (p.Call g types arguments))) h
  negative_value u kn k i e s (p.exp n (p.When c a)) h = negate_value u kn k e (Tree S A (p.exp n (p.When c a))) h
  negative_value u kn k i e s (p.exp n (p.If c a d)) h = negate_value u kn k e (Tree S A (p.exp n (p.If c a d))) h
  negative_value u kn k i e s (p.exp n (p.Switch a cases)) h = negate_value u kn k e (Tree S A (p.exp n (p.Switch a cases))) h
  negative_value u kn k i e s (p.exp n (p.Try a r b)) h = negate_value u kn k e (Tree S A (p.exp n (p.Try a r b))) h
  negative_value u kn k i e s (p.exp n (p.While c a)) h = negate_value u kn k e (Tree S A (p.exp n (p.While c a))) h
  negative_value u kn k i e s (p.exp n (p.Loop a)) h = negate_value u kn k e (Tree S A (p.exp n (p.Loop a))) h
  negative_value u kn k i e s (p.exp n (p.LoopWhile a c)) h = negate_value u kn k e (Tree S A (p.exp n (p.LoopWhile a c))) h
  negative_value u kn k i e s (p.exp n (p.For r a b)) h = negate_value u kn k e (Tree S A (p.exp n (p.For r a b))) h
  negative_value u kn k i e s (p.exp n (p.Label x t a)) h = negate_value u kn k e (Tree S A (p.exp n (p.Label x t a))) h
  negative_value u kn k i e s (p.exp n (p.Break x)) h = negate_value u kn k e (Tree S A (p.exp n (p.Break x))) h
  negative_value u kn k i e s (p.exp n (p.BreakWith x a)) h = negate_value u kn k e (Tree S A (p.exp n (p.BreakWith x a))) h
  negative_value u kn k i e s (p.exp n (p.Continue x)) h = negate_value u kn k e (Tree S A (p.exp n (p.Continue x))) h
  negative_value u kn k i e s (p.exp n p.Return) h = negate_value u kn k e (Tree S A (p.exp n p.Return)) h
  negative_value u kn k i e s (p.exp n (p.ReturnWith a)) h = negate_value u kn k e (Tree S A (p.exp n (p.ReturnWith a))) h
  negative_value u kn k i e s (p.exp n (p.Throw a)) h = negate_value u kn k e (Tree S A (p.exp n (p.Throw a))) h
  negative_value u kn k i e s (p.exp n (p.Do a)) h = negate_value u kn k e (Tree S A (p.exp n (p.Do a))) h
  negative_value u kn k i e s (p.exp n (p.DoOption a)) h = negate_value u kn k e (Tree S A (p.exp n (p.DoOption a))) h
  negative_value u kn k i e s (p.exp n (p.Bang a)) h = negate_value u kn k e (Tree S A (p.exp n (p.Bang a))) h
  negative_value u kn k i e s (p.exp n (p.Block ds)) h = negate_value u kn k e (Tree S A (p.exp n (p.Block ds))) h
  negative_value u kn k i e s (p.exp n (p.Function g body)) h = negate_value u kn k e (Tree S A (p.exp n (p.Function g body))) h
  negative_value u kn k i e s (p.exp n (p.ObjectBlock fields)) h = negate_value u kn k e (Tree S A (p.exp n (p.ObjectBlock fields))) h
  negative_value u kn k i e s (p.exp n (p.Assert a)) h = negate_value u kn k e (Tree S A (p.exp n (p.Assert a))) h
  negative_value u kn k i e s (p.exp n (p.Ignore a)) h = negate_value u kn k e (Tree S A (p.exp n (p.Ignore a))) h
  negative_value u kn k i e s (p.exp n (p.Debug a)) h = negate_value u kn k e (Tree S A (p.exp n (p.Debug a))) h
  negative_value u kn k i e s (p.exp n (p.ActorReference x)) h = negate_value u kn k e (Tree S A (p.exp n (p.ActorReference x))) h
  negative_value u kn k i e s (p.exp n (p.Await a)) h = negate_value u kn k e (Tree S A (p.exp n (p.Await a))) h
  negative_value u kn k i e s (p.exp n (p.BuiltIn m)) h = negate_value u kn k e (Tree S A (p.exp n (p.BuiltIn m))) h
  negative_value u kn k i e s (p.exp n (p.Subsumed a)) h = negate_value u kn k e (Tree S A (p.exp n (p.Subsumed a))) h

  pub negative_typed : (n : ℕ) (a : Expression ℕ) → IsTypedPart S A a → (w : Option Term) → WantKnown S A w → Yields S.defs S.terms (Rule S.defs A.around (directly Other A.known) n (p.Negative a) w) (Is S A w)
  negative_typed n a j w k =
      by_case S.defs S.terms (plain_number a) _ _ (Is S A w)
      (λ m e. number_typed S A n w k kind.Int true m (p.Negative (at_type (place a) nat (p.Constant (p.Number m)))) (λ u l. refl) (λ u. refl))
      (λ none.
      by_case S.defs S.terms (wanted S.defs signed_of w) _ _ (Is S A w) (λ q e.
      let r = wanted_is S.defs signed_of w q e in
      let v : Known S A q.0 = subst (λ z. WantKnown S A z) r.0 k in
      let o = some_of signed (number_of (head S.defs q.0)) q.1 r.1 in
      judged S A a j w (as_fine S A w k) _ (Is S A w) (λ b i.
      fits S A n q.0 (p.Negative b) (λ l. refl)
      (negative_value q.0 v o.0 q.1 (is_number (head S.defs q.0) o.0 o.1) o.2 b (as_wanted S A.known.labels A.frame A.context q.0 b (subst (λ z. IsPart S A z b) r.0 i))) w r.0)) (λ e.
      judged S A a j None tt _ (Is S A w) (λ b i.
      given S.defs S.terms condition.BadOperator n (negated_of (head S.defs (type_of b))) _ (Is S A w) (λ z g.
      let o = some_of negated (number_of (head S.defs (type_of b))) z g in
      let y = negated_is o.0 z o.2 in
      let value = value_of S A.known.labels A.frame A.context None b i in
      has S A n w (t.Number z) (p.Negative b) (λ l. refl) k (λ m.
      let there_b = there S (type_of b) value.known.there (node.Number o.0) (is_number (head S.defs (type_of b)) o.0 o.1) in
      let there_z = there S (t.Number z) m (node.Number z) (number_head S.defs z) in
      negative_value (t.Number z) (record { there = m; fine = number_fine S.defs A.context.parameters z }) z y.1 (number_head S.defs z) y.2 b
      (value.typed (S.number (t.Number z)) (record { by = numbers_to (S.number (type_of b)) (S.number (t.Number z)) o.0 z there_b there_z y.0 })))))))
