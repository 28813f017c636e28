-- The rules of binary operators, negation and `op=`.
use Rattle.std.proofs.Common.{◌≡◌, ℕ, Bool, true, false, [], ◌∷◌, Option, Some, refl, sym, subst}
use Rattle.mo_syntax.specs.declared.operators.BinaryOperator.{BinaryOperator}
use Rattle.mo_syntax.specs.declared.operators.BinaryOperator.TheVariants as sign
use Rattle.mo_types.specs.declared.node.Node.TheVariants as node
use Rattle.mo_types.specs.Graph.{head_at}
use Rattle.mo_values.specs.declared.operation.Operation.TheVariants as op
use Rattle.subtype_laws.specs.Reached.{Among}
use Rattle.typed_tree.specs.declared.literal.Literal.TheVariants as literal
use Rattle.typed_tree.specs.declared.expression.Form.TheOpen as F
use Rattle.typed_tree.specs.declared.expression.TypedExpression.{TypedExpression}
use Rattle.mo_types.specs.declared.datum.Datum.TheVariants as part
use Rattle.mo_types.specs.Values.{IsPartOf}
use Rattle.typed_tree.specs.OperationTypes.{OperationTyped}
use Rattle.typed_tree.specs.Typing.{Typed}
use Rattle.typed_tree.specs.Wants.{Of, Below}
use Rattle.typing_rules.specs.declared.condition.Condition.TheVariants as condition
use Rattle.typing_rules.specs.AbstractSyntax.{Expression}
use Rattle.typing_rules.specs.AbstractSyntax as p
use Rattle.typing_rules.specs.AsyncPlaces.{Other}
use Rattle.typing_rules.specs.Contexts.{directly}
use Rattle.typing_rules.specs.Expressions.{Judge, JudgePlace, Rule}
use Rattle.typing_rules.specs.Heads.{head}
use Rattle.typing_rules.specs.Judgements.{Given}
use Rattle.typing_rules.specs.Literals.{Written, written}
use Rattle.typing_rules.specs.Operands.{BothFit, Binary, Operand}
use Rattle.typing_rules.specs.Operators.{Family, number_with}
use Rattle.typing_rules.specs.Operators as family
use Rattle.typing_rules.specs.Terms.{Term, unit}
use Rattle.typing_rules.specs.Terms as t
use Rattle.typing_rules.specs.TypedTrees.{Note, Judged, type_of}
use Rattle.desugaring.specs.Nodes.{at, flag, operation, binary}
use Rattle.desugaring.specs.Expressions.{cell_tree}
use Rattle.desugaring_laws.specs.Known.{IsFine}
use Rattle.desugaring_laws.specs.Yields.{Yields}
use Rattle.desugaring_laws.proofs.Graph.{below_number}
use Rattle.desugaring_laws.proofs.Yielding.{more, given, part as after}
use Rattle.expression_laws.proofs.Assigning.{IsPlace, PlaceParts, place_typed}
use Rattle.expression_laws.proofs.Ending.{Setting, Place, self, there, as_wanted, Known, WantKnown, Is, IsPart, IsTypedPart, part_fits, Tree, Value, has, a_value}
use Rattle.expression_laws.proofs.Heads.{boolean_fine, text_head, text_fine}
use Rattle.expression_laws.proofs.Operands.{IsJudged, arithmetic, equality, ordering}
use Rattle.expression_laws.proofs.Operating.{alike_value, operation_at}
use Rattle.expression_laws.proofs.Simple.{boolean_there, unit_there, unit_known}

module _ (S : Setting) (A : Place S) where
  text_at : Among t.Text S.terms → head_at S.slots (S.number t.Text) ≡ node.Text
  text_at m = there S t.Text m node.Text (text_head S.defs)

  -- a truth value as a literal
  flag_typed : (b : Bool) → Known S A t.Boolean → Typed S.slots (flag S.defs S.number b) A.context (Of (S.number t.Boolean))
  flag_typed b k =
      (a_value S A t.Boolean k (F.Constant (literal.Flag b)) (S.number t.Boolean, refl, (tt, subst (λ y. IsPartOf y (part.Flag b)) (sym (boolean_there S k.there)) tt))).typed (S.number t.Boolean) (self S (S.number t.Boolean))

  concat_value : Known S A t.Text → (x y : TypedExpression) → Typed S.slots x A.context (Of (S.number t.Text)) → Typed S.slots y A.context (Of (S.number t.Text)) → (v : Term) → Value S A t.Text (binary S.defs S.number sign.Concat t.Text v x y)
  concat_value k x y hx hy v = alike_value S A op.Concat t.Text k (S.number t.Text, text_at k.there, refl, refl) x y hx hy

  logical_value : (o : BinaryOperator) → family.Logical ≡ family.family o → Known S A t.Boolean → (x y : TypedExpression) → Typed S.slots x A.context (Of (S.number t.Boolean)) → Typed S.slots y A.context (Of (S.number t.Boolean)) → (v : Term)
      → Value S A t.Boolean (binary S.defs S.number o t.Boolean v x y)
  logical_value sign.Or e k x y hx hy v = a_value S A t.Boolean k (F.If x (flag S.defs S.number true) y) (S.number t.Boolean, S.number t.Boolean, refl, boolean_there S k.there, hx, flag_typed true k, hy)
  logical_value sign.And e k x y hx hy v = a_value S A t.Boolean k (F.If x y (flag S.defs S.number false)) (S.number t.Boolean, S.number t.Boolean, refl, boolean_there S k.there, hx, hy, flag_typed false k)
  logical_value sign.Equal e k x y hx hy v = cc
  logical_value sign.NotEqual e k x y hx hy v = cc
  logical_value sign.Less e k x y hx hy v = cc
  logical_value sign.Greater e k x y hx hy v = cc
  logical_value sign.LessEqual e k x y hx hy v = cc
  logical_value sign.GreaterEqual e k x y hx hy v = cc
  logical_value sign.Add e k x y hx hy v = cc
  logical_value sign.Subtract e k x y hx hy v = cc
  logical_value sign.Concat e k x y hx hy v = cc
  logical_value sign.AddWrap e k x y hx hy v = cc
  logical_value sign.SubtractWrap e k x y hx hy v = cc
  logical_value sign.Multiply e k x y hx hy v = cc
  logical_value sign.Divide e k x y hx hy v = cc
  logical_value sign.Remainder e k x y hx hy v = cc
  logical_value sign.MultiplyWrap e k x y hx hy v = cc
  logical_value sign.Power e k x y hx hy v = cc

  both_fit : (n : ℕ) (w : Option Term) → WantKnown S A w → (u : Term) → IsFine S.defs A.context.parameters u → (o : BinaryOperator) (j k : Judged) → IsJudged S A j → IsJudged S A k
      → (Known S A u → (x y : TypedExpression) → Typed S.slots x A.context (Of (S.number u)) → Typed S.slots y A.context (Of (S.number u)) → (v : Term) → Value S A u (binary S.defs S.number o u v x y))
      → Yields S.defs S.terms (BothFit n w u o j k) (Is S A w)
  both_fit n w kw u fine o j k hj hk make =
      after S.defs S.terms (j (Some u)) _ (IsPart S A (Some u)) (Is S A w) (hj (Some u) fine) (λ a ia.
      after S.defs S.terms (k (Some u)) _ (IsPart S A (Some u)) (Is S A w) (hk (Some u) fine) (λ b ib.
      has S A n w u (p.Binary o a b) (λ z. refl) kw (λ m.
      make (record { there = m; fine = fine }) (Tree S A a) (Tree S A b) (as_wanted S A.known.labels A.frame A.context u a ia) (as_wanted S A.known.labels A.frame A.context u b ib) (type_of a))))

  -- an operator by its family
  by_family : (n : ℕ) (w : Option Term) → WantKnown S A w → (o : BinaryOperator) (f : Family) → f ≡ family.family o → (l m : Option Written) (j k : Judged) → IsJudged S A j → IsJudged S A k
      → Yields S.defs S.terms (Binary S.defs n w f o l m j k) (Is S A w)
  by_family n w kw o family.Arithmetic e l m j k hj hk = arithmetic S A n w kw o family.Arithmetic e l m j k hj hk
  by_family n w kw o family.Wrapping e l m j k hj hk = arithmetic S A n w kw o family.Wrapping e l m j k hj hk
  by_family n w kw o family.Concatenation e l m j k hj hk = concat o e where
    concat : (o : BinaryOperator) → family.Concatenation ≡ family.family o → Yields S.defs S.terms (BothFit n w t.Text o j k) (Is S A w)
    concat sign.Concat e = both_fit n w kw t.Text (text_fine S.defs A.context.parameters) sign.Concat j k hj hk concat_value
    concat sign.Or e = cc
    concat sign.And e = cc
    concat sign.Equal e = cc
    concat sign.NotEqual e = cc
    concat sign.Less e = cc
    concat sign.Greater e = cc
    concat sign.LessEqual e = cc
    concat sign.GreaterEqual e = cc
    concat sign.Add e = cc
    concat sign.Subtract e = cc
    concat sign.AddWrap e = cc
    concat sign.SubtractWrap e = cc
    concat sign.Multiply e = cc
    concat sign.Divide e = cc
    concat sign.Remainder e = cc
    concat sign.MultiplyWrap e = cc
    concat sign.Power e = cc
  by_family n w kw o family.Equality e l m j k hj hk = equality S A n w kw o e l m j k hj hk
  by_family n w kw o family.Ordering e l m j k hj hk = ordering S A n w kw o e l m j k hj hk
  by_family n w kw o family.Logical e l m j k hj hk = both_fit n w kw t.Boolean (boolean_fine S.defs A.context.parameters) o j k hj hk (λ kb x y hx hy v. logical_value o e kb x y hx hy v)

  -- a part as what an operator judges
  operand : (a : Expression ℕ) → IsTypedPart S A a → IsJudged S A (λ v. Judge S.defs (directly Other A.known) a v)
  operand a j v k = j.0 (directly Other A.known) A.frame A.context (part_fits S A a j.1) v k

  pub binary_typed : (n : ℕ) (o : BinaryOperator) (a b : Expression ℕ) → IsTypedPart S A a → IsTypedPart S A b → (w : Option Term) → WantKnown S A w
      → Yields S.defs S.terms (Rule S.defs A.around (directly Other A.known) n (p.Binary o a b) w) (Is S A w)
  binary_typed n o a b ja jb w k =
      by_family n w k o (family.family o) refl (written a) (written b) (λ v. Judge S.defs (directly Other A.known) a v) (λ v. Judge S.defs (directly Other A.known) b v) (operand a ja) (operand b jb)

  -- ---- `p op= e`

  update_value : (o : BinaryOperator) (u : Term) (r : p.Expression Note) → type_of r ≡ u → IsPlace S A r → (v : Term) → Known S A v → Below (head_at S.slots) (S.number u) (S.number v) → Below (head_at S.slots) (S.number v) (S.number u)
      → OperationTyped (head_at S.slots) (operation S.defs S.number o u) (Of (S.number v) ∷ Of (S.number v) ∷ []) (Of (S.number v)) → (x : TypedExpression) → Typed S.slots x A.context (Of (S.number v))
      → Value S A unit (at S.defs S.number unit (F.Update (operation S.defs S.number o (type_of r)) (cell_tree S.defs S.number A.frame r) x))
  update_value o u r e i v kv below above h x hx =
      a_value S A unit (unit_known S A.context.parameters) (F.Update (operation S.defs S.number o (type_of r)) (cell_tree S.defs S.number A.frame r) x) (
        S.number unit,
        S.number (type_of r),
        S.number v,
        Of (S.number v),
        Of (S.number v),
        refl,
        unit_there S,
        subst (λ z. OperationTyped (head_at S.slots) (operation S.defs S.number o z) (Of (S.number v) ∷ Of (S.number v) ∷ []) (Of (S.number v))) (sym e) h,
        i.cell,
        subst (λ z. Below (head_at S.slots) (S.number z) (S.number v)) (sym e) below,
        hx,
        subst (λ z. Below (head_at S.slots) (S.number v) (S.number z)) (sym e) above,
      )

  -- the right side of `op=` at a place of type u
  record IsRight (o : BinaryOperator) (u : Term) (b : p.Expression Note) : Type 0 where
    type : Term
    known : Known S A type
    below : Below (head_at S.slots) (S.number u) (S.number type)
    above : Below (head_at S.slots) (S.number type) (S.number u)
    operates : OperationTyped (head_at S.slots) (operation S.defs S.number o u) (Of (S.number type) ∷ Of (S.number type) ∷ []) (Of (S.number type))
    typed : Typed S.slots (Tree S A b) A.context (Of (S.number type))

  right_number : (n : ℕ) (o : BinaryOperator) (f : Family) → f ≡ family.family o → (u : Term) → Known S A u → (j : Judged) → IsJudged S A j
      → Yields S.defs S.terms (Given condition.BadOperator n (number_with f (head S.defs u)) (λ z. j (Some u))) (IsRight o u)
  right_number n o f e u k j h =
      given S.defs S.terms condition.BadOperator n (number_with f (head S.defs u)) _ (IsRight o u) (λ z g.
      more S.defs S.terms (j (Some u)) (IsPart S A (Some u)) (IsRight o u) (h (Some u) k.fine) (λ b i. record {
        type = u;
        known = k;
        below = self S (S.number u);
        above = self S (S.number u);
        operates = operation_at S A o u k.there (z, subst (λ y. number_with y (head S.defs u) ≡ Some z) e g);
        typed = as_wanted S A.known.labels A.frame A.context u b i;
      }))

  right_side : (n : ℕ) (o : BinaryOperator) (f : Family) → f ≡ family.family o → (u : Term) → Known S A u → (j : Judged) → IsJudged S A j → Yields S.defs S.terms (Operand S.defs n f u j) (IsRight o u)
  right_side n o family.Arithmetic e u k j h = right_number n o family.Arithmetic e u k j h
  right_side n o family.Wrapping e u k j h = right_number n o family.Wrapping e u k j h
  right_side n o family.Equality e u k j h = right_number n o family.Equality e u k j h
  right_side n o family.Ordering e u k j h = right_number n o family.Ordering e u k j h
  right_side n o family.Logical e u k j h = right_number n o family.Logical e u k j h
  right_side n o family.Concatenation e u k j h = concat o e where
    concat : (o : BinaryOperator) → family.Concatenation ≡ family.family o → Yields S.defs S.terms (Operand S.defs n family.Concatenation u j) (IsRight o u)
    concat sign.Concat e = λ m. (
      λ below. (
        λ above.
            more S.defs S.terms (j (Some t.Text)) (IsPart S A (Some t.Text)) (IsRight sign.Concat u) (h (Some t.Text) (text_fine S.defs A.context.parameters)) (λ b i. record {
              type = t.Text;
              known = record { there = m; fine = text_fine S.defs A.context.parameters };
              below = below_number S.defs S.slots S.terms S.number S.graph u t.Text k.there m below;
              above = below_number S.defs S.slots S.terms S.number S.graph t.Text u m k.there above;
              operates = (S.number t.Text, text_at m, refl, refl);
              typed = as_wanted S A.known.labels A.frame A.context t.Text b i;
            }),
        λ no. tt,
      ),
      λ no. tt,
    )
    concat sign.Or e = cc
    concat sign.And e = cc
    concat sign.Equal e = cc
    concat sign.NotEqual e = cc
    concat sign.Less e = cc
    concat sign.Greater e = cc
    concat sign.LessEqual e = cc
    concat sign.GreaterEqual e = cc
    concat sign.Add e = cc
    concat sign.Subtract e = cc
    concat sign.AddWrap e = cc
    concat sign.SubtractWrap e = cc
    concat sign.Multiply e = cc
    concat sign.Divide e = cc
    concat sign.Remainder e = cc
    concat sign.MultiplyWrap e = cc
    concat sign.Power e = cc

  pub assign_by_typed : (n m : ℕ) (o : BinaryOperator) (x : p.Form ℕ) (a : Expression ℕ) → PlaceParts S A x → IsTypedPart S A a → (w : Option Term) → WantKnown S A w
      → Yields S.defs S.terms (Rule S.defs A.around (directly Other A.known) n (p.AssignBy o (p.exp m x) a) w) (Is S A w)
  assign_by_typed n m o x a jx ja w k =
      after S.defs S.terms (JudgePlace S.defs (directly Other A.known) (p.exp m x)) _ (IsPlace S A) (Is S A w) (place_typed S A m x jx) (λ r i.
      after S.defs S.terms (Operand S.defs n (family.family o) (type_of r) (λ v. Judge S.defs (directly Other A.known) a v)) _ (IsRight o (type_of r)) (Is S A w) (right_side n o (family.family o) refl (type_of r) i.known (λ v. Judge S.defs (directly Other A.known) a v) (operand a ja)) (λ b h.
      has S A n w unit (p.AssignBy o r b) (λ l. refl) k (λ m'. update_value o (type_of r) r refl i h.type h.known h.below h.above h.operates (Tree S A b) h.typed)))
