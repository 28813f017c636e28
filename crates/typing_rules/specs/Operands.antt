-- The rules of operators (Motoko language manual, sections "Unary operators", "Binary operators", "Relational operators", "Equality" and "Assignment").
use Rattle.std.specs.Prelude.{ℕ, [], ◌∷◌, Option, Some, None}
use Rattle.mo_syntax.specs.declared.operators.BinaryOperator.{BinaryOperator}
use Rattle.typing_rules.specs.declared.condition.Condition.TheVariants as condition
use Rattle.typing_rules.specs.AbstractSyntax as p
use Rattle.typing_rules.specs.Terms.{Term}
use Rattle.typing_rules.specs.Terms as t
use Rattle.typing_rules.specs.Definitions.{Definitions}
use Rattle.typing_rules.specs.Heads.{head}
use Rattle.typing_rules.specs.Judgements.{Judgement, Gives, Meets, Part, If, Case, Given, Tests, Needs, AsksEither, IsBelow, IsComparable}
use Rattle.typing_rules.specs.TypedTrees.{Typed, Judged, typed, type_of, subsumed}
use Rattle.typing_rules.specs.Ends.{wanted, Has, Greatest}
use Rattle.typing_rules.specs.Literals.{Written, own_type, has_own, may_have}
use Rattle.typing_rules.specs.Operators.{Family, number_with, negated_of, signed_of, is_ordered}
use Rattle.typing_rules.specs.Operators as o

-- both operands fit one type, which is given
abbrev pub BothFit : ℕ → Option Term → Term → BinaryOperator → Judged → Judged → Judgement Typed
BothFit at w u op j k = Part (j (Some u)) (λ a. Part (k (Some u)) (λ b. Has at w u (p.Binary op a b)))

module _ (defs : Definitions) where
  -- `-e`: Nat or Int gives Int, and a signed type with a width itself; fits a signed type where e fits it
  abbrev pub Negative : ℕ → Option Term → Judged → Judgement Typed
  Negative at w j =
      Case (wanted defs signed_of w)
      (λ q. Part (j w) (λ a. Gives (typed at q.0 (p.Negative a))))
      (λ _. Part (j None) (λ a. Given condition.BadOperator at (negated_of (head defs (type_of a))) (λ k. Has at w (t.Number k) (p.Negative a))))

  -- an operand that is a literal, with the other's type u
  abbrev pub OtherOperand : ℕ → Written → Judged → Term → Judgement Typed
  OtherOperand at l j u = Tests condition.BadOperator at (may_have l (head defs u)) (j (Some u))

  -- An operand that is a literal, beside one of type u: it has its own type where that and u have a greatest, and else it may have u.
  abbrev pub LiteralOperand : ℕ → Written → Judged → Term → Judgement Typed
  LiteralOperand at l j u =
      If (has_own l)
      (λ _. Meets (own_type l) (AsksEither (IsBelow (own_type l) u) (IsBelow u (own_type l)) (λ yes. If yes (λ _. j None) (λ _. OtherOperand at l j u))))
      (λ _. OtherOperand at l j u)

  -- the greatest of both types
  abbrev pub GreatestOf : ℕ → Typed → Typed → Judgement (Term × Typed × Typed)
  GreatestOf at a b = Part (Greatest condition.BadOperator at (type_of a ∷ type_of b ∷ [])) (λ u. Gives (u, a, b))

  -- Both operands, where an operand that is a literal may have the other's type.
  abbrev pub Operands : ℕ → Option Written → Option Written → Judged → Judged → Judgement (Term × Typed × Typed)
  Operands at (Some l) other j k = Part (k None) (λ b. Part (LiteralOperand at l j (type_of b)) (λ a. GreatestOf at a b))
  Operands at None (Some l) j k = Part (j None) (λ a. Part (LiteralOperand at l k (type_of a)) (λ b. GreatestOf at a b))
  Operands at None None j k = Part (j None) (λ a. Part (k None) (λ b. GreatestOf at a b))

  -- Arithmetic fits a number type that has the operator where both operands fit it. It gives the greatest of both types, a number type that has it.
  abbrev pub Arithmetic : ℕ → Option Term → Family → BinaryOperator → Option Written → Option Written → Judged → Judged → Judgement Typed
  Arithmetic at w f op l m j k =
      Case (wanted defs (number_with f) w)
      (λ q. Part (j w) (λ a. Part (k w) (λ b. Gives (typed at q.0 (p.Binary op a b)))))
      (λ _. Part (Operands at l m j k) (λ q. Given condition.BadOperator at (number_with f (head defs q.0)) (λ _. Has at w q.0 (p.Binary op q.1 q.2))))

  -- `==` and `!=` on types whose values can be compared. Both operands are at the greatest type.
  abbrev pub Equality : ℕ → Option Term → BinaryOperator → Option Written → Option Written → Judged → Judged → Judgement Typed
  Equality at w op l m j k =
      Part (Operands at l m j k) (λ q. Needs condition.BadOperator at (IsComparable q.0) (Has at w t.Boolean (p.Binary op (subsumed q.0 q.1) (subsumed q.0 q.2))))

  -- the other comparisons on types with an order
  abbrev pub Ordering : ℕ → Option Term → BinaryOperator → Option Written → Option Written → Judged → Judged → Judgement Typed
  Ordering at w op l m j k =
      Part (Operands at l m j k) (λ q. Tests condition.BadOperator at (is_ordered (head defs q.0)) (Has at w t.Boolean (p.Binary op (subsumed q.0 q.1) (subsumed q.0 q.2))))

  abbrev pub Binary : ℕ → Option Term → Family → BinaryOperator → Option Written → Option Written → Judged → Judged → Judgement Typed
  Binary at w o.Arithmetic op l m j k = Arithmetic at w o.Arithmetic op l m j k
  Binary at w o.Wrapping op l m j k = Arithmetic at w o.Wrapping op l m j k
  Binary at w o.Concatenation op l m j k = BothFit at w t.Text op j k
  Binary at w o.Equality op l m j k = Equality at w op l m j k
  Binary at w o.Ordering op l m j k = Ordering at w op l m j k
  Binary at w o.Logical op l m j k = BothFit at w t.Boolean op j k

  -- the right side of `p op= e`, where p has the type u: `p op e` fits it
  abbrev pub Operand : ℕ → Family → Term → Judged → Judgement Typed
  Operand at o.Concatenation u j = Meets t.Text (Needs condition.Mismatch at (IsBelow u t.Text) (Needs condition.Mismatch at (IsBelow t.Text u) (j (Some t.Text))))
  Operand at f u j = Given condition.BadOperator at (number_with f (head defs u)) (λ _. j (Some u))
