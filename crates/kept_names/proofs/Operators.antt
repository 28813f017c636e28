-- The names of operands.
use Rattle.std.proofs.Common.{ℕ, List, [], ◌∷◌, ◌++◌, Option, Some, None}
use Rattle.mo_syntax.specs.declared.operators.BinaryOperator.{BinaryOperator}
use Rattle.typing_rules.specs.declared.condition.Condition.TheVariants as condition
use Rattle.typing_rules.specs.AbstractSyntax.{Bytes, Expression}
use Rattle.typing_rules.specs.AbstractSyntax as p
use Rattle.typing_rules.specs.Contexts.{Scope}
use Rattle.typing_rules.specs.Definitions.{Definitions}
use Rattle.typing_rules.specs.Ends.{wanted, Greatest}
use Rattle.typing_rules.specs.Heads.{head}
use Rattle.typing_rules.specs.Judgements.{Judgement, Gives}
use Rattle.typing_rules.specs.Literals.{Written, has_own, may_have}
use Rattle.typing_rules.specs.Operands.{BothFit, Negative, OtherOperand, LiteralOperand, GreatestOf, Operands, Arithmetic, Equality, Ordering, Binary, Operand}
use Rattle.typing_rules.specs.Operators.{Family, number_with, negated_of, signed_of, is_ordered}
use Rattle.typing_rules.specs.Operators as o
use Rattle.typing_rules.specs.Terms.{Term}
use Rattle.typing_rules.specs.Terms as t
use Rattle.typing_rules.specs.TypedTrees.{Typed, Judged, typed, type_of, subsumed}
use Rattle.desugaring.specs.FreeNames.{occurring}
use Rattle.desugaring_laws.specs.Yields.{Yields}
use Rattle.desugaring_laws.proofs.Yielding.{anything, given, tests, if_so, by_case, part as after}
use Rattle.kept_names.specs.Plain.{IsPlain}
use Rattle.kept_names.specs.Keeping.{Keeps}
use Rattle.kept_names.proofs.Ends.{has}
use Rattle.kept_names.proofs.Names.{two}

-- the names of an expression are kept in one that is given
abbrev pub Kept : Scope → Expression ℕ → Typed → Type 0
Kept s a b = Keeps s (IsPlain a) (occurring a) (occurring b)

subsumed_kept : (s : Scope) (P : Type 0) (xs : List Bytes) (u : Term) (b : Typed) → Keeps s P xs (occurring b) → Keeps s P xs (occurring (subsumed u b))
subsumed_kept s P xs u (p.exp n f) k = k

module _ (defs : Definitions) (terms : List Term) (s : Scope) (at : ℕ) where
  pub negative_kept : (x : Expression ℕ) (w : Option Term) (j : Judged) → ((v : Option Term) → Yields defs terms (j v) (Kept s x)) → Yields defs terms (Negative defs at w j) (Kept s (p.exp at (p.Negative x)))
  negative_kept x w j y =
      let P = Kept s (p.exp at (p.Negative x)) in
      by_case defs terms (wanted defs signed_of w) _ _ P (λ q e. after defs terms (j w) _ (Kept s x) P (y w) (λ a i. i)) (λ e.
      after defs terms (j None) _ (Kept s x) P (y None) (λ a i.
      given defs terms _ _ (negated_of (head defs (type_of a))) _ P (λ k e. has defs terms P at w (t.Number k) (p.Negative a) i)))

  pub operand_kept : (x : Expression ℕ) (f : Family) (u : Term) (j : Judged) → ((v : Option Term) → Yields defs terms (j v) (Kept s x)) → Yields defs terms (Operand defs at f u j) (Kept s x)
  operand_kept x o.Arithmetic u j y = given defs terms _ _ (number_with o.Arithmetic (head defs u)) _ (Kept s x) (λ k e. y (Some u))
  operand_kept x o.Wrapping u j y = given defs terms _ _ (number_with o.Wrapping (head defs u)) _ (Kept s x) (λ k e. y (Some u))
  operand_kept x o.Concatenation u j y = λ m. (λ below. (λ above. y (Some t.Text), λ no. tt), λ no. tt)
  operand_kept x o.Equality u j y = given defs terms _ _ (number_with o.Equality (head defs u)) _ (Kept s x) (λ k e. y (Some u))
  operand_kept x o.Ordering u j y = given defs terms _ _ (number_with o.Ordering (head defs u)) _ (Kept s x) (λ k e. y (Some u))
  operand_kept x o.Logical u j y = given defs terms _ _ (number_with o.Logical (head defs u)) _ (Kept s x) (λ k e. y (Some u))

  literal_kept : (x : Expression ℕ) (l : Written) (j : Judged) (u : Term) → ((v : Option Term) → Yields defs terms (j v) (Kept s x)) → Yields defs terms (LiteralOperand defs at l j u) (Kept s x)
  literal_kept x l j u y =
      if_so defs terms (has_own l) _ _ (Kept s x) (λ e. λ m. ((λ below. y None), (λ no. ((λ above. y None), (λ not. other))))) (λ e. other) where
        other : Yields defs terms (OtherOperand defs at l j u) (Kept s x)
        other = tests defs terms _ _ (may_have l (head defs u)) _ (Kept s x) (λ i. y (Some u))

  module _ (x z : Expression ℕ) (op : BinaryOperator) (j k : Judged) (y : (v : Option Term) → Yields defs terms (j v) (Kept s x)) (yy : (v : Option Term) → Yields defs terms (k v) (Kept s z)) where
    abbrev Both : Term × Typed × Typed → Type 0
    Both q = Kept s x q.1 × Kept s z q.2

    abbrev P : Typed → Type 0
    P = Kept s (p.exp at (p.Binary op x z))

    pair : (a b : Typed) → Kept s x a → Kept s z b → Keeps s (IsPlain x × IsPlain z) (occurring x ++ occurring z) (occurring a ++ occurring b)
    pair a b i l = two s (IsPlain x) (IsPlain z) (occurring x) (occurring a) (occurring z) (occurring b) i l

    greatest : (a b : Typed) → Kept s x a → Kept s z b → Yields defs terms (GreatestOf defs at a b) Both
    greatest a b i l =
        let next : Term → Judgement (Term × Typed × Typed) = λ u. Gives (u, a, b) in
        after defs terms (Greatest condition.BadOperator at (type_of a ∷ type_of b ∷ [])) next (λ u. Unit {0}) Both (anything defs terms (Greatest condition.BadOperator at (type_of a ∷ type_of b ∷ []))) (λ u n. (i, l))

    operands : (l m : Option Written) → Yields defs terms (Operands defs at l m j k) Both
    operands (Some l) m =
        after defs terms (k None) _ (Kept s z) Both (yy None) (λ b i.
        after defs terms (LiteralOperand defs at l j (type_of b)) _ (Kept s x) Both (literal_kept x l j (type_of b) y) (λ a h. greatest a b h i))
    operands None (Some l) =
        after defs terms (j None) _ (Kept s x) Both (y None) (λ a i.
        after defs terms (LiteralOperand defs at l k (type_of a)) _ (Kept s z) Both (literal_kept z l k (type_of a) yy) (λ b h. greatest a b i h))
    operands None None = after defs terms (j None) _ (Kept s x) Both (y None) (λ a i. after defs terms (k None) _ (Kept s z) Both (yy None) (λ b h. greatest a b i h))

    arithmetic : (w : Option Term) (f : Family) (l m : Option Written) → Yields defs terms (Arithmetic defs at w f op l m j k) P
    arithmetic w f l m =
        by_case defs terms (wanted defs (number_with f) w) _ _ P
        (λ q e. after defs terms (j w) _ (Kept s x) P (y w) (λ a i. after defs terms (k w) _ (Kept s z) P (yy w) (λ b h. pair a b i h)))
        (λ e. after defs terms (Operands defs at l m j k) _ Both P (operands l m) (λ q i.
        given defs terms _ _ (number_with f (head defs q.0)) _ P (λ n e. has defs terms P at w q.0 (p.Binary op q.1 q.2) (pair q.1 q.2 i.0 i.1))))

    both_fit : (w : Option Term) (u : Term) → Yields defs terms (BothFit at w u op j k) P
    both_fit w u =
        after defs terms (j (Some u)) _ (Kept s x) P (y (Some u)) (λ a i. after defs terms (k (Some u)) _ (Kept s z) P (yy (Some u)) (λ b h. has defs terms P at w u (p.Binary op a b) (pair a b i h)))

    compared : (w : Option Term) (q : Term × Typed × Typed) → Both q → P (typed at t.Boolean (p.Binary op (subsumed q.0 q.1) (subsumed q.0 q.2)))
    compared w q i =
        pair (subsumed q.0 q.1) (subsumed q.0 q.2) (subsumed_kept s (IsPlain x) (occurring x) q.0 q.1 i.0) (subsumed_kept s (IsPlain z) (occurring z) q.0 q.2 i.1)

    pub binary_kept : (w : Option Term) (f : Family) (l m : Option Written) → Yields defs terms (Binary defs at w f op l m j k) P
    binary_kept w o.Arithmetic l m = arithmetic w o.Arithmetic l m
    binary_kept w o.Wrapping l m = arithmetic w o.Wrapping l m
    binary_kept w o.Concatenation l m = both_fit w t.Text
    binary_kept w o.Equality l m =
        after defs terms (Operands defs at l m j k) _ Both P (operands l m) (λ q i.
        ((λ yes. has defs terms P at w t.Boolean (p.Binary op (subsumed q.0 q.1) (subsumed q.0 q.2)) (compared w q i)), (λ no. tt)))
    binary_kept w o.Ordering l m =
        after defs terms (Operands defs at l m j k) _ Both P (operands l m) (λ q i.
        tests defs terms _ _ (is_ordered (head defs q.0)) _ P (λ e. has defs terms P at w t.Boolean (p.Binary op (subsumed q.0 q.1) (subsumed q.0 q.2)) (compared w q i)))
    binary_kept w o.Logical l m = both_fit w t.Boolean
