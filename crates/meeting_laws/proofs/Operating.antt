-- Literals and operators.
use Rattle.std.proofs.Common.{◌≡◌, ℕ, ℤ, [], ◌∷◌, Option, Some, None, refl, sym, subst}
use Rattle.std.specs.Prelude.{pos}
use Rattle.std.specs.Str.{is_utf8}
use Rattle.mo_num.specs.declared.kind.Kind.{Kind}
use Rattle.mo_num.specs.declared.kind.Kind.TheVariants as kind
use Rattle.mo_syntax.specs.declared.operators.BinaryOperator.{BinaryOperator}
use Rattle.mo_types.specs.declared.node.Node.{Node}
use Rattle.mo_types.specs.Heads.{number_of}
use Rattle.mo_values.specs.Parts.{is_in_range}
use Rattle.typing_rules.specs.declared.condition.Condition.TheVariants as condition
use Rattle.typing_rules.specs.AbstractSyntax.{Literal, Expression, Form}
use Rattle.typing_rules.specs.AbstractSyntax as p
use Rattle.typing_rules.specs.AsyncPlaces.{Around, Other}
use Rattle.typing_rules.specs.Definitions.{Definitions}
use Rattle.typing_rules.specs.Ends.{wanted, Greatest}
use Rattle.typing_rules.specs.Gathered.{nothing, both, in_expression}
use Rattle.typing_rules.specs.Heads.{head}
use Rattle.typing_rules.specs.Judgements.{Judgement, Gives, Meets, If, AsksEither, IsBelow}
use Rattle.typing_rules.specs.Literals.{blob_of, Number, Constant, plain_number, Written, WrittenNumber, WrittenText, own_type, has_own, may_have}
use Rattle.typing_rules.specs.Operands.{BothFit, Negative, OtherOperand, LiteralOperand, GreatestOf, Operands, Arithmetic, Equality, Ordering, Binary, Operand}
use Rattle.typing_rules.specs.Operators.{Family, number_with, negated_of, signed_of, is_ordered}
use Rattle.typing_rules.specs.Operators as f
use Rattle.typing_rules.specs.Terms.{Term}
use Rattle.typing_rules.specs.Terms as t
use Rattle.typing_rules.specs.TypedTrees.{Note, Typed, Judged, typed, type_of, subsumed}
use Rattle.typing_rules.specs.TypeScopes.{TypeScope}
use Rattle.proper_laws.specs.Proper.{IsProper, ArePartsProper}
use Rattle.proper_laws.proofs.Meeting.{given, tests, if_so, by_case, asks_either}
use Rattle.meeting_laws.proofs.Basics.{Known, Plain, Meeting, IsWanted, Fits, after, no_parts, both_parts, known, placed, has_plain, greatest, wanted_is}

module _ (defs : Definitions) (o : Around) where
  -- ---- literals

  -- the type that is wanted
  pub as_wanted : {X : Type 0} (of : Node Term → Option X) (w : Option Term) (q : Term × X) (part : Definitions) (b : Typed) → type_of b ≡ q.0 → IsWanted defs w → wanted defs of w ≡ Some q → ArePartsProper defs part → Fits defs o part b
  as_wanted of w q part b e h g d = (d, λ z. placed defs o (type_of b) (subst (λ u. IsProper defs u) (sym e) ((wanted_is defs of w q h g).0 z)))

  pub number : (part : Definitions) (at : ℕ) (w : Option Term) (k : Kind) (n : ℤ) (x : Form Note) → IsWanted defs w → ArePartsProper defs part → Meeting defs (Number defs at w k n x) (Fits defs o part)
  number part at w k n x h d =
      by_case defs (Known defs) (wanted defs number_of w) _ _ (Fits defs o part)
      (λ q e. tests defs (Known defs) condition.LiteralRange at (is_in_range q.1 n) _ (Fits defs o part) (λ g. as_wanted number_of w q part (typed at q.0 x) refl h e d))
      (λ e. tests defs (Known defs) condition.LiteralRange at (is_in_range k n) _ (Fits defs o part) (λ g. has_plain defs o part at w (t.Number k) x (λ z. tt) d))

  pub constant : (at : ℕ) (w : Option Term) (l : Literal) → IsWanted defs w → Meeting defs (Constant defs at w l) (Fits defs o nothing)
  constant at w (p.Number n) h = number nothing at w kind.Nat (pos n) (p.Constant (p.Number n)) h (no_parts defs)
  constant at w (p.Character c) h = has_plain defs o nothing at w t.Character (p.Constant (p.Character c)) (λ z. tt) (no_parts defs)
  constant at w (p.Text x) h =
      by_case defs (Known defs) (wanted defs blob_of w) _ _ (Fits defs o nothing)
      (λ q e. as_wanted blob_of w q nothing (typed at q.0 (p.Constant (p.Text x))) refl h e (no_parts defs))
      (λ e. tests defs (Known defs) condition.Mismatch at (is_utf8 x) _ (Fits defs o nothing) (λ g. has_plain defs o nothing at w t.Text (p.Constant (p.Text x)) (λ z. tt) (no_parts defs)))
  constant at w p.True h = has_plain defs o nothing at w t.Boolean (p.Constant p.True) (λ z. tt) (no_parts defs)
  constant at w p.False h = has_plain defs o nothing at w t.Boolean (p.Constant p.False) (λ z. tt) (no_parts defs)
  constant at w p.Null h = has_plain defs o nothing at w t.Null (p.Constant p.Null) (λ z. tt) (no_parts defs)

module _ (defs : Definitions) where
  -- a number has no definitions
  pub plain_parts : (s : TypeScope) (a : Expression ℕ) (n : ℕ) → plain_number a ≡ Some n → ArePartsProper defs (in_expression s a)
  plain_parts s (p.exp at (p.Constant (p.Number k))) n e = no_parts defs
  plain_parts s (p.exp at (p.Name x)) n e = cc
  plain_parts s (p.exp at f) n e = cc

  -- ---- operands

  abbrev pub IsOperand : Definitions → Judged → Type 0
  IsOperand part j = (w : Option Term) → IsWanted defs w → Meeting defs (j w) (Fits defs Other part)

  module _ (P Q : Definitions) (j k : Judged) (left : IsOperand P j) (right : IsOperand Q k) where
    pub both_fit : (o : Around) (at : ℕ) (w : Option Term) (u : Term) (op : BinaryOperator) → Plain defs u → Meeting defs (BothFit at w u op j k) (Fits defs o (both P Q))
    both_fit o at w u op h =
        after defs (j (Some u)) _ _ (Fits defs o (both P Q)) (left (Some u) h) (λ a m.
        after defs (k (Some u)) _ _ (Fits defs o (both P Q)) (right (Some u) h) (λ b n.
        has_plain defs o (both P Q) at w u (p.Binary op a b) h (both_parts defs P Q m.0 n.0)))

  module _ (P : Definitions) (j : Judged) (operand : IsOperand P j) where
    pub negative : (o : Around) (at : ℕ) (w : Option Term) → IsWanted defs w → Meeting defs (Negative defs at w j) (Fits defs o P)
    negative o at w h =
        by_case defs (Known defs) (wanted defs signed_of w) _ _ (Fits defs o P)
        (λ q e. after defs (j w) _ _ (Fits defs o P) (operand w h) (λ a m. as_wanted defs o signed_of w q P (typed at q.0 (p.Negative a)) refl h e m.0))
        (λ e. after defs (j None) _ _ (Fits defs o P) (operand None tt) (λ a m.
        given defs (Known defs) condition.BadOperator at (negated_of (head defs (type_of a))) _ (Fits defs o P) (λ k g. has_plain defs o P at w (t.Number k) (p.Negative a) (λ z. tt) m.0)))

    other_operand : (at : ℕ) (l : Written) (u : Term) → Plain defs u → Meeting defs (OtherOperand defs at l j u) (Fits defs Other P)
    other_operand at l u h = tests defs (Known defs) condition.BadOperator at (may_have l (head defs u)) (j (Some u)) (Fits defs Other P) (λ e. operand (Some u) h)

    own_plain : (l : Written) → IsProper defs (own_type l)
    own_plain (WrittenNumber k n) = tt
    own_plain (WrittenText x) = tt

    literal_operand : (at : ℕ) (l : Written) (u : Term) → Plain defs u → Meeting defs (LiteralOperand defs at l j u) (Fits defs Other P)
    literal_operand at l u h =
        if_so defs (Known defs) (has_own l) (λ x. Meets (own_type l) (asked x)) (λ x. OtherOperand defs at l j u) (Fits defs Other P)
        (λ e. (
          known defs (own_type l) (λ w. own_plain l),
          asks_either defs (Known defs) (IsBelow (own_type l) u) (IsBelow u (own_type l)) (λ yes. If yes (λ x. j None) (λ x. OtherOperand defs at l j u)) (Fits defs Other P) (λ b.
              if_so defs (Known defs) b (λ x. j None) (λ x. OtherOperand defs at l j u) (Fits defs Other P) (λ f. operand None tt) (λ f. other_operand at l u h)),
        ))
        (λ e. other_operand at l u h)
      where
        asked : Unit {0} → Judgement Typed
        asked x = AsksEither (IsBelow (own_type l) u) (IsBelow u (own_type l)) (λ yes. If yes (λ x. j None) (λ x. OtherOperand defs at l j u))

    -- the right side of an assignment by an operator
    pub operand_of : (at : ℕ) (f : Family) (u : Term) → Plain defs u → Meeting defs (Operand defs at f u j) (Fits defs Other P)
    operand_of at f.Concatenation u h = (λ z. tt, (λ e. (λ g. operand (Some t.Text) (λ z. tt), tt), tt))
    operand_of at f.Arithmetic u h = given defs (Known defs) condition.BadOperator at (number_with f.Arithmetic (head defs u)) _ (Fits defs Other P) (λ k e. operand (Some u) h)
    operand_of at f.Wrapping u h = given defs (Known defs) condition.BadOperator at (number_with f.Wrapping (head defs u)) _ (Fits defs Other P) (λ k e. operand (Some u) h)
    operand_of at f.Equality u h = given defs (Known defs) condition.BadOperator at (number_with f.Equality (head defs u)) _ (Fits defs Other P) (λ k e. operand (Some u) h)
    operand_of at f.Ordering u h = given defs (Known defs) condition.BadOperator at (number_with f.Ordering (head defs u)) _ (Fits defs Other P) (λ k e. operand (Some u) h)
    operand_of at f.Logical u h = given defs (Known defs) condition.BadOperator at (number_with f.Logical (head defs u)) _ (Fits defs Other P) (λ k e. operand (Some u) h)

  module _ (P Q : Definitions) (j k : Judged) (left : IsOperand P j) (right : IsOperand Q k) where
    -- both are judged, and this type is one of theirs
    abbrev AreOperands : Term × Typed × Typed → Type 0
    AreOperands q = ArePartsProper defs (both P Q) × Plain defs q.0

    greatest_of : (at : ℕ) (a b : Typed) → Fits defs Other P a → Fits defs Other Q b → Meeting defs (GreatestOf defs at a b) AreOperands
    greatest_of at a b h i =
        after defs (Greatest condition.BadOperator at (type_of a ∷ type_of b ∷ [])) (λ u. Gives (u, a, b)) (Plain defs) AreOperands (greatest defs condition.BadOperator at (type_of a ∷ type_of b ∷ []) (Plain defs) (h.1, (i.1, tt))) (λ u m.
        (both_parts defs P Q h.0 i.0, m))

    operands : (at : ℕ) (l m : Option Written) → Meeting defs (Operands defs at l m j k) AreOperands
    operands at (Some l) m =
        after defs (k None) _ _ AreOperands (right None tt) (λ b h.
        after defs (LiteralOperand defs at l j (type_of b)) _ _ AreOperands (literal_operand P j left at l (type_of b) h.1) (λ a i. greatest_of at a b i h))
    operands at None (Some l) =
        after defs (j None) _ _ AreOperands (left None tt) (λ a h.
        after defs (LiteralOperand defs at l k (type_of a)) _ _ AreOperands (literal_operand Q k right at l (type_of a) h.1) (λ b i. greatest_of at a b h i))
    operands at None None = after defs (j None) _ _ AreOperands (left None tt) (λ a h. after defs (k None) _ _ AreOperands (right None tt) (λ b i. greatest_of at a b h i))

    arithmetic : (o : Around) (at : ℕ) (w : Option Term) (f : Family) (op : BinaryOperator) (l m : Option Written) → IsWanted defs w → Meeting defs (Arithmetic defs at w f op l m j k) (Fits defs o (both P Q))
    arithmetic o at w f op l m h =
        by_case defs (Known defs) (wanted defs (number_with f) w) _ _ (Fits defs o (both P Q))
        (λ q e. after defs (j w) _ _ (Fits defs o (both P Q)) (left w h) (λ a i. after defs (k w) _ _ (Fits defs o (both P Q)) (right w h) (λ b n.
        as_wanted defs o (number_with f) w q (both P Q) (typed at q.0 (p.Binary op a b)) refl h e (both_parts defs P Q i.0 n.0))))
        (λ e. after defs (Operands defs at l m j k) _ _ (Fits defs o (both P Q)) (operands at l m) (λ q i.
        given defs (Known defs) condition.BadOperator at (number_with f (head defs q.0)) _ (Fits defs o (both P Q)) (λ x g. has_plain defs o (both P Q) at w q.0 (p.Binary op q.1 q.2) i.1 i.0)))

    equality : (o : Around) (at : ℕ) (w : Option Term) (op : BinaryOperator) (l m : Option Written) → Meeting defs (Equality defs at w op l m j k) (Fits defs o (both P Q))
    equality o at w op l m =
        after defs (Operands defs at l m j k) _ _ (Fits defs o (both P Q)) (operands at l m) (λ q i. (
          λ e.
              has_plain defs o (both P Q) at w t.Boolean (p.Binary op (subsumed q.0 q.1) (subsumed q.0 q.2)) (λ z. tt) i.0,
          tt,
        ))

    ordering : (o : Around) (at : ℕ) (w : Option Term) (op : BinaryOperator) (l m : Option Written) → Meeting defs (Ordering defs at w op l m j k) (Fits defs o (both P Q))
    ordering o at w op l m =
        after defs (Operands defs at l m j k) _ _ (Fits defs o (both P Q)) (operands at l m) (λ q i.
        tests defs (Known defs) condition.BadOperator at (is_ordered (head defs q.0)) _ (Fits defs o (both P Q)) (λ e.
        has_plain defs o (both P Q) at w t.Boolean (p.Binary op (subsumed q.0 q.1) (subsumed q.0 q.2)) (λ z. tt) i.0))

    pub binary : (o : Around) (at : ℕ) (w : Option Term) (f : Family) (op : BinaryOperator) (l m : Option Written) → IsWanted defs w → Meeting defs (Binary defs at w f op l m j k) (Fits defs o (both P Q))
    binary o at w f.Arithmetic op l m h = arithmetic o at w f.Arithmetic op l m h
    binary o at w f.Wrapping op l m h = arithmetic o at w f.Wrapping op l m h
    binary o at w f.Concatenation op l m h = both_fit P Q j k left right o at w t.Text op (λ z. tt)
    binary o at w f.Equality op l m h = equality o at w op l m
    binary o at w f.Ordering op l m h = ordering o at w op l m
    binary o at w f.Logical op l m h = both_fit P Q j k left right o at w t.Boolean op (λ z. tt)
