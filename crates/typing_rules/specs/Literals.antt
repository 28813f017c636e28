-- The rules of literals (Motoko language manual, sections "Literals", "Numeric types" and "Text").
use Rattle.std.specs.Prelude.{ℕ, ℤ, pos, neg_ℤ, Bool, true, false, Option, Some, None, option_map}
use Rattle.std.specs.Str.{is_utf8}
use Rattle.mo_num.specs.declared.kind.Kind.{Kind}
use Rattle.mo_num.specs.declared.kind.Kind.TheVariants as kind
use Rattle.mo_types.specs.declared.node.Node.{Node}
use Rattle.mo_types.specs.declared.node.Node.TheVariants as node
use Rattle.mo_types.specs.Heads.{number_of}
use Rattle.mo_values.specs.Parts.{is_in_range}
use Rattle.typing_rules.specs.declared.condition.Condition.TheVariants as condition
use Rattle.typing_rules.specs.AbstractSyntax.{Bytes, Literal, Expression, Form}
use Rattle.typing_rules.specs.AbstractSyntax as p
use Rattle.typing_rules.specs.Terms.{Term}
use Rattle.typing_rules.specs.Terms as t
use Rattle.typing_rules.specs.Definitions.{Definitions}
use Rattle.typing_rules.specs.Judgements.{Judgement, Gives, Case, Tests}
use Rattle.typing_rules.specs.TypedTrees.{Note, Typed, typed}
use Rattle.typing_rules.specs.Ends.{wanted, Has}

abbrev pub blob_of : Node Term → Option (Unit {0})
blob_of node.Blob = Some tt
blob_of _ = None

module _ (defs : Definitions) where
  -- A number gives Nat, or Int if it has a sign; it fits each number type that holds it.
  abbrev pub Number : ℕ → Option Term → Kind → ℤ → Form Note → Judgement Typed
  Number at w k n f =
      Case (wanted defs number_of w)
      (λ q. Tests condition.LiteralRange at (is_in_range q.1 n) (Gives (typed at q.0 f)))
      (λ _. Tests condition.LiteralRange at (is_in_range k n) (Has at w (t.Number k) f))

  -- Characters, texts, truth values and `null` have types of their own. A text fits Blob too; as Text its bytes are UTF-8.
  abbrev pub Constant : ℕ → Option Term → Literal → Judgement Typed
  Constant at w (p.Number n) = Number at w kind.Nat (pos n) (p.Constant (p.Number n))
  Constant at w (p.Character c) = Has at w t.Character (p.Constant (p.Character c))
  Constant at w (p.Text x) =
      Case (wanted defs blob_of w)
      (λ q. Gives (typed at q.0 (p.Constant (p.Text x))))
      (λ _. Tests condition.Mismatch at (is_utf8 x) (Has at w t.Text (p.Constant (p.Text x))))
  Constant at w p.True = Has at w t.Boolean (p.Constant p.True)
  Constant at w p.False = Has at w t.Boolean (p.Constant p.False)
  Constant at w p.Null = Has at w t.Null (p.Constant p.Null)

-- ---- literals as operands

-- a number without a sign
abbrev pub plain_number : Expression ℕ → Option ℕ
plain_number (p.exp at (p.Constant (p.Number n))) = Some n
plain_number _ = None

-- a literal: a number, with its sign and the kind that it gives, or a text
pub data Written : Type 0 where
  WrittenNumber : (k : Kind) → (n : ℤ) → Written
  WrittenText : (text : Bytes) → Written

abbrev pub written : Expression ℕ → Option Written
written (p.exp at (p.Constant (p.Number n))) = Some (WrittenNumber kind.Nat (pos n))
written (p.exp at (p.Constant (p.Text x))) = Some (WrittenText x)
written (p.exp at (p.Negative a)) = option_map (λ n. WrittenNumber kind.Int (neg_ℤ (pos n))) (plain_number a)
written _ = None

-- the type that it gives
abbrev pub own_type : Written → Term
own_type (WrittenNumber k n) = t.Number k
own_type (WrittenText x) = t.Text

-- whether it has that type
abbrev pub has_own : Written → Bool
has_own (WrittenNumber k n) = is_in_range k n
has_own (WrittenText x) = is_utf8 x

-- whether it may have a type of this head instead
abbrev pub may_have : Written → Node Term → Bool
may_have (WrittenNumber k n) (node.Number j) = true
may_have (WrittenText x) node.Blob = true
may_have _ _ = false
