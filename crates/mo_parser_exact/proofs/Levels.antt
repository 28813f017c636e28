-- The levels of expressions: how tightly each kind of tree binds.
use Rattle.std.proofs.Common.{◌≡◌, ℕ, ◌≤◌, Bool, List, Option, Some, None, refl, sym, subst, arith}
use Rattle.mo_syntax.specs.declared.name.Name.{Name}
use Rattle.mo_syntax.specs.declared.text.Text.{Text}
use Rattle.mo_syntax.specs.declared.token.TokenKind.{TokenKind}
use Rattle.mo_syntax.specs.declared.types.TypeExpression.{TypeExpression}
use Rattle.mo_syntax.specs.declared.patterns.Pattern.{Pattern}
use Rattle.mo_syntax.specs.declared.patterns.Parameters.{Parameters}
use Rattle.mo_syntax.specs.declared.literal.Literal.{Literal}
use Rattle.mo_syntax.specs.declared.operators.BinaryOperator.{BinaryOperator}
use Rattle.mo_syntax.specs.declared.operators.BinaryOperator.TheVariants as op
use Rattle.mo_syntax.specs.declared.operators.AssignmentOperator.{AssignmentOperator}
use Rattle.mo_syntax.specs.declared.declarations.Declaration.{Declaration}
use Rattle.mo_syntax.specs.declared.declarations.DeclarationField.{DeclarationField}
use Rattle.mo_syntax.specs.declared.expressions.Expression.{Expression}
use Rattle.mo_syntax.specs.declared.expressions.Expression.TheVariants as e
use Rattle.mo_syntax.specs.declared.expressions.Case.{Case}
use Rattle.mo_syntax.specs.declared.expressions.ExpressionField.{ExpressionField}
use Rattle.mo_syntax.specs.ExpressionGrammar.{IsExpression, level_of, left_level}
use Rattle.mo_syntax.proofs.ExpressionEquations as eq
use Rattle.mo_syntax.proofs.ExpressionInduction.{Claims, Cases, holds_Expression}

abbrev pub Next : Type 0
Next = Option TokenKind

pub rule_in2 : {R S : ℕ → Next → Type 0} → R ≡ S → (l : ℕ) (n : Next) → S l n → R l n
rule_in2 e l n h = subst (λ (r : ℕ → Next → Type 0). r l n) (sym e) h

pub rule_out2 : {R S : ℕ → Next → Type 0} → R ≡ S → (l : ℕ) (n : Next) → R l n → S l n
rule_out2 e l n h = subst (λ (r : ℕ → Next → Type 0). r l n) e h

abbrev pub only_expressions : (Expression → Type 0) → Claims
only_expressions C = record {
  of_Declaration = λ x. Unit {0};
  of_Expression = C;
  of_DeclarationField = λ x. Unit {0};
  of_Case = λ x. Unit {0};
  of_ExpressionField = λ x. Unit {0};
}

pub op_small : (o : BinaryOperator) → level_of o ≤ 7
op_small op.Or = omega arith
op_small op.And = omega arith
op_small op.Equal = omega arith
op_small op.NotEqual = omega arith
op_small op.Less = omega arith
op_small op.Greater = omega arith
op_small op.LessEqual = omega arith
op_small op.GreaterEqual = omega arith
op_small op.Add = omega arith
op_small op.Subtract = omega arith
op_small op.Concat = omega arith
op_small op.AddWrap = omega arith
op_small op.SubtractWrap = omega arith
op_small op.Multiply = omega arith
op_small op.Divide = omega arith
op_small op.Remainder = omega arith
op_small op.MultiplyWrap = omega arith
op_small op.Power = omega arith

pub op_large : (o : BinaryOperator) → 2 ≤ level_of o
op_large op.Or = omega arith
op_large op.And = omega arith
op_large op.Equal = omega arith
op_large op.NotEqual = omega arith
op_large op.Less = omega arith
op_large op.Greater = omega arith
op_large op.LessEqual = omega arith
op_large op.GreaterEqual = omega arith
op_large op.Add = omega arith
op_large op.Subtract = omega arith
op_large op.Concat = omega arith
op_large op.AddWrap = omega arith
op_large op.SubtractWrap = omega arith
op_large op.Multiply = omega arith
op_large op.Divide = omega arith
op_large op.Remainder = omega arith
op_large op.MultiplyWrap = omega arith
op_large op.Power = omega arith

pub op_left : (o : BinaryOperator) → level_of o ≤ left_level o
op_left op.Or = omega arith
op_left op.And = omega arith
op_left op.Equal = omega arith
op_left op.NotEqual = omega arith
op_left op.Less = omega arith
op_left op.Greater = omega arith
op_left op.LessEqual = omega arith
op_left op.GreaterEqual = omega arith
op_left op.Add = omega arith
op_left op.Subtract = omega arith
op_left op.Concat = omega arith
op_left op.AddWrap = omega arith
op_left op.SubtractWrap = omega arith
op_left op.Multiply = omega arith
op_left op.Divide = omega arith
op_left op.Remainder = omega arith
op_left op.MultiplyWrap = omega arith
op_left op.Power = omega arith

pub op_left_small : (o : BinaryOperator) → left_level o ≤ 7
op_left_small op.Or = omega arith
op_left_small op.And = omega arith
op_left_small op.Equal = omega arith
op_left_small op.NotEqual = omega arith
op_left_small op.Less = omega arith
op_left_small op.Greater = omega arith
op_left_small op.LessEqual = omega arith
op_left_small op.GreaterEqual = omega arith
op_left_small op.Add = omega arith
op_left_small op.Subtract = omega arith
op_left_small op.Concat = omega arith
op_left_small op.AddWrap = omega arith
op_left_small op.SubtractWrap = omega arith
op_left_small op.Multiply = omega arith
op_left_small op.Divide = omega arith
op_left_small op.Remainder = omega arith
op_left_small op.MultiplyWrap = omega arith
op_left_small op.Power = omega arith

-- ---- the level that a tree stands at, and that it may stand at another

pub at_Assign : (x0 : AssignmentOperator) (x1 : Expression) (x2 : Expression) (l : ℕ) (n : Next) → IsExpression (e.Assign x0 x1 x2) l n → l ≡ 0
at_Assign x0 x1 x2 l n good = (rule_out2 (eq.rule_Assign x0 x1 x2) l n good).0

pub move_Assign : (x0 : AssignmentOperator) (x1 : Expression) (x2 : Expression) (l k : ℕ) (n : Next) → (l ≡ 0 → k ≡ 0) → IsExpression (e.Assign x0 x1 x2) l n → IsExpression (e.Assign x0 x1 x2) k n
move_Assign x0 x1 x2 l k n fit good = rule_in2 (eq.rule_Assign x0 x1 x2) k n (let u = rule_out2 (eq.rule_Assign x0 x1 x2) l n good in (fit u.0, u.1, u.2))

pub at_Annotated : (x0 : Expression) (x1 : TypeExpression) (l : ℕ) (n : Next) → IsExpression (e.Annotated x0 x1) l n → l ≤ 1
at_Annotated x0 x1 l n good = (rule_out2 (eq.rule_Annotated x0 x1) l n good).0

pub move_Annotated : (x0 : Expression) (x1 : TypeExpression) (l k : ℕ) (n : Next) → (l ≤ 1 → k ≤ 1) → IsExpression (e.Annotated x0 x1) l n → IsExpression (e.Annotated x0 x1) k n
move_Annotated x0 x1 l k n fit good = rule_in2 (eq.rule_Annotated x0 x1) k n (let u = rule_out2 (eq.rule_Annotated x0 x1) l n good in (fit u.0, u.1, u.2))

pub at_Binary : (x0 : BinaryOperator) (x1 : Expression) (x2 : Expression) (l : ℕ) (n : Next) → IsExpression (e.Binary x0 x1 x2) l n → l ≤ level_of x0
at_Binary x0 x1 x2 l n good = (rule_out2 (eq.rule_Binary x0 x1 x2) l n good).0

pub move_Binary : (x0 : BinaryOperator) (x1 : Expression) (x2 : Expression) (l k : ℕ) (n : Next) → (l ≤ level_of x0 → k ≤ level_of x0) → IsExpression (e.Binary x0 x1 x2) l n → IsExpression (e.Binary x0 x1 x2) k n
move_Binary x0 x1 x2 l k n fit good = rule_in2 (eq.rule_Binary x0 x1 x2) k n (let u = rule_out2 (eq.rule_Binary x0 x1 x2) l n good in (fit u.0, u.1, u.2))

pub at_If : (x0 : Expression) (x1 : Expression) (x2 : Option Expression) (l : ℕ) (n : Next) → IsExpression (e.If x0 x1 x2) l n → l ≡ 0
at_If x0 x1 None l n good = (rule_out2 (eq.rule_If x0 x1 None) l n good).0
at_If x0 x1 (Some y) l n good = (rule_out2 (eq.rule_If x0 x1 (Some y)) l n good).0

pub move_If : (x0 : Expression) (x1 : Expression) (x2 : Option Expression) (l k : ℕ) (n : Next) → (l ≡ 0 → k ≡ 0) → IsExpression (e.If x0 x1 x2) l n → IsExpression (e.If x0 x1 x2) k n
move_If x0 x1 None l k n fit good = rule_in2 (eq.rule_If x0 x1 None) k n (let u = rule_out2 (eq.rule_If x0 x1 None) l n good in (fit u.0, u.1, u.2, u.3))
move_If x0 x1 (Some y) l k n fit good = rule_in2 (eq.rule_If x0 x1 (Some y)) k n (let u = rule_out2 (eq.rule_If x0 x1 (Some y)) l n good in (fit u.0, u.1, u.2, u.3))

pub at_Switch : (x0 : Expression) (x1 : List Case) (x2 : Bool) (l : ℕ) (n : Next) → IsExpression (e.Switch x0 x1 x2) l n → l ≡ 0
at_Switch x0 x1 x2 l n good = (rule_out2 (eq.rule_Switch x0 x1 x2) l n good).0

pub move_Switch : (x0 : Expression) (x1 : List Case) (x2 : Bool) (l k : ℕ) (n : Next) → (l ≡ 0 → k ≡ 0) → IsExpression (e.Switch x0 x1 x2) l n → IsExpression (e.Switch x0 x1 x2) k n
move_Switch x0 x1 x2 l k n fit good = rule_in2 (eq.rule_Switch x0 x1 x2) k n (let u = rule_out2 (eq.rule_Switch x0 x1 x2) l n good in (fit u.0, u.1, u.2))

pub at_While : (x0 : Expression) (x1 : Expression) (l : ℕ) (n : Next) → IsExpression (e.While x0 x1) l n → l ≡ 0
at_While x0 x1 l n good = (rule_out2 (eq.rule_While x0 x1) l n good).0

pub move_While : (x0 : Expression) (x1 : Expression) (l k : ℕ) (n : Next) → (l ≡ 0 → k ≡ 0) → IsExpression (e.While x0 x1) l n → IsExpression (e.While x0 x1) k n
move_While x0 x1 l k n fit good = rule_in2 (eq.rule_While x0 x1) k n (let u = rule_out2 (eq.rule_While x0 x1) l n good in (fit u.0, u.1, u.2))

pub at_Loop : (x0 : Expression) (x1 : Option Expression) (l : ℕ) (n : Next) → IsExpression (e.Loop x0 x1) l n → l ≡ 0
at_Loop x0 None l n good = (rule_out2 (eq.rule_Loop x0 None) l n good).0
at_Loop x0 (Some y) l n good = (rule_out2 (eq.rule_Loop x0 (Some y)) l n good).0

pub move_Loop : (x0 : Expression) (x1 : Option Expression) (l k : ℕ) (n : Next) → (l ≡ 0 → k ≡ 0) → IsExpression (e.Loop x0 x1) l n → IsExpression (e.Loop x0 x1) k n
move_Loop x0 None l k n fit good = rule_in2 (eq.rule_Loop x0 None) k n (let u = rule_out2 (eq.rule_Loop x0 None) l n good in (fit u.0, u.1, u.2))
move_Loop x0 (Some y) l k n fit good = rule_in2 (eq.rule_Loop x0 (Some y)) k n (let u = rule_out2 (eq.rule_Loop x0 (Some y)) l n good in (fit u.0, u.1, u.2))

pub at_For : (x0 : Pattern) (x1 : Expression) (x2 : Expression) (l : ℕ) (n : Next) → IsExpression (e.For x0 x1 x2) l n → l ≡ 0
at_For x0 x1 x2 l n good = (rule_out2 (eq.rule_For x0 x1 x2) l n good).0

pub move_For : (x0 : Pattern) (x1 : Expression) (x2 : Expression) (l k : ℕ) (n : Next) → (l ≡ 0 → k ≡ 0) → IsExpression (e.For x0 x1 x2) l n → IsExpression (e.For x0 x1 x2) k n
move_For x0 x1 x2 l k n fit good = rule_in2 (eq.rule_For x0 x1 x2) k n (let u = rule_out2 (eq.rule_For x0 x1 x2) l n good in (fit u.0, u.1, u.2, u.3))

pub at_Label : (x0 : Name) (x1 : Option TypeExpression) (x2 : Expression) (l : ℕ) (n : Next) → IsExpression (e.Label x0 x1 x2) l n → l ≡ 0
at_Label x0 x1 x2 l n good = (rule_out2 (eq.rule_Label x0 x1 x2) l n good).0

pub move_Label : (x0 : Name) (x1 : Option TypeExpression) (x2 : Expression) (l k : ℕ) (n : Next) → (l ≡ 0 → k ≡ 0) → IsExpression (e.Label x0 x1 x2) l n → IsExpression (e.Label x0 x1 x2) k n
move_Label x0 x1 x2 l k n fit good = rule_in2 (eq.rule_Label x0 x1 x2) k n (let u = rule_out2 (eq.rule_Label x0 x1 x2) l n good in (fit u.0, u.1, u.2))

pub at_Break : (x0 : Name) (x1 : Option Expression) (l : ℕ) (n : Next) → IsExpression (e.Break x0 x1) l n → l ≡ 0
at_Break x0 None l n good = (rule_out2 (eq.rule_Break x0 None) l n good).0
at_Break x0 (Some y) l n good = (rule_out2 (eq.rule_Break x0 (Some y)) l n good).0

pub move_Break : (x0 : Name) (x1 : Option Expression) (l k : ℕ) (n : Next) → (l ≡ 0 → k ≡ 0) → IsExpression (e.Break x0 x1) l n → IsExpression (e.Break x0 x1) k n
move_Break x0 None l k n fit good = rule_in2 (eq.rule_Break x0 None) k n (let u = rule_out2 (eq.rule_Break x0 None) l n good in (fit u.0, u.1))
move_Break x0 (Some y) l k n fit good = rule_in2 (eq.rule_Break x0 (Some y)) k n (let u = rule_out2 (eq.rule_Break x0 (Some y)) l n good in (fit u.0, u.1))

pub at_Continue : (x0 : Name) (l : ℕ) (n : Next) → IsExpression (e.Continue x0) l n → l ≡ 0
at_Continue x0 l n good = rule_out2 (eq.rule_Continue x0) l n good

pub move_Continue : (x0 : Name) (l k : ℕ) (n : Next) → (l ≡ 0 → k ≡ 0) → IsExpression (e.Continue x0) l n → IsExpression (e.Continue x0) k n
move_Continue x0 l k n fit good = rule_in2 (eq.rule_Continue x0) k n (let u = rule_out2 (eq.rule_Continue x0) l n good in fit u)

pub at_Return : (x0 : Option Expression) (l : ℕ) (n : Next) → IsExpression (e.Return x0) l n → l ≡ 0
at_Return None l n good = (rule_out2 (eq.rule_Return None) l n good).0
at_Return (Some y) l n good = (rule_out2 (eq.rule_Return (Some y)) l n good).0

pub move_Return : (x0 : Option Expression) (l k : ℕ) (n : Next) → (l ≡ 0 → k ≡ 0) → IsExpression (e.Return x0) l n → IsExpression (e.Return x0) k n
move_Return None l k n fit good = rule_in2 (eq.rule_Return None) k n (let u = rule_out2 (eq.rule_Return None) l n good in (fit u.0, u.1))
move_Return (Some y) l k n fit good = rule_in2 (eq.rule_Return (Some y)) k n (let u = rule_out2 (eq.rule_Return (Some y)) l n good in (fit u.0, u.1))

pub at_Do : (x0 : Expression) (l : ℕ) (n : Next) → IsExpression (e.Do x0) l n → l ≡ 0
at_Do x0 l n good = (rule_out2 (eq.rule_Do x0) l n good).0

pub move_Do : (x0 : Expression) (l k : ℕ) (n : Next) → (l ≡ 0 → k ≡ 0) → IsExpression (e.Do x0) l n → IsExpression (e.Do x0) k n
move_Do x0 l k n fit good = rule_in2 (eq.rule_Do x0) k n (let u = rule_out2 (eq.rule_Do x0) l n good in (fit u.0, u.1))

pub at_DoOptional : (x0 : Expression) (l : ℕ) (n : Next) → IsExpression (e.DoOptional x0) l n → l ≡ 0
at_DoOptional x0 l n good = (rule_out2 (eq.rule_DoOptional x0) l n good).0

pub move_DoOptional : (x0 : Expression) (l k : ℕ) (n : Next) → (l ≡ 0 → k ≡ 0) → IsExpression (e.DoOptional x0) l n → IsExpression (e.DoOptional x0) k n
move_DoOptional x0 l k n fit good = rule_in2 (eq.rule_DoOptional x0) k n (let u = rule_out2 (eq.rule_DoOptional x0) l n good in (fit u.0, u.1))

pub at_Await : (x0 : Expression) (l : ℕ) (n : Next) → IsExpression (e.Await x0) l n → l ≡ 0
at_Await x0 l n good = (rule_out2 (eq.rule_Await x0) l n good).0

pub move_Await : (x0 : Expression) (l k : ℕ) (n : Next) → (l ≡ 0 → k ≡ 0) → IsExpression (e.Await x0) l n → IsExpression (e.Await x0) k n
move_Await x0 l k n fit good = rule_in2 (eq.rule_Await x0) k n (let u = rule_out2 (eq.rule_Await x0) l n good in (fit u.0, u.1))

pub at_Throw : (x0 : Expression) (l : ℕ) (n : Next) → IsExpression (e.Throw x0) l n → l ≡ 0
at_Throw x0 l n good = (rule_out2 (eq.rule_Throw x0) l n good).0

pub move_Throw : (x0 : Expression) (l k : ℕ) (n : Next) → (l ≡ 0 → k ≡ 0) → IsExpression (e.Throw x0) l n → IsExpression (e.Throw x0) k n
move_Throw x0 l k n fit good = rule_in2 (eq.rule_Throw x0) k n (let u = rule_out2 (eq.rule_Throw x0) l n good in (fit u.0, u.1))

pub at_Try : (x0 : Expression) (x1 : Pattern) (x2 : Expression) (l : ℕ) (n : Next) → IsExpression (e.Try x0 x1 x2) l n → l ≡ 0
at_Try x0 x1 x2 l n good = (rule_out2 (eq.rule_Try x0 x1 x2) l n good).0

pub move_Try : (x0 : Expression) (x1 : Pattern) (x2 : Expression) (l k : ℕ) (n : Next) → (l ≡ 0 → k ≡ 0) → IsExpression (e.Try x0 x1 x2) l n → IsExpression (e.Try x0 x1 x2) k n
move_Try x0 x1 x2 l k n fit good = rule_in2 (eq.rule_Try x0 x1 x2) k n (let u = rule_out2 (eq.rule_Try x0 x1 x2) l n good in (fit u.0, u.1, u.2, u.3))

pub at_Assert : (x0 : Expression) (l : ℕ) (n : Next) → IsExpression (e.Assert x0) l n → l ≡ 0
at_Assert x0 l n good = (rule_out2 (eq.rule_Assert x0) l n good).0

pub move_Assert : (x0 : Expression) (l k : ℕ) (n : Next) → (l ≡ 0 → k ≡ 0) → IsExpression (e.Assert x0) l n → IsExpression (e.Assert x0) k n
move_Assert x0 l k n fit good = rule_in2 (eq.rule_Assert x0) k n (let u = rule_out2 (eq.rule_Assert x0) l n good in (fit u.0, u.1))

pub at_Ignore : (x0 : Expression) (l : ℕ) (n : Next) → IsExpression (e.Ignore x0) l n → l ≡ 0
at_Ignore x0 l n good = (rule_out2 (eq.rule_Ignore x0) l n good).0

pub move_Ignore : (x0 : Expression) (l k : ℕ) (n : Next) → (l ≡ 0 → k ≡ 0) → IsExpression (e.Ignore x0) l n → IsExpression (e.Ignore x0) k n
move_Ignore x0 l k n fit good = rule_in2 (eq.rule_Ignore x0) k n (let u = rule_out2 (eq.rule_Ignore x0) l n good in (fit u.0, u.1))

pub at_Debug : (x0 : Expression) (l : ℕ) (n : Next) → IsExpression (e.Debug x0) l n → l ≡ 0
at_Debug x0 l n good = (rule_out2 (eq.rule_Debug x0) l n good).0

pub move_Debug : (x0 : Expression) (l k : ℕ) (n : Next) → (l ≡ 0 → k ≡ 0) → IsExpression (e.Debug x0) l n → IsExpression (e.Debug x0) k n
move_Debug x0 l k n fit good = rule_in2 (eq.rule_Debug x0) k n (let u = rule_out2 (eq.rule_Debug x0) l n good in (fit u.0, u.1))

pub at_Function : (x0 : Parameters) (x1 : Option TypeExpression) (x2 : Bool) (x3 : Expression) (l : ℕ) (n : Next) → IsExpression (e.Function x0 x1 x2 x3) l n → l ≡ 0
at_Function x0 x1 x2 x3 l n good = (rule_out2 (eq.rule_Function x0 x1 x2 x3) l n good).0

pub move_Function : (x0 : Parameters) (x1 : Option TypeExpression) (x2 : Bool) (x3 : Expression) (l k : ℕ) (n : Next) → (l ≡ 0 → k ≡ 0) → IsExpression (e.Function x0 x1 x2 x3) l n → IsExpression (e.Function x0 x1 x2 x3) k n
move_Function x0 x1 x2 x3 l k n fit good = rule_in2 (eq.rule_Function x0 x1 x2 x3) k n (let u = rule_out2 (eq.rule_Function x0 x1 x2 x3) l n good in (fit u.0, u.1, u.2, u.3))

pub at_ObjectBlock : (x0 : List DeclarationField) (x1 : Bool) (l : ℕ) (n : Next) → IsExpression (e.ObjectBlock x0 x1) l n → l ≡ 0
at_ObjectBlock x0 x1 l n good = (rule_out2 (eq.rule_ObjectBlock x0 x1) l n good).0

pub move_ObjectBlock : (x0 : List DeclarationField) (x1 : Bool) (l k : ℕ) (n : Next) → (l ≡ 0 → k ≡ 0) → IsExpression (e.ObjectBlock x0 x1) l n → IsExpression (e.ObjectBlock x0 x1) k n
move_ObjectBlock x0 x1 l k n fit good = rule_in2 (eq.rule_ObjectBlock x0 x1) k n (let u = rule_out2 (eq.rule_ObjectBlock x0 x1) l n good in (fit u.0, u.1))

pub at_Optional : (x0 : Expression) (l : ℕ) (n : Next) → IsExpression (e.Optional x0) l n → l ≤ 8
at_Optional x0 l n good = (rule_out2 (eq.rule_Optional x0) l n good).0

pub move_Optional : (x0 : Expression) (l k : ℕ) (n : Next) → (l ≤ 8 → k ≤ 8) → IsExpression (e.Optional x0) l n → IsExpression (e.Optional x0) k n
move_Optional x0 l k n fit good = rule_in2 (eq.rule_Optional x0) k n (let u = rule_out2 (eq.rule_Optional x0) l n good in (fit u.0, u.1))

pub at_Negative : (x0 : Expression) (l : ℕ) (n : Next) → IsExpression (e.Negative x0) l n → l ≤ 8
at_Negative x0 l n good = (rule_out2 (eq.rule_Negative x0) l n good).0

pub move_Negative : (x0 : Expression) (l k : ℕ) (n : Next) → (l ≤ 8 → k ≤ 8) → IsExpression (e.Negative x0) l n → IsExpression (e.Negative x0) k n
move_Negative x0 l k n fit good = rule_in2 (eq.rule_Negative x0) k n (let u = rule_out2 (eq.rule_Negative x0) l n good in (fit u.0, u.1))

pub at_Not : (x0 : Expression) (l : ℕ) (n : Next) → IsExpression (e.Not x0) l n → l ≤ 8
at_Not x0 l n good = (rule_out2 (eq.rule_Not x0) l n good).0

pub move_Not : (x0 : Expression) (l k : ℕ) (n : Next) → (l ≤ 8 → k ≤ 8) → IsExpression (e.Not x0) l n → IsExpression (e.Not x0) k n
move_Not x0 l k n fit good = rule_in2 (eq.rule_Not x0) k n (let u = rule_out2 (eq.rule_Not x0) l n good in (fit u.0, u.1))

pub at_Tagged : (x0 : Name) (x1 : Option Expression) (l : ℕ) (n : Next) → IsExpression (e.Tagged x0 x1) l n → l ≤ 8
at_Tagged x0 None l n good = (rule_out2 (eq.rule_Tagged x0 None) l n good).0
at_Tagged x0 (Some y) l n good = (rule_out2 (eq.rule_Tagged x0 (Some y)) l n good).0

pub move_Tagged : (x0 : Name) (x1 : Option Expression) (l k : ℕ) (n : Next) → (l ≤ 8 → k ≤ 8) → IsExpression (e.Tagged x0 x1) l n → IsExpression (e.Tagged x0 x1) k n
move_Tagged x0 None l k n fit good = rule_in2 (eq.rule_Tagged x0 None) k n (let u = rule_out2 (eq.rule_Tagged x0 None) l n good in (fit u.0, u.1))
move_Tagged x0 (Some y) l k n fit good = rule_in2 (eq.rule_Tagged x0 (Some y)) k n (let u = rule_out2 (eq.rule_Tagged x0 (Some y)) l n good in (fit u.0, u.1))

pub at_Member : (x0 : Expression) (x1 : Name) (l : ℕ) (n : Next) → IsExpression (e.Member x0 x1) l n → l ≤ 9
at_Member x0 x1 l n good = (rule_out2 (eq.rule_Member x0 x1) l n good).0

pub move_Member : (x0 : Expression) (x1 : Name) (l k : ℕ) (n : Next) → (l ≤ 9 → k ≤ 9) → IsExpression (e.Member x0 x1) l n → IsExpression (e.Member x0 x1) k n
move_Member x0 x1 l k n fit good = rule_in2 (eq.rule_Member x0 x1) k n (let u = rule_out2 (eq.rule_Member x0 x1) l n good in (fit u.0, u.1))

pub at_Projection : (x0 : Expression) (x1 : ℕ) (l : ℕ) (n : Next) → IsExpression (e.Projection x0 x1) l n → l ≤ 9
at_Projection x0 x1 l n good = (rule_out2 (eq.rule_Projection x0 x1) l n good).0

pub move_Projection : (x0 : Expression) (x1 : ℕ) (l k : ℕ) (n : Next) → (l ≤ 9 → k ≤ 9) → IsExpression (e.Projection x0 x1) l n → IsExpression (e.Projection x0 x1) k n
move_Projection x0 x1 l k n fit good = rule_in2 (eq.rule_Projection x0 x1) k n (let u = rule_out2 (eq.rule_Projection x0 x1) l n good in (fit u.0, u.1))

pub at_Index : (x0 : Expression) (x1 : Expression) (l : ℕ) (n : Next) → IsExpression (e.Index x0 x1) l n → l ≤ 9
at_Index x0 x1 l n good = (rule_out2 (eq.rule_Index x0 x1) l n good).0

pub move_Index : (x0 : Expression) (x1 : Expression) (l k : ℕ) (n : Next) → (l ≤ 9 → k ≤ 9) → IsExpression (e.Index x0 x1) l n → IsExpression (e.Index x0 x1) k n
move_Index x0 x1 l k n fit good = rule_in2 (eq.rule_Index x0 x1) k n (let u = rule_out2 (eq.rule_Index x0 x1) l n good in (fit u.0, u.1, u.2))

pub at_Call : (x0 : Expression) (x1 : Option (List TypeExpression)) (x2 : List Expression) (l : ℕ) (n : Next) → IsExpression (e.Call x0 x1 x2) l n → l ≤ 9
at_Call x0 None x2 l n good = (rule_out2 (eq.rule_Call x0 None x2) l n good).0
at_Call x0 (Some y) x2 l n good = (rule_out2 (eq.rule_Call x0 (Some y) x2) l n good).0

pub move_Call : (x0 : Expression) (x1 : Option (List TypeExpression)) (x2 : List Expression) (l k : ℕ) (n : Next) → (l ≤ 9 → k ≤ 9) → IsExpression (e.Call x0 x1 x2) l n → IsExpression (e.Call x0 x1 x2) k n
move_Call x0 None x2 l k n fit good = rule_in2 (eq.rule_Call x0 None x2) k n (let u = rule_out2 (eq.rule_Call x0 None x2) l n good in (fit u.0, u.1, u.2))
move_Call x0 (Some y) x2 l k n fit good = rule_in2 (eq.rule_Call x0 (Some y) x2) k n (let u = rule_out2 (eq.rule_Call x0 (Some y) x2) l n good in (fit u.0, u.1, u.2, u.3))

pub at_Bang : (x0 : Expression) (l : ℕ) (n : Next) → IsExpression (e.Bang x0) l n → l ≤ 9
at_Bang x0 l n good = (rule_out2 (eq.rule_Bang x0) l n good).0

pub move_Bang : (x0 : Expression) (l k : ℕ) (n : Next) → (l ≤ 9 → k ≤ 9) → IsExpression (e.Bang x0) l n → IsExpression (e.Bang x0) k n
move_Bang x0 l k n fit good = rule_in2 (eq.rule_Bang x0) k n (let u = rule_out2 (eq.rule_Bang x0) l n good in (fit u.0, u.1))

pub at_Constant : (x0 : Literal) (l : ℕ) (n : Next) → IsExpression (e.Constant x0) l n → l ≤ 10
at_Constant x0 l n good = rule_out2 (eq.rule_Constant x0) l n good

pub move_Constant : (x0 : Literal) (l k : ℕ) (n : Next) → (l ≤ 10 → k ≤ 10) → IsExpression (e.Constant x0) l n → IsExpression (e.Constant x0) k n
move_Constant x0 l k n fit good = rule_in2 (eq.rule_Constant x0) k n (let u = rule_out2 (eq.rule_Constant x0) l n good in fit u)

pub at_Variable : (x0 : Name) (l : ℕ) (n : Next) → IsExpression (e.Variable x0) l n → l ≤ 10
at_Variable x0 l n good = rule_out2 (eq.rule_Variable x0) l n good

pub move_Variable : (x0 : Name) (l k : ℕ) (n : Next) → (l ≤ 10 → k ≤ 10) → IsExpression (e.Variable x0) l n → IsExpression (e.Variable x0) k n
move_Variable x0 l k n fit good = rule_in2 (eq.rule_Variable x0) k n (let u = rule_out2 (eq.rule_Variable x0) l n good in fit u)

pub at_Parenthesized : (x0 : List Expression) (l : ℕ) (n : Next) → IsExpression (e.Parenthesized x0) l n → l ≤ 10
at_Parenthesized x0 l n good = (rule_out2 (eq.rule_Parenthesized x0) l n good).0

pub move_Parenthesized : (x0 : List Expression) (l k : ℕ) (n : Next) → (l ≤ 10 → k ≤ 10) → IsExpression (e.Parenthesized x0) l n → IsExpression (e.Parenthesized x0) k n
move_Parenthesized x0 l k n fit good = rule_in2 (eq.rule_Parenthesized x0) k n (let u = rule_out2 (eq.rule_Parenthesized x0) l n good in (fit u.0, u.1))

pub at_Array : (x0 : Bool) (x1 : List Expression) (l : ℕ) (n : Next) → IsExpression (e.Array x0 x1) l n → l ≤ 9
at_Array x0 x1 l n good = (rule_out2 (eq.rule_Array x0 x1) l n good).0

pub move_Array : (x0 : Bool) (x1 : List Expression) (l k : ℕ) (n : Next) → (l ≤ 9 → k ≤ 9) → IsExpression (e.Array x0 x1) l n → IsExpression (e.Array x0 x1) k n
move_Array x0 x1 l k n fit good = rule_in2 (eq.rule_Array x0 x1) k n (let u = rule_out2 (eq.rule_Array x0 x1) l n good in (fit u.0, u.1))

pub at_Object : (x0 : List ExpressionField) (x1 : Bool) (l : ℕ) (n : Next) → IsExpression (e.Object x0 x1) l n → l ≤ 9
at_Object x0 x1 l n good = (rule_out2 (eq.rule_Object x0 x1) l n good).0

pub move_Object : (x0 : List ExpressionField) (x1 : Bool) (l k : ℕ) (n : Next) → (l ≤ 9 → k ≤ 9) → IsExpression (e.Object x0 x1) l n → IsExpression (e.Object x0 x1) k n
move_Object x0 x1 l k n fit good = rule_in2 (eq.rule_Object x0 x1) k n (let u = rule_out2 (eq.rule_Object x0 x1) l n good in (fit u.0, u.1))

pub at_ActorReference : (x0 : Bool) (x1 : Text) (l : ℕ) (n : Next) → IsExpression (e.ActorReference x0 x1) l n → l ≤ 9
at_ActorReference x0 x1 l n good = rule_out2 (eq.rule_ActorReference x0 x1) l n good

pub move_ActorReference : (x0 : Bool) (x1 : Text) (l k : ℕ) (n : Next) → (l ≤ 9 → k ≤ 9) → IsExpression (e.ActorReference x0 x1) l n → IsExpression (e.ActorReference x0 x1) k n
move_ActorReference x0 x1 l k n fit good = rule_in2 (eq.rule_ActorReference x0 x1) k n (let u = rule_out2 (eq.rule_ActorReference x0 x1) l n good in fit u)

pub at_Block : (x0 : List Declaration) (x1 : Bool) (l : ℕ) (n : Next) → IsExpression (e.Block x0 x1) l n → l ≡ 11
at_Block x0 x1 l n good = (rule_out2 (eq.rule_Block x0 x1) l n good).0

pub move_Block : (x0 : List Declaration) (x1 : Bool) (l k : ℕ) (n : Next) → (l ≡ 11 → k ≡ 11) → IsExpression (e.Block x0 x1) l n → IsExpression (e.Block x0 x1) k n
move_Block x0 x1 l k n fit good = rule_in2 (eq.rule_Block x0 x1) k n (let u = rule_out2 (eq.rule_Block x0 x1) l n good in (fit u.0, u.1))

-- ---- a tree of a level is one of each looser level

abbrev Lowers : Expression → Type 0
Lowers x = (l k : ℕ) (n : Next) → k ≤ l → l ≤ 10 → IsExpression x l n → IsExpression x k n

lowers_cases : Cases (only_expressions Lowers)
lowers_cases = record {
  Let = λ x0 x1 h0. tt;
  Var = λ x0 x1 x2 h0. tt;
  Func = λ x0 x1 x2 x3 x4 x5 h0. tt;
  TypeAlias = λ x0 x1 x2. tt;
  Class = λ x0 x1 x2 x3 x4 h0. tt;
  NamedObject = λ x0 x1 x2 h0. tt;
  Evaluate = λ x0 h0. tt;
  Assign = λ x0 x1 x2 h0 h1. λ l k n le small good. move_Assign x0 x1 x2 l k n (λ u. omega arith) good;
  Annotated = λ x0 x1 h0. λ l k n le small good. move_Annotated x0 x1 l k n (λ u. omega arith) good;
  Binary = λ x0 x1 x2 h0 h1. λ l k n le small good. move_Binary x0 x1 x2 l k n (λ u. omega arith) good;
  If = λ x0 x1 x2 h0 h1 h2. λ l k n le small good. move_If x0 x1 x2 l k n (λ u. omega arith) good;
  Switch = λ x0 x1 x2 h0 h1. λ l k n le small good. move_Switch x0 x1 x2 l k n (λ u. omega arith) good;
  While = λ x0 x1 h0 h1. λ l k n le small good. move_While x0 x1 l k n (λ u. omega arith) good;
  Loop = λ x0 x1 h0 h1. λ l k n le small good. move_Loop x0 x1 l k n (λ u. omega arith) good;
  For = λ x0 x1 x2 h0 h1. λ l k n le small good. move_For x0 x1 x2 l k n (λ u. omega arith) good;
  Label = λ x0 x1 x2 h0. λ l k n le small good. move_Label x0 x1 x2 l k n (λ u. omega arith) good;
  Break = λ x0 x1 h0. λ l k n le small good. move_Break x0 x1 l k n (λ u. omega arith) good;
  Continue = λ x0. λ l k n le small good. move_Continue x0 l k n (λ u. omega arith) good;
  Return = λ x0 h0. λ l k n le small good. move_Return x0 l k n (λ u. omega arith) good;
  Do = λ x0 h0. λ l k n le small good. move_Do x0 l k n (λ u. omega arith) good;
  DoOptional = λ x0 h0. λ l k n le small good. move_DoOptional x0 l k n (λ u. omega arith) good;
  Await = λ x0 h0. λ l k n le small good. move_Await x0 l k n (λ u. omega arith) good;
  Throw = λ x0 h0. λ l k n le small good. move_Throw x0 l k n (λ u. omega arith) good;
  Try = λ x0 x1 x2 h0 h1. λ l k n le small good. move_Try x0 x1 x2 l k n (λ u. omega arith) good;
  Assert = λ x0 h0. λ l k n le small good. move_Assert x0 l k n (λ u. omega arith) good;
  Ignore = λ x0 h0. λ l k n le small good. move_Ignore x0 l k n (λ u. omega arith) good;
  Debug = λ x0 h0. λ l k n le small good. move_Debug x0 l k n (λ u. omega arith) good;
  Function = λ x0 x1 x2 x3 h0. λ l k n le small good. move_Function x0 x1 x2 x3 l k n (λ u. omega arith) good;
  ObjectBlock = λ x0 x1 h0. λ l k n le small good. move_ObjectBlock x0 x1 l k n (λ u. omega arith) good;
  Optional = λ x0 h0. λ l k n le small good. move_Optional x0 l k n (λ u. omega arith) good;
  Negative = λ x0 h0. λ l k n le small good. move_Negative x0 l k n (λ u. omega arith) good;
  Not = λ x0 h0. λ l k n le small good. move_Not x0 l k n (λ u. omega arith) good;
  Tagged = λ x0 x1 h0. λ l k n le small good. move_Tagged x0 x1 l k n (λ u. omega arith) good;
  Member = λ x0 x1 h0. λ l k n le small good. move_Member x0 x1 l k n (λ u. omega arith) good;
  Projection = λ x0 x1 h0. λ l k n le small good. move_Projection x0 x1 l k n (λ u. omega arith) good;
  Index = λ x0 x1 h0 h1. λ l k n le small good. move_Index x0 x1 l k n (λ u. omega arith) good;
  Call = λ x0 x1 x2 h0 h1. λ l k n le small good. move_Call x0 x1 x2 l k n (λ u. omega arith) good;
  Bang = λ x0 h0. λ l k n le small good. move_Bang x0 l k n (λ u. omega arith) good;
  Constant = λ x0. λ l k n le small good. move_Constant x0 l k n (λ u. omega arith) good;
  Variable = λ x0. λ l k n le small good. move_Variable x0 l k n (λ u. omega arith) good;
  Parenthesized = λ x0 h0. λ l k n le small good. move_Parenthesized x0 l k n (λ u. omega arith) good;
  Array = λ x0 x1 h0. λ l k n le small good. move_Array x0 x1 l k n (λ u. omega arith) good;
  Object = λ x0 x1 h0. λ l k n le small good. move_Object x0 x1 l k n (λ u. omega arith) good;
  ActorReference = λ x0 x1. λ l k n le small good. move_ActorReference x0 x1 l k n (λ u. omega arith) good;
  Block = λ x0 x1 h0. λ l k n le small good. absurd (let u = at_Block x0 x1 l n good in omega arith);
  DeclarationField_ = λ x0 x1 h0. tt;
  Case_ = λ x0 x1 h0. tt;
  ExpressionField_ = λ x0 x1 x2 x3 h0. tt;
}

pub lowers : (x : Expression) → Lowers x
lowers = holds_Expression (only_expressions Lowers) lowers_cases

-- ---- at the level of blocks there are blocks alone

abbrev IsBlock : Expression → Type 0
IsBlock x = (n : Next) → IsExpression x 11 n → (items : List Declaration) × (last : Bool) × (x ≡ e.Block items last)

block_cases : Cases (only_expressions IsBlock)
block_cases = record {
  Let = λ x0 x1 h0. tt;
  Var = λ x0 x1 x2 h0. tt;
  Func = λ x0 x1 x2 x3 x4 x5 h0. tt;
  TypeAlias = λ x0 x1 x2. tt;
  Class = λ x0 x1 x2 x3 x4 h0. tt;
  NamedObject = λ x0 x1 x2 h0. tt;
  Evaluate = λ x0 h0. tt;
  Assign = λ x0 x1 x2 h0 h1. λ n good. absurd (let u = at_Assign x0 x1 x2 11 n good in omega arith);
  Annotated = λ x0 x1 h0. λ n good. absurd (let u = at_Annotated x0 x1 11 n good in omega arith);
  Binary = λ x0 x1 x2 h0 h1. λ n good. absurd (let u = at_Binary x0 x1 x2 11 n good in omega (arith, op_small x0));
  If = λ x0 x1 x2 h0 h1 h2. λ n good. absurd (let u = at_If x0 x1 x2 11 n good in omega arith);
  Switch = λ x0 x1 x2 h0 h1. λ n good. absurd (let u = at_Switch x0 x1 x2 11 n good in omega arith);
  While = λ x0 x1 h0 h1. λ n good. absurd (let u = at_While x0 x1 11 n good in omega arith);
  Loop = λ x0 x1 h0 h1. λ n good. absurd (let u = at_Loop x0 x1 11 n good in omega arith);
  For = λ x0 x1 x2 h0 h1. λ n good. absurd (let u = at_For x0 x1 x2 11 n good in omega arith);
  Label = λ x0 x1 x2 h0. λ n good. absurd (let u = at_Label x0 x1 x2 11 n good in omega arith);
  Break = λ x0 x1 h0. λ n good. absurd (let u = at_Break x0 x1 11 n good in omega arith);
  Continue = λ x0. λ n good. absurd (let u = at_Continue x0 11 n good in omega arith);
  Return = λ x0 h0. λ n good. absurd (let u = at_Return x0 11 n good in omega arith);
  Do = λ x0 h0. λ n good. absurd (let u = at_Do x0 11 n good in omega arith);
  DoOptional = λ x0 h0. λ n good. absurd (let u = at_DoOptional x0 11 n good in omega arith);
  Await = λ x0 h0. λ n good. absurd (let u = at_Await x0 11 n good in omega arith);
  Throw = λ x0 h0. λ n good. absurd (let u = at_Throw x0 11 n good in omega arith);
  Try = λ x0 x1 x2 h0 h1. λ n good. absurd (let u = at_Try x0 x1 x2 11 n good in omega arith);
  Assert = λ x0 h0. λ n good. absurd (let u = at_Assert x0 11 n good in omega arith);
  Ignore = λ x0 h0. λ n good. absurd (let u = at_Ignore x0 11 n good in omega arith);
  Debug = λ x0 h0. λ n good. absurd (let u = at_Debug x0 11 n good in omega arith);
  Function = λ x0 x1 x2 x3 h0. λ n good. absurd (let u = at_Function x0 x1 x2 x3 11 n good in omega arith);
  ObjectBlock = λ x0 x1 h0. λ n good. absurd (let u = at_ObjectBlock x0 x1 11 n good in omega arith);
  Optional = λ x0 h0. λ n good. absurd (let u = at_Optional x0 11 n good in omega arith);
  Negative = λ x0 h0. λ n good. absurd (let u = at_Negative x0 11 n good in omega arith);
  Not = λ x0 h0. λ n good. absurd (let u = at_Not x0 11 n good in omega arith);
  Tagged = λ x0 x1 h0. λ n good. absurd (let u = at_Tagged x0 x1 11 n good in omega arith);
  Member = λ x0 x1 h0. λ n good. absurd (let u = at_Member x0 x1 11 n good in omega arith);
  Projection = λ x0 x1 h0. λ n good. absurd (let u = at_Projection x0 x1 11 n good in omega arith);
  Index = λ x0 x1 h0 h1. λ n good. absurd (let u = at_Index x0 x1 11 n good in omega arith);
  Call = λ x0 x1 x2 h0 h1. λ n good. absurd (let u = at_Call x0 x1 x2 11 n good in omega arith);
  Bang = λ x0 h0. λ n good. absurd (let u = at_Bang x0 11 n good in omega arith);
  Constant = λ x0. λ n good. absurd (let u = at_Constant x0 11 n good in omega arith);
  Variable = λ x0. λ n good. absurd (let u = at_Variable x0 11 n good in omega arith);
  Parenthesized = λ x0 h0. λ n good. absurd (let u = at_Parenthesized x0 11 n good in omega arith);
  Array = λ x0 x1 h0. λ n good. absurd (let u = at_Array x0 x1 11 n good in omega arith);
  Object = λ x0 x1 h0. λ n good. absurd (let u = at_Object x0 x1 11 n good in omega arith);
  ActorReference = λ x0 x1. λ n good. absurd (let u = at_ActorReference x0 x1 11 n good in omega arith);
  Block = λ x0 x1 h0. λ n good. (x0, x1, refl);
  DeclarationField_ = λ x0 x1 h0. tt;
  Case_ = λ x0 x1 h0. tt;
  ExpressionField_ = λ x0 x1 x2 x3 h0. tt;
}

pub is_block : (x : Expression) → IsBlock x
is_block = holds_Expression (only_expressions IsBlock) block_cases
