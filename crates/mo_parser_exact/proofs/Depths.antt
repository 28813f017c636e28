-- Expressions, declarations and bodies are read exactly, at every depth.
use Rattle.std.proofs.Common.{◌≡◌, ℕ, zero, suc, ◌+◌, ◌<◌, Bool, true, false, List, [], ◌∷◌, ◌++◌, length, map, option_map, Some, None, refl, sym, ap, subst, arith, length-append}
use Rattle.std.specs.Prelude.{◌≢◌}
use Rattle.mo_syntax.specs.declared.name.Name.{Name}
use Rattle.mo_syntax.specs.declared.text.Text.{Text}
use Rattle.mo_syntax.specs.declared.token.TokenKind.{TokenKind}
use Rattle.mo_syntax.specs.declared.token.TokenKind.TheVariants as t
use Rattle.mo_syntax.specs.declared.word.Word.{Word}
use Rattle.mo_syntax.specs.declared.word.Word.TheVariants as w
use Rattle.mo_syntax.specs.declared.mark.Mark.{Mark}
use Rattle.mo_syntax.specs.declared.mark.Mark.TheVariants as m
use Rattle.mo_syntax.specs.declared.operators.BinaryOperator.{BinaryOperator}
use Rattle.mo_syntax.specs.declared.operators.BinaryOperator.TheVariants as op
use Rattle.mo_syntax.specs.declared.declarations.Declaration.{Declaration}
use Rattle.mo_syntax.specs.declared.declarations.Declaration.TheVariants as d
use Rattle.mo_syntax.specs.declared.expressions.Expression.{Expression}
use Rattle.mo_syntax.specs.declared.expressions.Expression.TheVariants as e
use Rattle.mo_syntax.specs.Writing as W
use Rattle.mo_syntax.specs.Writing.{literal_token}
use Rattle.mo_syntax.specs.TypeGrammar.{type_tokens}
use Rattle.mo_syntax.specs.ExpressionGrammar.{first, expression_tokens, declaration_tokens, IsExpression, IsDeclaration, level_of, operator_token, assignment_token}
use Rattle.mo_syntax.proofs.ExpressionEquations as eq
use Rattle.mo_syntax.proofs.ExpressionInduction.{Cases, holds_Expression}
use Rattle.mo_parser_base.specs.declared.look.Look.TheVariants as l
use Rattle.mo_parser_base.specs.Input.{Input, Parser, and_then, pure, look, look_of, after, same_mark, expect, identifier, literal, brace}
use Rattle.mo_parser_base.proofs.Steps.{some_is}
use Rattle.mo_parser_base.proofs.Exact.{Exact, not_first}
use Rattle.mo_parser_base.proofs.Made.{ends_by}
use Rattle.mo_parser_types.specs.Types.{annotation}
use Rattle.mo_parser_expressions.specs.Expressions as p
use Rattle.mo_parser_expressions.specs.Signs as s
use Rattle.mo_parser_exact.specs.Ends.{EndsOperations, EndsExpression}
use Rattle.mo_parser_exact.proofs.Levels.{Next, only_expressions}
use Rattle.mo_parser_patterns.specs.Patterns.{a_list}
use Rattle.mo_parser_exact.proofs.Operands.{At, Inner}
use Rattle.mo_parser_exact.proofs.Blocks.{BodyAt, block_first}
use Rattle.mo_parser_exact.proofs.Bodies.{body_exact}
use Rattle.mo_parser_exact.proofs.Chains.{postfix_exact, unary_exact}
use Rattle.mo_parser_exact.proofs.Operations.{operations_exact}
use Rattle.mo_parser_exact.proofs.Expressions.{whole_exact}
use Rattle.mo_parser_exact.proofs.Declared.{declares, declaration_exact}

-- ---- no expression is without tokens

abbrev HasTokens : Expression → Type 0
HasTokens x = 0 < length (expression_tokens x)

begun : {z : Input} {a : TokenKind} {v : Input} → z ≡ a ∷ v → 0 < length z
begun same = subst (λ u. 0 < length u) (sym same) (omega arith)

longer : {z : Input} (a v : Input) → z ≡ a ++ v → 0 < length a → 0 < length z
longer a v same some = subst (λ u. 0 < length u) (sym same) (omega (arith, length-append a v))

actor_some : (in_parens : Bool) (x : Text) → HasTokens (e.ActorReference in_parens x)
actor_some true x = begun (eq.tokens_ActorReference true x)
actor_some false x = begun (eq.tokens_ActorReference false x)

some_cases : Cases (only_expressions HasTokens)
some_cases = record {
  Let = λ x0 x1 h0. tt;
  Var = λ x0 x1 x2 h0. tt;
  Func = λ x0 x1 x2 x3 x4 x5 h0. tt;
  TypeAlias = λ x0 x1 x2. tt;
  Class = λ x0 x1 x2 x3 x4 h0. tt;
  NamedObject = λ x0 x1 x2 h0. tt;
  Evaluate = λ x0 h0. tt;
  Assign = λ x0 x1 x2 h0 h1. longer (expression_tokens x1) (assignment_token x0 ∷ expression_tokens x2) (eq.tokens_Assign x0 x1 x2) h0;
  Annotated = λ x0 x1 h0. longer (expression_tokens x0) (t.Mark m.Colon ∷ type_tokens x1) (eq.tokens_Annotated x0 x1) h0;
  Binary = λ x0 x1 x2 h0 h1. longer (expression_tokens x1) (operator_token x0 ∷ expression_tokens x2) (eq.tokens_Binary x0 x1 x2) h0;
  If = λ x0 x1 x2 h0 h1 h2. begun (eq.tokens_If x0 x1 x2);
  Switch = λ x0 x1 x2 h0 h1. begun (eq.tokens_Switch x0 x1 x2);
  While = λ x0 x1 h0 h1. begun (eq.tokens_While x0 x1);
  Loop = λ x0 x1 h0 h1. begun (eq.tokens_Loop x0 x1);
  For = λ x0 x1 x2 h0 h1. begun (eq.tokens_For x0 x1 x2);
  Label = λ x0 x1 x2 h0. begun (eq.tokens_Label x0 x1 x2);
  Break = λ x0 x1 h0. begun (eq.tokens_Break x0 x1);
  Continue = λ x0. begun (eq.tokens_Continue x0);
  Return = λ x0 h0. begun (eq.tokens_Return x0);
  Do = λ x0 h0. begun (eq.tokens_Do x0);
  DoOptional = λ x0 h0. begun (eq.tokens_DoOptional x0);
  Await = λ x0 h0. begun (eq.tokens_Await x0);
  Throw = λ x0 h0. begun (eq.tokens_Throw x0);
  Try = λ x0 x1 x2 h0 h1. begun (eq.tokens_Try x0 x1 x2);
  Assert = λ x0 h0. begun (eq.tokens_Assert x0);
  Ignore = λ x0 h0. begun (eq.tokens_Ignore x0);
  Debug = λ x0 h0. begun (eq.tokens_Debug x0);
  Function = λ x0 x1 x2 x3 h0. begun (eq.tokens_Function x0 x1 x2 x3);
  ObjectBlock = λ x0 x1 h0. begun (eq.tokens_ObjectBlock x0 x1);
  Optional = λ x0 h0. begun (eq.tokens_Optional x0);
  Negative = λ x0 h0. begun (eq.tokens_Negative x0);
  Not = λ x0 h0. begun (eq.tokens_Not x0);
  Tagged = λ x0 x1 h0. begun (eq.tokens_Tagged x0 x1);
  Member = λ x0 x1 h0. longer (expression_tokens x0) (t.Mark m.Dot ∷ t.Identifier x1 ∷ []) (eq.tokens_Member x0 x1) h0;
  Projection = λ x0 x1 h0. longer (expression_tokens x0) (t.Mark m.Dot ∷ t.Number x1 ∷ []) (eq.tokens_Projection x0 x1) h0;
  Index = λ x0 x1 h0 h1. longer (expression_tokens x0) (W.brackets (expression_tokens x1)) (eq.tokens_Index x0 x1) h0;
  Call = λ x0 x1 x2 h0 h1. longer (expression_tokens x0) (W.angles (option_map (map type_tokens) x1) ++ W.parens (W.commas (map expression_tokens x2))) (eq.tokens_Call x0 x1 x2) h0;
  Bang = λ x0 h0. longer (expression_tokens x0) (t.Mark m.Bang ∷ []) (eq.tokens_Bang x0) h0;
  Constant = λ x0. begun (eq.tokens_Constant x0);
  Variable = λ x0. begun (eq.tokens_Variable x0);
  Parenthesized = λ x0 h0. begun (eq.tokens_Parenthesized x0);
  Array = λ x0 x1 h0. begun (eq.tokens_Array x0 x1);
  Object = λ x0 x1 h0. begun (eq.tokens_Object x0 x1);
  ActorReference = λ x0 x1. actor_some x0 x1;
  Block = λ x0 x1 h0. begun (eq.tokens_Block x0 x1);
  DeclarationField_ = λ x0 x1 h0. tt;
  Case_ = λ x0 x1 h0. tt;
  ExpressionField_ = λ x0 x1 x2 x3 h0. tt;
}

some_tokens : (x : Expression) → HasTokens x
some_tokens = holds_Expression (only_expressions HasTokens) some_cases

-- at no depth nothing is read

refused : {A : Type 0} {w : A → Input} {V : A → Next → Type 0} {S : Next → Type 0} → Exact 0 (λ i. None) w V S
refused = record { sound = λ i x r h. absurd (cc); complete = λ x r short good stops. absurd (omega arith) }

refused_expression : {V : Expression → Next → Type 0} {S : Next → Type 0} → Exact 1 (λ i. None) expression_tokens V S
refused_expression = record { sound = λ i x r h. absurd (cc); complete = λ x r short good stops. absurd (omega (arith, some_tokens x)) }

-- ---- what begins no expression

mark_must : (P : ℕ → Parser Expression) (D : Parser Declaration) (a : Mark) (j : Input) → s.begins (l.Mark a) ≡ false → p.whole P D (t.Mark a ∷ j) ≡ None
unfolding p.whole p.plain p.postfix p.atom p.constant literal
mark_must P D m.Question j never = absurd (cc)
mark_must P D m.Minus j never = absurd (cc)
mark_must P D m.Tag j never = absurd (cc)
mark_must P D m.ParenOpen j never = absurd (cc)
mark_must P D m.BracketOpen j never = absurd (cc)
mark_must P D m.BraceOpen j never = absurd (cc)
mark_must P D _ j never = refl

word_must : (P : ℕ → Parser Expression) (D : Parser Declaration) (a : Word) (j : Input) → s.begins (l.Reserved a) ≡ false → p.whole P D (t.Reserved a ∷ j) ≡ None
unfolding p.whole p.plain p.postfix p.atom p.constant literal
word_must P D w.True j never = absurd (cc)
word_must P D w.False j never = absurd (cc)
word_must P D w.Null j never = absurd (cc)
word_must P D w.Actor j never = absurd (cc)
word_must P D w.Not j never = absurd (cc)
word_must P D w.If j never = absurd (cc)
word_must P D w.Switch j never = absurd (cc)
word_must P D w.While j never = absurd (cc)
word_must P D w.Loop j never = absurd (cc)
word_must P D w.For j never = absurd (cc)
word_must P D w.Label j never = absurd (cc)
word_must P D w.Break j never = absurd (cc)
word_must P D w.Continue j never = absurd (cc)
word_must P D w.Return j never = absurd (cc)
word_must P D w.Do j never = absurd (cc)
word_must P D w.Await j never = absurd (cc)
word_must P D w.Throw j never = absurd (cc)
word_must P D w.Try j never = absurd (cc)
word_must P D w.Assert j never = absurd (cc)
word_must P D w.Ignore j never = absurd (cc)
word_must P D w.Debug j never = absurd (cc)
word_must P D w.Func j never = absurd (cc)
word_must P D w.Object j never = absurd (cc)
word_must P D _ j never = refl

whole_must : (P : ℕ → Parser Expression) (D : Parser Declaration) (i : Input) → s.begins (look i) ≡ false → p.whole P D i ≡ None
unfolding p.whole p.plain p.postfix p.atom p.constant literal
whole_must P D [] never = refl
whole_must P D (t.Mark a ∷ j) never = mark_must P D a j never
whole_must P D (t.Reserved a ∷ j) never = word_must P D a j never
whole_must P D (_ ∷ j) never = absurd (cc)

mark_must_postfix : (P : ℕ → Parser Expression) (D : Parser Declaration) (a : Mark) (j : Input) → s.begins_postfix (l.Mark a) ≡ false → p.postfix P D (t.Mark a ∷ j) ≡ None
unfolding p.postfix p.atom p.constant literal
mark_must_postfix P D m.ParenOpen j never = absurd (cc)
mark_must_postfix P D m.BracketOpen j never = absurd (cc)
mark_must_postfix P D m.BraceOpen j never = absurd (cc)
mark_must_postfix P D _ j never = refl

word_must_postfix : (P : ℕ → Parser Expression) (D : Parser Declaration) (a : Word) (j : Input) → s.begins_postfix (l.Reserved a) ≡ false → p.postfix P D (t.Reserved a ∷ j) ≡ None
unfolding p.postfix p.atom p.constant literal
word_must_postfix P D w.True j never = absurd (cc)
word_must_postfix P D w.False j never = absurd (cc)
word_must_postfix P D w.Null j never = absurd (cc)
word_must_postfix P D w.Actor j never = absurd (cc)
word_must_postfix P D _ j never = refl

postfix_must : (P : ℕ → Parser Expression) (D : Parser Declaration) (i : Input) → s.begins_postfix (look i) ≡ false → p.postfix P D i ≡ None
unfolding p.postfix p.atom p.constant literal
postfix_must P D [] never = refl
postfix_must P D (t.Mark a ∷ j) never = mark_must_postfix P D a j never
postfix_must P D (t.Reserved a ∷ j) never = word_must_postfix P D a j never
postfix_must P D (_ ∷ j) never = absurd (cc)

whole_no_func : (P : ℕ → Parser Expression) (D : Parser Declaration) (x : Name) (i : Input) → s.begins_parameters (look i) ≡ true → p.whole P D (t.Reserved w.Func ∷ t.Identifier x ∷ i) ≡ None
unfolding p.whole p.worded p.function_rule p.signed p.signature p.body p.block a_list annotation after expect same_mark identifier
whole_no_func P D x (t.Identifier y ∷ i) some = refl
whole_no_func P D x (t.Mark m.ParenOpen ∷ i) some = refl
whole_no_func P D x (t.Mark m.AngleOpen ∷ i) some = refl
whole_no_func P D x _ some = absurd (cc)

whole_no_object : (P : ℕ → Parser Expression) (D : Parser Declaration) (x : Name) (i : Input) → p.whole P D (t.Reserved w.Object ∷ t.Identifier x ∷ i) ≡ None
unfolding p.whole p.worded p.object_rule expect
whole_no_object P D x i = refl

expression_must : (d : ℕ) (i : Input) → s.begins (look i) ≡ false → p.expression_at d 0 i ≡ None
unfolding p.expression_at p.declaration_at p.readers p.level
expression_must zero i never = refl
expression_must (suc d) i never = whole_must (p.expression_at d) (p.declaration_at d) i never

expression_must_postfix : (d : ℕ) (i : Input) → s.begins_postfix (look i) ≡ false → p.expression_at d 9 i ≡ None
unfolding p.expression_at p.declaration_at p.readers p.level
expression_must_postfix zero i never = refl
expression_must_postfix (suc d) i never = postfix_must (p.expression_at d) (p.declaration_at d) i never

no_func_at : (d : ℕ) (x : Name) (i : Input) → s.begins_parameters (look i) ≡ true → p.expression_at d 0 (t.Reserved w.Func ∷ t.Identifier x ∷ i) ≡ None
unfolding p.expression_at p.declaration_at p.readers p.level
no_func_at zero x i some = refl
no_func_at (suc d) x i some = whole_no_func (p.expression_at d) (p.declaration_at d) x i some

no_object_at : (d : ℕ) (x : Name) (i : Input) → p.expression_at d 0 (t.Reserved w.Object ∷ t.Identifier x ∷ i) ≡ None
unfolding p.expression_at p.declaration_at p.readers p.level
no_object_at zero x i = refl
no_object_at (suc d) x i = whole_no_object (p.expression_at d) (p.declaration_at d) x i

-- ---- what begins no declaration

evaluated_must : (P : ℕ → Parser Expression) (D : Parser Declaration) (i : Input) → P 0 i ≡ None → p.evaluated P D i ≡ None
unfolding p.evaluated
evaluated_must P D i none = ap (λ o. and_then o (λ x. pure (d.Evaluate x))) none

word_no_declaration : (P : ℕ → Parser Expression) (D : Parser Declaration) (a : Word) (j : Input) → ((i : Input) → s.begins (look i) ≡ false → P 0 i ≡ None) → declares (l.Reserved a) ≡ false → p.declaration P D (t.Reserved a ∷ j) ≡ None
unfolding p.declaration
word_no_declaration P D w.Let j must never = absurd (cc)
word_no_declaration P D w.Var j must never = absurd (cc)
word_no_declaration P D w.TypeWord j must never = absurd (cc)
word_no_declaration P D w.Class j must never = absurd (cc)
word_no_declaration P D w.Func j must never = absurd (cc)
word_no_declaration P D w.Object j must never = absurd (cc)
word_no_declaration P D a j must never = evaluated_must P D (t.Reserved a ∷ j) (must (t.Reserved a ∷ j) never)

mark_no_declaration : (P : ℕ → Parser Expression) (D : Parser Declaration) (a : Mark) (j : Input) → ((i : Input) → s.begins (look i) ≡ false → P 0 i ≡ None) → declares (l.Mark a) ≡ false → p.declaration P D (t.Mark a ∷ j) ≡ None
unfolding p.declaration
mark_no_declaration P D m.BraceOpen j must never = refl
mark_no_declaration P D a j must never = evaluated_must P D (t.Mark a ∷ j) (must (t.Mark a ∷ j) never)

declaration_must : (P : ℕ → Parser Expression) (D : Parser Declaration) (i : Input) → ((i : Input) → s.begins (look i) ≡ false → P 0 i ≡ None) → declares (look i) ≡ false → p.declaration P D i ≡ None
unfolding p.declaration
declaration_must P D [] must never = evaluated_must P D [] (must [] refl)
declaration_must P D (t.Mark a ∷ j) must never = mark_no_declaration P D a j must never
declaration_must P D (t.Reserved a ∷ j) must never = word_no_declaration P D a j must never
declaration_must P D (_ ∷ j) must never = absurd (cc)

declaration_must_at : (d : ℕ) (i : Input) → declares (look i) ≡ false → p.declaration_at d i ≡ None
unfolding p.expression_at p.declaration_at p.readers
declaration_must_at zero i never = refl
declaration_must_at (suc d) i never = declaration_must (p.expression_at d) (p.declaration_at d) i (expression_must d) never

-- ---- to every depth

module _ (b : ℕ) (P : ℕ → Parser Expression) (D : Parser Declaration) (h : Inner b P D) where
  right_exact : (o : BinaryOperator) → Exact (suc b) (p.level P D (level_of o + 1)) expression_tokens (At (level_of o + 1)) (EndsOperations (level_of o + 1))
  unfolding p.level
  right_exact op.Power = ends_by (unary_exact b P D h) (λ n stops. stops.chain)
  right_exact op.Or = operations_exact b P D h 3 (omega arith) (omega arith)
  right_exact op.And = operations_exact b P D h 4 (omega arith) (omega arith)
  right_exact op.Equal = operations_exact b P D h 5 (omega arith) (omega arith)
  right_exact op.NotEqual = operations_exact b P D h 5 (omega arith) (omega arith)
  right_exact op.Less = operations_exact b P D h 5 (omega arith) (omega arith)
  right_exact op.Greater = operations_exact b P D h 5 (omega arith) (omega arith)
  right_exact op.LessEqual = operations_exact b P D h 5 (omega arith) (omega arith)
  right_exact op.GreaterEqual = operations_exact b P D h 5 (omega arith) (omega arith)
  right_exact op.Add = operations_exact b P D h 6 (omega arith) (omega arith)
  right_exact op.Subtract = operations_exact b P D h 6 (omega arith) (omega arith)
  right_exact op.Concat = operations_exact b P D h 6 (omega arith) (omega arith)
  right_exact op.AddWrap = operations_exact b P D h 6 (omega arith) (omega arith)
  right_exact op.SubtractWrap = operations_exact b P D h 6 (omega arith) (omega arith)
  right_exact op.Multiply = operations_exact b P D h 7 (omega arith) (omega arith)
  right_exact op.Divide = operations_exact b P D h 7 (omega arith) (omega arith)
  right_exact op.Remainder = operations_exact b P D h 7 (omega arith) (omega arith)
  right_exact op.MultiplyWrap = operations_exact b P D h 7 (omega arith) (omega arith)

-- Everything is read that has no more tokens than the depth.
pub inner_at : (d : ℕ) → Inner (suc d) (p.expression_at d) (p.declaration_at d)
unfolding p.expression_at p.declaration_at p.readers p.level
inner_at zero = record {
  whole = refused_expression;
  right = λ o. refused_expression;
  unary = refused_expression;
  postfix = refused_expression;
  bound = 0;
  enough = omega arith;
  declaration = refused;
  must_begin = expression_must 0;
  must_begin_postfix = expression_must_postfix 0;
  no_func = no_func_at 0;
  no_object = no_object_at 0;
  no_end = λ j. refl;
}
inner_at (suc d) = record {
  whole = whole_exact (suc d) (p.expression_at d) (p.declaration_at d) (inner_at d) (λ j. declaration_must_at d (t.Reserved w.Public ∷ j) refl) (λ j. declaration_must_at d (t.Reserved w.Private ∷ j) refl);
  right = right_exact (suc d) (p.expression_at d) (p.declaration_at d) (inner_at d);
  unary = unary_exact (suc d) (p.expression_at d) (p.declaration_at d) (inner_at d);
  postfix = postfix_exact (suc d) (p.expression_at d) (p.declaration_at d) (inner_at d);
  bound = suc d;
  enough = omega arith;
  declaration = declaration_exact (suc d) (p.expression_at d) (p.declaration_at d) (inner_at d) (λ j. declaration_must_at d (t.Reserved w.Public ∷ j) refl) (λ j. declaration_must_at d (t.Reserved w.Private ∷ j) refl);
  must_begin = expression_must (suc d);
  must_begin_postfix = expression_must_postfix (suc d);
  no_func = no_func_at (suc d);
  no_object = no_object_at (suc d);
  no_end = λ j. declaration_must_at (suc d) (brace ∷ j) refl;
}

declaration_at_exact : (d : ℕ) → Exact d (p.declaration_at d) declaration_tokens (λ x n. IsDeclaration x n) EndsExpression
unfolding p.expression_at p.declaration_at p.readers
declaration_at_exact zero = refused
declaration_at_exact (suc d) = declaration_exact (suc d) (p.expression_at d) (p.declaration_at d) (inner_at d) (λ j. declaration_must_at d (t.Reserved w.Public ∷ j) refl) (λ j. declaration_must_at d (t.Reserved w.Private ∷ j) refl)

-- ---- all expressions, declarations and bodies

pub an_expression_exact : (b : ℕ) → Exact b p.an_expression expression_tokens (λ x n. IsExpression x 0 n) EndsExpression
unfolding p.an_expression
an_expression_exact b = record {
  sound = λ i x r h. (inner_at (length i + 1)).whole.sound i x r h;
  complete = λ x r short good stops. let i : Input = expression_tokens x ++ r in
      (inner_at (length i + 1)).whole.complete x r (omega (arith, length-append (expression_tokens x) r)) good stops;
}

pub a_declaration_exact : (b : ℕ) → Exact b p.a_declaration declaration_tokens (λ x n. IsDeclaration x n) EndsExpression
unfolding p.a_declaration
a_declaration_exact b = record {
  sound = λ i x r h. (declaration_at_exact (length i + 1)).sound i x r h;
  complete = λ x r short good stops. let i : Input = declaration_tokens x ++ r in
      (declaration_at_exact (length i + 1)).complete x r (omega (arith, length-append (declaration_tokens x) r)) good stops;
}

body_at : (d : ℕ) (equal_sign : Bool) → Exact (suc d) (p.body (p.expression_at d) (p.declaration_at d) equal_sign) expression_tokens (BodyAt equal_sign) EndsExpression
body_at d equal_sign = body_exact (suc d) (p.expression_at d) (p.declaration_at d) (inner_at d) equal_sign

-- a body behind its `=`, or a block
pub a_body_exact : (b : ℕ) (equal_sign : Bool) → Exact b (p.a_body equal_sign) expression_tokens (BodyAt equal_sign) EndsExpression
unfolding p.a_body
a_body_exact b equal_sign = record {
  sound = λ i x r h. (body_at (length i + 1) equal_sign).sound i x r h;
  complete = λ x r short good stops. let i : Input = expression_tokens x ++ r in
      (body_at (length i + 1) equal_sign).complete x r (omega (arith, length-append (expression_tokens x) r)) good stops;
}

-- ---- what begins none

pub no_expression : (i : Input) → s.begins (look i) ≡ false → p.an_expression i ≡ None
unfolding p.an_expression
no_expression i never = expression_must (length i + 1) i never

pub no_declaration : (i : Input) → declares (look i) ≡ false → p.a_declaration i ≡ None
unfolding p.a_declaration
no_declaration i never = declaration_must_at (length i + 1) i never

-- a body begins with no token that begins no expression, unless with `{`
pub body_first : (equal_sign : Bool) (x : Expression) (r : Input) → BodyAt equal_sign x (first r) → EndsExpression (first r) →
    (tok : TokenKind) → s.begins (look_of tok) ≡ false → tok ≢ t.Mark m.BraceOpen → first (expression_tokens x ++ r) ≢ Some tok
body_first true x r good stops tok never differs =
    not_first p.an_expression tok x (expression_tokens x ++ r) r (λ j. no_expression (tok ∷ j) never) ((an_expression_exact (suc (length (expression_tokens x)))).complete x r (omega arith) good stops)
body_first false x r good stops tok never differs = let begins = block_first 1 (p.expression_at 0) (p.declaration_at 0) (inner_at 0) x (first r) good in
    subst (λ u. first (u ++ r) ≢ Some tok) (sym begins.1) (λ u. differs (sym (some_is (t.Mark m.BraceOpen) tok u)))
