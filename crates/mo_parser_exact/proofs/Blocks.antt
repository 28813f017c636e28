-- Blocks, conditions, cases, fields and bodies are read exactly.
use Rattle.std.proofs.Common.{◌≡◌, ℕ, suc, ◌<◌, Bool, true, false, List, [], ◌∷◌, ◌++◌, length, map, Some, None, refl, sym, ap, ◌∙◌, subst, arith, inl, inr, ◌⊎◌}
use Rattle.std.specs.Prelude.{◌≢◌}
use Rattle.mo_syntax.specs.declared.name.Name.{Name}
use Rattle.mo_syntax.specs.declared.token.TokenKind.{TokenKind}
use Rattle.mo_syntax.specs.declared.token.TokenKind.TheVariants as t
use Rattle.mo_syntax.specs.declared.mark.Mark.TheVariants as m
use Rattle.mo_syntax.specs.declared.literal.Literal.{Literal}
use Rattle.mo_syntax.specs.declared.literal.Literal.TheVariants as lit
use Rattle.mo_syntax.specs.declared.declarations.Declaration.{Declaration}
use Rattle.mo_syntax.specs.declared.expressions.Expression.{Expression}
use Rattle.mo_syntax.specs.declared.expressions.Expression.TheVariants as e
use Rattle.mo_syntax.specs.Writing as W
use Rattle.mo_syntax.specs.Writing.{literal_token}
use Rattle.mo_syntax.specs.Parts.{Listed, MayEnd}
use Rattle.mo_syntax.specs.ExpressionGrammar.{first, behind_last, expression_tokens, declaration_tokens, IsExpression, IsDeclaration, BeginsWithBrace}
use Rattle.mo_syntax.proofs.ExpressionEquations as eq
use Rattle.mo_syntax.proofs.ExpressionInduction.{Cases, holds_Expression}
use Rattle.mo_parser_base.specs.declared.look.Look.{Look}
use Rattle.mo_parser_base.specs.declared.look.Look.TheVariants as l
use Rattle.mo_parser_base.specs.Input.{Input, Parser, ◌▸◌, look, look_of, next, semicolon, brace, semicolons}
use Rattle.mo_parser_base.proofs.Steps.{look_mark, some_is}
use Rattle.mo_parser_base.proofs.Exact.{Took, Exact, Any, led_by, a_name, a_literal, fewer, made, makes, semicolons_exact}
use Rattle.mo_parser_base.proofs.Made.{made_behind, makes_behind, makes_as}
use Rattle.mo_parser_expressions.specs.Expressions as p
use Rattle.mo_parser_exact.specs.Ends.{EndsExpression}
use Rattle.mo_parser_exact.proofs.Levels as lev
use Rattle.mo_parser_exact.proofs.Levels.{Next, rule_in2, rule_out2, only_expressions, op_small, op_large, op_left, op_left_small, lowers, is_block}
use Rattle.mo_parser_exact.proofs.StepsMore.{cut}
use Rattle.mo_parser_exact.proofs.Operands.{At, Inner, ends_semicolon, ends_brace, arguments_exact}

-- what the grammar says of a block, or an expression that doesn't begin with `{`
abbrev pub Nested : Expression → Next → Type 0
Nested x n = IsExpression x 11 n ⊎ (IsExpression x 0 n × (BeginsWithBrace (expression_tokens x) → ⊥))

abbrev pub Condition : Expression → Next → Type 0
Condition x n = IsExpression x 10 None

abbrev pub BodyAt : Bool → Expression → Next → Type 0
BodyAt true x n = IsExpression x 0 n
BodyAt false x n = IsExpression x 11 n

abbrev to_block : List Declaration × Bool → Expression
to_block z = e.Block z.0 z.1

pub begun_look : (v r : Input) (a : TokenKind) → first v ≡ Some a → look (v ++ r) ≡ look_of a
begun_look [] r a h = absurd (cc)
begun_look (x ∷ v) r a h = ap look_of (some_is x a h)

pub not_brace : (v r : Input) → (first v ≡ Some (t.Mark m.BraceOpen) → ⊥) → first r ≢ Some (t.Mark m.BraceOpen) → look (v ++ r) ≢ l.Mark m.BraceOpen
not_brace [] [] a c = λ u. cc
not_brace [] (t.Mark m.BraceOpen ∷ r) a c = absurd (c refl)
not_brace [] (_ ∷ r) a c = λ u. cc
not_brace (t.Mark m.BraceOpen ∷ v) r a c = absurd (a refl)
not_brace (_ ∷ v) r a c = λ u. cc

module _ (b : ℕ) (P : ℕ → Parser Expression) (D : Parser Declaration) (h : Inner b P D) where
  -- ---- blocks

  block_parts : Exact b (t.Mark m.BraceOpen ▸ semicolons D) (λ z. t.Mark m.BraceOpen ∷ (W.semicolons (map declaration_tokens z.0) z.1 ++ brace ∷ []))
      (λ z n. Listed (λ x k. IsDeclaration x (Some k)) semicolon (behind_last z.1) z.0 × MayEnd z.0 z.1) Any
  block_parts = fewer (led_by (t.Mark m.BraceOpen) tt (cut h.enough (semicolons_exact h.declaration ends_semicolon ends_brace h.no_end)))

  block_ok : (i : Input) (y : Expression) (r : Input) → p.block P D i ≡ Some (y, r) → Took expression_tokens (At 11) y i r
  unfolding p.block
  block_ok i y r h0 = made block_parts to_block expression_tokens (At 11) (λ z. eq.tokens_Block z.0 z.1) (λ z n good. rule_in2 (eq.rule_Block z.0 z.1) 11 n (refl, good)) i y r h0

  block_done : (x : Expression) (r : Input) → length (expression_tokens x) < b → IsExpression x 11 (first r) → p.block P D (expression_tokens x ++ r) ≡ Some (x, r)
  unfolding p.block
  block_done x r short good = let is = is_block x (first r) good in
      subst (λ u. length (expression_tokens u) < b → IsExpression u 11 (first r) → p.block P D (expression_tokens u ++ r) ≡ Some (u, r)) (sym is.2)
      (λ short' good'. makes block_parts to_block expression_tokens (is.0, is.1) (eq.tokens_Block is.0 is.1) r short' (rule_out2 (eq.rule_Block is.0 is.1) 11 (first r) good').1 tt) short good

  pub block_exact : Exact b (p.block P D) expression_tokens (At 11) Any
  block_exact = record { sound = block_ok; complete = λ x r short good _. block_done x r short good }

  -- a block begins with its brace
  pub block_first : (x : Expression) (n : Next) → IsExpression x 11 n → (v : Input) × (expression_tokens x ≡ t.Mark m.BraceOpen ∷ v)
  block_first x n good = let is = is_block x n good in
      subst (λ u. (v : Input) × (expression_tokens u ≡ t.Mark m.BraceOpen ∷ v)) (sym is.2) (W.semicolons (map declaration_tokens is.0) is.1 ++ brace ∷ [], eq.tokens_Block is.0 is.1)

  -- ---- a block, or an expression

  nested_by_ok : (a : Look) (i : Input) (y : Expression) (r : Input) → look i ≡ a → p.nested_by P D a i ≡ Some (y, r) → Took expression_tokens Nested y i r
  nested_by_ok (l.Mark m.BraceOpen) i y r is h0 = let took = block_ok i y r h0 in record { text = took.text; good = inl took.good }
  nested_by_ok _ i y r is h0 = let took = h.whole.sound i y r h0 in record {
    text = took.text;
    good = inr (took.good, λ starts. let open_ : look i ≡ l.Mark m.BraceOpen = ap look took.text ∙ begun_look (expression_tokens y) r (t.Mark m.BraceOpen) starts in absurd (cc));
  }

  pub nested_same : (a : Look) → a ≢ l.Mark m.BraceOpen → p.nested_by P D a ≡ P 0
  nested_same (l.Mark m.BraceOpen) differs = absurd (differs refl)
  nested_same _ differs = refl

  nested_done : (x : Expression) (r : Input) → length (expression_tokens x) < b → Nested x (first r) → EndsExpression (first r) → p.nested P D (expression_tokens x ++ r) ≡ Some (x, r)
  unfolding p.nested
  nested_done x r short (inl good) stops = let begins = block_first x (first r) good in
      subst (λ u. p.nested P D (u ++ r) ≡ p.block P D (u ++ r)) (sym begins.1) refl ∙ block_done x r short good
  nested_done x r short (inr good) stops =
      ap (λ q. q (expression_tokens x ++ r)) (nested_same (look (expression_tokens x ++ r)) (not_brace (expression_tokens x) r good.1 stops.brace)) ∙ h.whole.complete x r short good.0 stops

  pub nested_exact : Exact b (p.nested P D) expression_tokens Nested EndsExpression
  unfolding p.nested
  nested_exact = record { sound = λ i y r h0. nested_by_ok (look i) i y r refl h0; complete = nested_done }

  -- ---- conditions

  condition_by_ok : (a : Look) (i : Input) (y : Expression) (r : Input) → look i ≡ a → p.condition_by P D a i ≡ Some (y, r) → Took expression_tokens Condition y i r
  unfolding p.variable p.constant p.parenthesized
  condition_by_ok l.Identifier i y r is h0 = made (a_name b) e.Variable expression_tokens Condition eq.tokens_Variable (λ z n good. rule_in2 (eq.rule_Variable z) 10 None (omega arith)) i y r h0
  condition_by_ok (l.Mark m.ParenOpen) i y r is h0 =
      made_behind (t.Mark m.ParenOpen) (arguments_exact b P D h) e.Parenthesized expression_tokens Condition eq.tokens_Parenthesized
      (λ z n good. rule_in2 (eq.rule_Parenthesized z) 10 None (omega arith, good)) i (next i) (look_mark i m.ParenOpen is) y r h0
  condition_by_ok _ i y r is h0 = made (a_literal b) e.Constant expression_tokens Condition eq.tokens_Constant (λ z n good. rule_in2 (eq.rule_Constant z) 10 None (omega arith)) i y r h0

  abbrev Tests : Expression → Type 0
  Tests x = (r : Input) → length (expression_tokens x) < suc b → IsExpression x 10 None → p.condition P D (expression_tokens x ++ r) ≡ Some (x, r)

  tests_variable : (x : Name) → Tests (e.Variable x)
  unfolding p.condition p.variable
  tests_variable x r short good = makes_as (a_name (suc b)) e.Variable expression_tokens x (eq.tokens_Variable x) (p.condition P D) r refl short tt tt

  constant_begins : (x : Literal) (r : Input) → p.condition P D (literal_token x ∷ r) ≡ p.constant P D (literal_token x ∷ r)
  unfolding p.condition
  constant_begins (lit.Number n) r = refl
  constant_begins (lit.Character n) r = refl
  constant_begins (lit.Text n) r = refl
  constant_begins lit.True r = refl
  constant_begins lit.False r = refl
  constant_begins lit.Null r = refl

  tests_constant : (x : Literal) → Tests (e.Constant x)
  unfolding p.constant
  tests_constant x r short good = makes_as (a_literal (suc b)) e.Constant expression_tokens x (eq.tokens_Constant x) (p.condition P D) r (constant_begins x r) short tt tt

  tests_parenthesized : (xs : List Expression) → Tests (e.Parenthesized xs)
  unfolding p.condition p.parenthesized
  tests_parenthesized xs r short good =
      makes_behind (t.Mark m.ParenOpen) (arguments_exact b P D h) e.Parenthesized expression_tokens xs (eq.tokens_Parenthesized xs) (p.condition P D) r refl short (rule_out2 (eq.rule_Parenthesized xs) 10 None good).1 tt

  tests_cases : Cases (only_expressions Tests)
  tests_cases = record {
    Let = λ x0 x1 h0. tt;
    Var = λ x0 x1 x2 h0. tt;
    Func = λ x0 x1 x2 x3 x4 x5 h0. tt;
    TypeAlias = λ x0 x1 x2. tt;
    Class = λ x0 x1 x2 x3 x4 h0. tt;
    NamedObject = λ x0 x1 x2 h0. tt;
    Evaluate = λ x0 h0. tt;
    Assign = λ x0 x1 x2 h0 h1. λ r short good. absurd (let u = lev.at_Assign x0 x1 x2 10 None good in omega arith);
    Annotated = λ x0 x1 h0. λ r short good. absurd (let u = lev.at_Annotated x0 x1 10 None good in omega arith);
    Binary = λ x0 x1 x2 h0 h1. λ r short good. absurd (let u = lev.at_Binary x0 x1 x2 10 None good in omega (arith, op_small x0));
    If = λ x0 x1 x2 h0 h1 h2. λ r short good. absurd (let u = lev.at_If x0 x1 x2 10 None good in omega arith);
    Switch = λ x0 x1 x2 h0 h1. λ r short good. absurd (let u = lev.at_Switch x0 x1 x2 10 None good in omega arith);
    While = λ x0 x1 h0 h1. λ r short good. absurd (let u = lev.at_While x0 x1 10 None good in omega arith);
    Loop = λ x0 x1 h0 h1. λ r short good. absurd (let u = lev.at_Loop x0 x1 10 None good in omega arith);
    For = λ x0 x1 x2 h0 h1. λ r short good. absurd (let u = lev.at_For x0 x1 x2 10 None good in omega arith);
    Label = λ x0 x1 x2 h0. λ r short good. absurd (let u = lev.at_Label x0 x1 x2 10 None good in omega arith);
    Break = λ x0 x1 h0. λ r short good. absurd (let u = lev.at_Break x0 x1 10 None good in omega arith);
    Continue = λ x0. λ r short good. absurd (let u = lev.at_Continue x0 10 None good in omega arith);
    Return = λ x0 h0. λ r short good. absurd (let u = lev.at_Return x0 10 None good in omega arith);
    Do = λ x0 h0. λ r short good. absurd (let u = lev.at_Do x0 10 None good in omega arith);
    DoOptional = λ x0 h0. λ r short good. absurd (let u = lev.at_DoOptional x0 10 None good in omega arith);
    Await = λ x0 h0. λ r short good. absurd (let u = lev.at_Await x0 10 None good in omega arith);
    Throw = λ x0 h0. λ r short good. absurd (let u = lev.at_Throw x0 10 None good in omega arith);
    Try = λ x0 x1 x2 h0 h1. λ r short good. absurd (let u = lev.at_Try x0 x1 x2 10 None good in omega arith);
    Assert = λ x0 h0. λ r short good. absurd (let u = lev.at_Assert x0 10 None good in omega arith);
    Ignore = λ x0 h0. λ r short good. absurd (let u = lev.at_Ignore x0 10 None good in omega arith);
    Debug = λ x0 h0. λ r short good. absurd (let u = lev.at_Debug x0 10 None good in omega arith);
    Function = λ x0 x1 x2 x3 h0. λ r short good. absurd (let u = lev.at_Function x0 x1 x2 x3 10 None good in omega arith);
    ObjectBlock = λ x0 x1 h0. λ r short good. absurd (let u = lev.at_ObjectBlock x0 x1 10 None good in omega arith);
    Optional = λ x0 h0. λ r short good. absurd (let u = lev.at_Optional x0 10 None good in omega arith);
    Negative = λ x0 h0. λ r short good. absurd (let u = lev.at_Negative x0 10 None good in omega arith);
    Not = λ x0 h0. λ r short good. absurd (let u = lev.at_Not x0 10 None good in omega arith);
    Tagged = λ x0 x1 h0. λ r short good. absurd (let u = lev.at_Tagged x0 x1 10 None good in omega arith);
    Member = λ x0 x1 h0. λ r short good. absurd (let u = lev.at_Member x0 x1 10 None good in omega arith);
    Projection = λ x0 x1 h0. λ r short good. absurd (let u = lev.at_Projection x0 x1 10 None good in omega arith);
    Index = λ x0 x1 h0 h1. λ r short good. absurd (let u = lev.at_Index x0 x1 10 None good in omega arith);
    Call = λ x0 x1 x2 h0 h1. λ r short good. absurd (let u = lev.at_Call x0 x1 x2 10 None good in omega arith);
    Bang = λ x0 h0. λ r short good. absurd (let u = lev.at_Bang x0 10 None good in omega arith);
    Constant = λ x0. tests_constant x0;
    Variable = λ x0. tests_variable x0;
    Parenthesized = λ x0 h0. tests_parenthesized x0;
    Array = λ x0 x1 h0. λ r short good. absurd (let u = lev.at_Array x0 x1 10 None good in omega arith);
    Object = λ x0 x1 h0. λ r short good. absurd (let u = lev.at_Object x0 x1 10 None good in omega arith);
    ActorReference = λ x0 x1. λ r short good. absurd (let u = lev.at_ActorReference x0 x1 10 None good in omega arith);
    Block = λ x0 x1 h0. λ r short good. absurd (let u = lev.at_Block x0 x1 10 None good in omega arith);
    DeclarationField_ = λ x0 x1 h0. tt;
    Case_ = λ x0 x1 h0. tt;
    ExpressionField_ = λ x0 x1 x2 x3 h0. tt;
  }

  pub condition_exact : Exact b (p.condition P D) expression_tokens Condition Any
  unfolding p.condition
  condition_exact = record {
    sound = λ i y r h0. condition_by_ok (look i) i y r refl h0;
    complete = λ x r short good _. holds_Expression (only_expressions Tests) tests_cases x r (omega arith) good;
  }
