-- Expressions and declarations: how they are written, and which the grammar has.
--
--     dec     = "let" pat "=" exp | "var" id [":" type] "=" exp
--             | "func" id [tparams] params [":" type] body
--             | "type" id ["<" id,* ">"] "=" type
--             | "class" id [tparams] params "{" ofield;* "}"
--             | "object" id "{" ofield;* "}" | exp
--     ofield  = ["public"|"private"] dec
--     body    = block | "=" exp
--     block   = "{" dec;* "}"
--     exp     = ann | postfix assignop exp | word
--     ann     = bin {":" type}
--     word    = "if" C N ["else" N] | "switch" C "{" ("case" cpat N);* "}"
--             | "while" C N | "loop" N ["while" C] | "for" "(" pat "in" exp ")" N
--             | "label" id [":" type] N | "break" id [exp] | "continue" id
--             | "return" [exp] | "do" block | "do" "?" block
--             | "await" N | "throw" N | "try" N "catch" cpat N
--             | "assert" N | "ignore" N | "debug" N
--             | "func" params [":" type] body | "object" "{" ofield;* "}"
--     C       = id | literal | "(" exp,* ")"
--     N       = block | exp
--     un      = "?" un | "-" un | "not" un | tag [postfix] | postfix
--     postfix = atom {"." id | "." number | "[" exp "]" | ["<" type,* ">"] "(" exp,* ")" | "!"}
--     atom    = literal | id | "(" exp,* ")" | "[" ["var"] exp,* "]" | "{" efield;* "}"
--             | "actor" text | "actor" "(" text ")"
--     efield  = ["var"] id [":" type] ["=" exp]
--
-- `bin` is built of `un` with these levels, loosest first: `or`; `and`; `== != < > <= >=` (no chain); `+ - # +% -%`; `* / % *%`; `**`.
-- All but the comparisons group to the left. `else` belongs to the nearest `if`, `while` after `loop N` to the nearest `loop`. An optional
-- `exp`, payload or `else` is taken where the next token can begin it. In `N` a `{` opens a block, elsewhere in an expression an object.
-- A `dec` doesn't begin with `{`.
use Rattle.std.specs.Prelude.{◌≡◌, ◌≢◌, ◌⊎◌, ℕ, ◌≤◌, ◌+◌, Bool, true, false, List, [], ◌∷◌, ◌++◌, Option, Some, None, option_map, map}
use Rattle.mo_syntax.specs.declared.token.TokenKind.{TokenKind}
use Rattle.mo_syntax.specs.declared.token.TokenKind.TheVariants as t
use Rattle.mo_syntax.specs.declared.word.Word.{Word}
use Rattle.mo_syntax.specs.declared.word.Word.TheVariants as w
use Rattle.mo_syntax.specs.declared.mark.Mark.{Mark}
use Rattle.mo_syntax.specs.declared.mark.Mark.TheVariants as m
use Rattle.mo_syntax.specs.declared.operators.BinaryOperator.{BinaryOperator}
use Rattle.mo_syntax.specs.declared.operators.BinaryOperator.TheVariants as op
use Rattle.mo_syntax.specs.declared.operators.AssignmentOperator.{AssignmentOperator}
use Rattle.mo_syntax.specs.declared.operators.AssignmentOperator.TheVariants as assign
use Rattle.mo_syntax.specs.declared.declarations.Visibility.{Visibility}
use Rattle.mo_syntax.specs.declared.declarations.Visibility.TheVariants as visible
use Rattle.mo_syntax.specs.declared.expressions.Expression.{Expression, Expression-F, fold-Expression, rec-Expression}
use Rattle.mo_syntax.specs.declared.expressions.Case.{Case, fold-Case, rec-Case}
use Rattle.mo_syntax.specs.declared.expressions.ExpressionField.{ExpressionField, fold-ExpressionField, rec-ExpressionField}
use Rattle.mo_syntax.specs.declared.declarations.Declaration.{Declaration, Declaration-F, fold-Declaration, rec-Declaration}
use Rattle.mo_syntax.specs.declared.declarations.DeclarationField.{DeclarationField, fold-DeclarationField, rec-DeclarationField}
use Rattle.mo_syntax.specs.declared.declarations.Declaration.TheOpen as F
use Rattle.mo_syntax.specs.Writing.{Writing, marked, led, optional, commas, semicolons, annotation, parens, brackets, braces, angles, tag, literal_token}
use Rattle.mo_syntax.specs.Parts.{Each, Within, Listed, MayEnd}
use Rattle.mo_syntax.specs.TypeGrammar.{type_tokens, type_parameters_tokens, IsType, AreTypeParameters, type}
use Rattle.mo_syntax.specs.PatternGrammar.{pattern_tokens, parameters_tokens, IsPattern, AreParameters, pat, patom}

-- ---- the writing

abbrev pub operator_token : BinaryOperator → TokenKind
operator_token op.Or = t.Reserved w.Or
operator_token op.And = t.Reserved w.And
operator_token op.Equal = t.Mark m.Equal
operator_token op.NotEqual = t.Mark m.NotEqual
operator_token op.Less = t.Mark m.Less
operator_token op.Greater = t.Mark m.Greater
operator_token op.LessEqual = t.Mark m.LessEqual
operator_token op.GreaterEqual = t.Mark m.GreaterEqual
operator_token op.Add = t.Mark m.Plus
operator_token op.Subtract = t.Mark m.Minus
operator_token op.Concat = t.Mark m.Concat
operator_token op.AddWrap = t.Mark m.PlusWrap
operator_token op.SubtractWrap = t.Mark m.MinusWrap
operator_token op.Multiply = t.Mark m.Star
operator_token op.Divide = t.Mark m.Slash
operator_token op.Remainder = t.Mark m.Percent
operator_token op.MultiplyWrap = t.Mark m.StarWrap
operator_token op.Power = t.Mark m.Power

abbrev pub assignment_token : AssignmentOperator → TokenKind
assignment_token assign.Plain = t.Mark m.Assign
assignment_token assign.Add = t.Mark m.PlusAssign
assignment_token assign.Subtract = t.Mark m.MinusAssign
assignment_token assign.Multiply = t.Mark m.StarAssign
assignment_token assign.Divide = t.Mark m.SlashAssign
assignment_token assign.Remainder = t.Mark m.PercentAssign
assignment_token assign.Power = t.Mark m.PowerAssign
assignment_token assign.Concat = t.Mark m.ConcatAssign
assignment_token assign.AddWrap = t.Mark m.PlusWrapAssign
assignment_token assign.SubtractWrap = t.Mark m.MinusWrapAssign
assignment_token assign.MultiplyWrap = t.Mark m.StarWrapAssign

-- `params [":" type]`, and the `=` that stands before a `body`
abbrev pub signature : Writing → Option Writing → Bool → Writing
signature parameters result equal_sign = parameters ++ (annotation result ++ marked equal_sign (t.Mark m.EqualSign))

abbrev pub declaration_step : Declaration-F Writing Writing Writing Writing Writing → Writing
declaration_step (F.Let p a) = t.Reserved w.Let ∷ pattern_tokens p ++ t.Mark m.EqualSign ∷ a
declaration_step (F.Var x kind a) = t.Reserved w.Var ∷ t.Identifier x ∷ annotation (option_map type_tokens kind) ++ t.Mark m.EqualSign ∷ a
declaration_step (F.Func x generics parameters result equal_sign body) =
    t.Reserved w.Func ∷ t.Identifier x ∷ type_parameters_tokens generics
    ++ (signature (parameters_tokens parameters) (option_map type_tokens result) equal_sign ++ body)
declaration_step (F.TypeAlias x names kind) = t.Reserved w.TypeWord ∷ t.Identifier x ∷ angles (option_map (map (λ y. t.Identifier y ∷ [])) names) ++ t.Mark m.EqualSign ∷ type_tokens kind
declaration_step (F.Class x generics parameters fields last) =
    t.Reserved w.Class ∷ t.Identifier x ∷ type_parameters_tokens generics ++ (parameters_tokens parameters ++ braces (semicolons fields last))
declaration_step (F.NamedObject x fields last) = t.Reserved w.Object ∷ t.Identifier x ∷ braces (semicolons fields last)
declaration_step (F.Evaluate a) = a

abbrev pub visibility_tokens : Option Visibility → Writing
visibility_tokens None = []
visibility_tokens (Some visible.Public) = t.Reserved w.Public ∷ []
visibility_tokens (Some visible.Private) = t.Reserved w.Private ∷ []

abbrev pub declaration_field_step : F.DeclarationField-F Writing Writing Writing Writing Writing → Writing
declaration_field_step x = visibility_tokens x.visibility ++ x.declaration

abbrev pub expression_step : Expression-F Writing Writing Writing Writing Writing → Writing
expression_step (F.Assign o a b) = a ++ assignment_token o ∷ b
expression_step (F.Annotated a kind) = a ++ t.Mark m.Colon ∷ type_tokens kind
expression_step (F.Binary o a b) = a ++ operator_token o ∷ b
expression_step (F.If c a otherwise) = t.Reserved w.If ∷ c ++ (a ++ led (t.Reserved w.Else) otherwise)
expression_step (F.Switch c cases last) = t.Reserved w.Switch ∷ c ++ braces (semicolons cases last)
expression_step (F.While c a) = t.Reserved w.While ∷ c ++ a
expression_step (F.Loop a c) = t.Reserved w.Loop ∷ a ++ led (t.Reserved w.While) c
expression_step (F.For p a b) = t.Reserved w.For ∷ parens (pattern_tokens p ++ t.Reserved w.In ∷ a) ++ b
expression_step (F.Label x kind a) = t.Reserved w.Label ∷ t.Identifier x ∷ annotation (option_map type_tokens kind) ++ a
expression_step (F.Break x a) = t.Reserved w.Break ∷ t.Identifier x ∷ optional a
expression_step (F.Continue x) = t.Reserved w.Continue ∷ t.Identifier x ∷ []
expression_step (F.Return a) = t.Reserved w.Return ∷ optional a
expression_step (F.Do a) = t.Reserved w.Do ∷ a
expression_step (F.DoOptional a) = t.Reserved w.Do ∷ t.Mark m.Question ∷ a
expression_step (F.Await a) = t.Reserved w.Await ∷ a
expression_step (F.Throw a) = t.Reserved w.Throw ∷ a
expression_step (F.Try a p b) = t.Reserved w.Try ∷ a ++ (t.Reserved w.Catch ∷ pattern_tokens p ++ b)
expression_step (F.Assert a) = t.Reserved w.Assert ∷ a
expression_step (F.Ignore a) = t.Reserved w.Ignore ∷ a
expression_step (F.Debug a) = t.Reserved w.Debug ∷ a
expression_step (F.Function parameters result equal_sign body) = t.Reserved w.Func ∷ signature (parameters_tokens parameters) (option_map type_tokens result) equal_sign ++ body
expression_step (F.ObjectBlock fields last) = t.Reserved w.Object ∷ braces (semicolons fields last)
expression_step (F.Optional a) = t.Mark m.Question ∷ a
expression_step (F.Negative a) = t.Mark m.Minus ∷ a
expression_step (F.Not a) = t.Reserved w.Not ∷ a
expression_step (F.Tagged x payload) = tag x ++ optional payload
expression_step (F.Member a x) = a ++ t.Mark m.Dot ∷ t.Identifier x ∷ []
expression_step (F.Projection a n) = a ++ t.Mark m.Dot ∷ t.Number n ∷ []
expression_step (F.Index a b) = a ++ brackets b
expression_step (F.Call a types arguments) = a ++ (angles (option_map (map type_tokens) types) ++ parens (commas arguments))
expression_step (F.Bang a) = a ++ t.Mark m.Bang ∷ []
expression_step (F.Constant literal) = literal_token literal ∷ []
expression_step (F.Variable x) = t.Identifier x ∷ []
expression_step (F.Parenthesized items) = parens (commas items)
expression_step (F.Array mutable items) = brackets (marked mutable (t.Reserved w.Var) ++ commas items)
expression_step (F.Object fields last) = braces (semicolons fields last)
expression_step (F.ActorReference false text) = t.Reserved w.Actor ∷ t.Text text ∷ []
expression_step (F.ActorReference true text) = t.Reserved w.Actor ∷ parens (t.Text text ∷ [])
expression_step (F.Block declarations last) = braces (semicolons declarations last)

abbrev pub case_step : F.Case-F Writing Writing Writing Writing Writing → Writing
case_step x = t.Reserved w.Case ∷ pattern_tokens x.pattern ++ x.body

abbrev pub expression_field_step : F.ExpressionField-F Writing Writing Writing Writing Writing → Writing
expression_field_step x = marked x.mutable (t.Reserved w.Var) ++ (t.Identifier x.name ∷ annotation (option_map type_tokens x.annotation) ++ led (t.Mark m.EqualSign) x.value)

unfoldable pub declaration_tokens : Declaration → Writing
declaration_tokens = fold-Declaration Writing Writing Writing Writing Writing declaration_step expression_step declaration_field_step case_step expression_field_step

unfoldable pub expression_tokens : Expression → Writing
expression_tokens = fold-Expression Writing Writing Writing Writing Writing declaration_step expression_step declaration_field_step case_step expression_field_step

unfoldable pub case_tokens : Case → Writing
case_tokens = fold-Case Writing Writing Writing Writing Writing declaration_step expression_step declaration_field_step case_step expression_field_step

unfoldable pub declaration_field_tokens : DeclarationField → Writing
declaration_field_tokens = fold-DeclarationField Writing Writing Writing Writing Writing declaration_step expression_step declaration_field_step case_step expression_field_step

unfoldable pub expression_field_tokens : ExpressionField → Writing
expression_field_tokens = fold-ExpressionField Writing Writing Writing Writing Writing declaration_step expression_step declaration_field_step case_step expression_field_step

-- ---- what can begin an expression

abbrev pub first : Writing → Option TokenKind
first [] = None
first (token ∷ tokens) = Some token

abbrev pub word_begins_postfix : Word → Bool
word_begins_postfix w.True = true
word_begins_postfix w.False = true
word_begins_postfix w.Null = true
word_begins_postfix w.Actor = true
word_begins_postfix _ = false

abbrev pub mark_begins_postfix : Mark → Bool
mark_begins_postfix m.ParenOpen = true
mark_begins_postfix m.BracketOpen = true
mark_begins_postfix m.BraceOpen = true
mark_begins_postfix _ = false

-- a token that can begin a `postfix`
abbrev pub begins_postfix : Option TokenKind → Bool
begins_postfix None = false
begins_postfix (Some (t.Identifier x)) = true
begins_postfix (Some (t.Number n)) = true
begins_postfix (Some (t.Character c)) = true
begins_postfix (Some (t.Text text)) = true
begins_postfix (Some (t.Reserved word)) = word_begins_postfix word
begins_postfix (Some (t.Mark mark)) = mark_begins_postfix mark

abbrev pub word_begins_exp : Word → Bool
word_begins_exp w.Not = true
word_begins_exp w.If = true
word_begins_exp w.Switch = true
word_begins_exp w.While = true
word_begins_exp w.Loop = true
word_begins_exp w.For = true
word_begins_exp w.Label = true
word_begins_exp w.Break = true
word_begins_exp w.Continue = true
word_begins_exp w.Return = true
word_begins_exp w.Do = true
word_begins_exp w.Await = true
word_begins_exp w.Throw = true
word_begins_exp w.Try = true
word_begins_exp w.Assert = true
word_begins_exp w.Ignore = true
word_begins_exp w.Debug = true
word_begins_exp w.Func = true
word_begins_exp w.Object = true
word_begins_exp word = word_begins_postfix word

abbrev pub mark_begins_exp : Mark → Bool
mark_begins_exp m.Question = true
mark_begins_exp m.Minus = true
mark_begins_exp m.Tag = true
mark_begins_exp mark = mark_begins_postfix mark

-- a token that can begin an `exp`
abbrev pub begins_exp : Option TokenKind → Bool
begins_exp (Some (t.Reserved word)) = word_begins_exp word
begins_exp (Some (t.Mark mark)) = mark_begins_exp mark
begins_exp token = begins_postfix token

-- ---- the grammar

-- the levels, the loosest first: an expression of one level stands where a looser one is wanted. Those of `bin` are 2 to 7.
abbrev pub exp : ℕ
exp = 0

abbrev pub ann : ℕ
ann = 1

abbrev pub level_of : BinaryOperator → ℕ
level_of op.Or = 2
level_of op.And = 3
level_of op.Equal = 4
level_of op.NotEqual = 4
level_of op.Less = 4
level_of op.Greater = 4
level_of op.LessEqual = 4
level_of op.GreaterEqual = 4
level_of op.Add = 5
level_of op.Subtract = 5
level_of op.Concat = 5
level_of op.AddWrap = 5
level_of op.SubtractWrap = 5
level_of op.Multiply = 6
level_of op.Divide = 6
level_of op.Remainder = 6
level_of op.MultiplyWrap = 6
level_of op.Power = 7

abbrev pub un : ℕ
un = 8

abbrev pub postfix : ℕ
postfix = 9

-- C
abbrev pub condition : ℕ
condition = 10

-- a block is an expression nowhere but where one is named
abbrev pub block : ℕ
block = 11

-- The level of a left operand: all but the comparisons group to the left, and these group to neither side.
abbrev pub left_level : BinaryOperator → ℕ
left_level op.Equal = 5
left_level op.NotEqual = 5
left_level op.Less = 5
left_level op.Greater = 5
left_level op.LessEqual = 5
left_level op.GreaterEqual = 5
left_level o = level_of o

abbrev pub semicolon : TokenKind
semicolon = t.Mark m.Semicolon

-- the token behind the last item of a list in braces
abbrev pub behind_last : Bool → TokenKind
behind_last true = semicolon
behind_last false = t.Mark m.BraceClose

abbrev pub BeginsWithBrace : Writing → Type 0
BeginsWithBrace tokens = first tokens ≡ Some (t.Mark m.BraceOpen)

-- An expression stands where the grammar wants one of a level, and the token behind it is the next one. `Is` says so of the parts,
-- and `written` is their writing.
module _ (Dec Exp InObject InSwitch InRecord : Type 0) (written : Exp → Writing)
    (IsDec : Dec → Option TokenKind → Type 0) (Is : Exp → ℕ → Option TokenKind → Type 0) (IsField : InObject → Option TokenKind → Type 0)
    (IsCase : InSwitch → Option TokenKind → Type 0) (IsEntry : InRecord → Option TokenKind → Type 0) where
  abbrev pub Declared : List Dec → Bool → Type 0
  Declared items last = Listed (λ x token. IsDec x (Some token)) semicolon (behind_last last) items × MayEnd items last

  abbrev pub Fields : List InObject → Bool → Type 0
  Fields items last = Listed (λ x token. IsField x (Some token)) semicolon (behind_last last) items × MayEnd items last

  abbrev pub Cases : List InSwitch → Bool → Type 0
  Cases items last = Listed (λ x token. IsCase x (Some token)) semicolon (behind_last last) items × MayEnd items last

  abbrev pub Entries : List InRecord → Bool → Type 0
  Entries items last = Listed (λ x token. IsEntry x (Some token)) semicolon (behind_last last) items × MayEnd items last

  -- `exp,*` before a closing mark
  abbrev pub Arguments : Mark → List Exp → Type 0
  Arguments close items = Listed (λ x token. Is x exp (Some token)) (t.Mark m.Comma) (t.Mark close) items

  -- N: in it a `{` opens a block
  abbrev pub Nested : Exp → Option TokenKind → Type 0
  Nested a next = Is a block next ⊎ (Is a exp next × (BeginsWithBrace (written a) → ⊥))

  -- C: nothing in it depends on the token behind it
  abbrev pub Condition : Exp → Type 0
  Condition c = Is c condition None

  abbrev pub Body : Bool → Exp → Option TokenKind → Type 0
  Body true a next = Is a exp next
  Body false a next = Is a block next

  abbrev pub declaration_rule : Declaration-F Dec Exp InObject InSwitch InRecord → Option TokenKind → Type 0
  declaration_rule (F.Let p a) next = IsPattern p pat × Is a exp next
  declaration_rule (F.Var x kind a) next = Within (λ b. IsType b type) kind × Is a exp next
  declaration_rule (F.Func x generics parameters result equal_sign body) next =
      AreTypeParameters generics × AreParameters parameters × Within (λ b. IsType b type) result × Body equal_sign body next
  declaration_rule (F.TypeAlias x names kind) next = IsType kind type
  declaration_rule (F.Class x generics parameters fields last) next = AreTypeParameters generics × AreParameters parameters × Fields fields last
  declaration_rule (F.NamedObject x fields last) next = Fields fields last
  declaration_rule (F.Evaluate a) next = Is a exp next × (BeginsWithBrace (written a) → ⊥)

  abbrev pub declaration_field_rule : F.DeclarationField-F Dec Exp InObject InSwitch InRecord → Option TokenKind → Type 0
  declaration_field_rule x next = IsDec x.declaration next

  abbrev pub expression_rule : Expression-F Dec Exp InObject InSwitch InRecord → ℕ → Option TokenKind → Type 0
  expression_rule (F.Assign o a b) l next = (l ≡ exp) × Is a postfix (Some (assignment_token o)) × Is b exp next
  expression_rule (F.Annotated a kind) l next = (l ≤ ann) × Is a ann (Some (t.Mark m.Colon)) × IsType kind type
  expression_rule (F.Binary o a b) l next = (l ≤ level_of o) × Is a (left_level o) (Some (operator_token o)) × Is b (level_of o + 1) next
  expression_rule (F.If c a None) l next = (l ≡ exp) × Condition c × Nested a next × (next ≢ Some (t.Reserved w.Else))
  expression_rule (F.If c a (Some b)) l next = (l ≡ exp) × Condition c × Nested a (Some (t.Reserved w.Else)) × Nested b next
  expression_rule (F.Switch c cases last) l next = (l ≡ exp) × Condition c × Cases cases last
  expression_rule (F.While c a) l next = (l ≡ exp) × Condition c × Nested a next
  expression_rule (F.Loop a None) l next = (l ≡ exp) × Nested a next × (next ≢ Some (t.Reserved w.While))
  expression_rule (F.Loop a (Some c)) l next = (l ≡ exp) × Nested a (Some (t.Reserved w.While)) × Condition c
  expression_rule (F.For p a b) l next = (l ≡ exp) × IsPattern p pat × Is a exp (Some (t.Mark m.ParenClose)) × Nested b next
  expression_rule (F.Label x kind a) l next = (l ≡ exp) × Within (λ b. IsType b type) kind × Nested a next
  expression_rule (F.Break x None) l next = (l ≡ exp) × (begins_exp next ≡ false)
  expression_rule (F.Break x (Some a)) l next = (l ≡ exp) × Is a exp next
  expression_rule (F.Continue x) l next = l ≡ exp
  expression_rule (F.Return None) l next = (l ≡ exp) × (begins_exp next ≡ false)
  expression_rule (F.Return (Some a)) l next = (l ≡ exp) × Is a exp next
  expression_rule (F.Do a) l next = (l ≡ exp) × Is a block next
  expression_rule (F.DoOptional a) l next = (l ≡ exp) × Is a block next
  expression_rule (F.Await a) l next = (l ≡ exp) × Nested a next
  expression_rule (F.Throw a) l next = (l ≡ exp) × Nested a next
  expression_rule (F.Try a p b) l next = (l ≡ exp) × Nested a (Some (t.Reserved w.Catch)) × IsPattern p patom × Nested b next
  expression_rule (F.Assert a) l next = (l ≡ exp) × Nested a next
  expression_rule (F.Ignore a) l next = (l ≡ exp) × Nested a next
  expression_rule (F.Debug a) l next = (l ≡ exp) × Nested a next
  expression_rule (F.Function parameters result equal_sign body) l next = (l ≡ exp) × AreParameters parameters × Within (λ b. IsType b type) result × Body equal_sign body next
  expression_rule (F.ObjectBlock fields last) l next = (l ≡ exp) × Fields fields last
  expression_rule (F.Optional a) l next = (l ≤ un) × Is a un next
  expression_rule (F.Negative a) l next = (l ≤ un) × Is a un next
  expression_rule (F.Not a) l next = (l ≤ un) × Is a un next
  expression_rule (F.Tagged x None) l next = (l ≤ un) × (begins_postfix next ≡ false)
  expression_rule (F.Tagged x (Some a)) l next = (l ≤ un) × Is a postfix next
  expression_rule (F.Member a x) l next = (l ≤ postfix) × Is a postfix (Some (t.Mark m.Dot))
  expression_rule (F.Projection a n) l next = (l ≤ postfix) × Is a postfix (Some (t.Mark m.Dot))
  expression_rule (F.Index a b) l next = (l ≤ postfix) × Is a postfix (Some (t.Mark m.BracketOpen)) × Is b exp (Some (t.Mark m.BracketClose))
  expression_rule (F.Call a None arguments) l next = (l ≤ postfix) × Is a postfix (Some (t.Mark m.ParenOpen)) × Arguments m.ParenClose arguments
  expression_rule (F.Call a (Some types) arguments) l next =
      (l ≤ postfix) × Is a postfix (Some (t.Mark m.AngleOpen)) × Each (λ b. IsType b type) types × Arguments m.ParenClose arguments
  expression_rule (F.Bang a) l next = (l ≤ postfix) × Is a postfix (Some (t.Mark m.Bang))
  expression_rule (F.Constant literal) l next = l ≤ condition
  expression_rule (F.Variable x) l next = l ≤ condition
  expression_rule (F.Parenthesized items) l next = (l ≤ condition) × Arguments m.ParenClose items
  expression_rule (F.Array mutable items) l next = (l ≤ postfix) × Arguments m.BracketClose items
  expression_rule (F.Object fields last) l next = (l ≤ postfix) × Entries fields last
  expression_rule (F.ActorReference in_parens text) l next = l ≤ postfix
  expression_rule (F.Block declarations last) l next = (l ≡ block) × Declared declarations last

  abbrev pub case_rule : F.Case-F Dec Exp InObject InSwitch InRecord → Option TokenKind → Type 0
  case_rule x next = IsPattern x.pattern patom × Nested x.body next

  abbrev pub value_rule : Option Exp → Option TokenKind → Type 0
  value_rule None next = Unit {0}
  value_rule (Some a) next = Is a exp next

  abbrev pub expression_field_rule : F.ExpressionField-F Dec Exp InObject InSwitch InRecord → Option TokenKind → Type 0
  expression_field_rule x next = Within (λ b. IsType b type) x.annotation × value_rule x.value next

-- the tree is an expression of the level, before the next token, and so on

unfoldable pub IsDeclaration : Declaration → Option TokenKind → Type 0
IsDeclaration = rec-Declaration (Option TokenKind → Type 0) (ℕ → Option TokenKind → Type 0) (Option TokenKind → Type 0) (Option TokenKind → Type 0) (Option TokenKind → Type 0)
    (λ D E O C R _ whole _ _ _. declaration_rule D E O C R (λ a. expression_tokens (whole a))) (λ D E O C R _ whole _ _ _. expression_rule D E O C R (λ a. expression_tokens (whole a)))
    (λ D E O C R _ whole _ _ _. declaration_field_rule D E O C R (λ a. expression_tokens (whole a))) (λ D E O C R _ whole _ _ _. case_rule D E O C R (λ a. expression_tokens (whole a)))
    (λ D E O C R _ whole _ _ _. expression_field_rule D E O C R (λ a. expression_tokens (whole a)))

unfoldable pub IsExpression : Expression → ℕ → Option TokenKind → Type 0
IsExpression = rec-Expression (Option TokenKind → Type 0) (ℕ → Option TokenKind → Type 0) (Option TokenKind → Type 0) (Option TokenKind → Type 0) (Option TokenKind → Type 0)
    (λ D E O C R _ whole _ _ _. declaration_rule D E O C R (λ a. expression_tokens (whole a))) (λ D E O C R _ whole _ _ _. expression_rule D E O C R (λ a. expression_tokens (whole a)))
    (λ D E O C R _ whole _ _ _. declaration_field_rule D E O C R (λ a. expression_tokens (whole a))) (λ D E O C R _ whole _ _ _. case_rule D E O C R (λ a. expression_tokens (whole a)))
    (λ D E O C R _ whole _ _ _. expression_field_rule D E O C R (λ a. expression_tokens (whole a)))

unfoldable pub IsCase : Case → Option TokenKind → Type 0
IsCase = rec-Case (Option TokenKind → Type 0) (ℕ → Option TokenKind → Type 0) (Option TokenKind → Type 0) (Option TokenKind → Type 0) (Option TokenKind → Type 0)
    (λ D E O C R _ whole _ _ _. declaration_rule D E O C R (λ a. expression_tokens (whole a))) (λ D E O C R _ whole _ _ _. expression_rule D E O C R (λ a. expression_tokens (whole a)))
    (λ D E O C R _ whole _ _ _. declaration_field_rule D E O C R (λ a. expression_tokens (whole a))) (λ D E O C R _ whole _ _ _. case_rule D E O C R (λ a. expression_tokens (whole a)))
    (λ D E O C R _ whole _ _ _. expression_field_rule D E O C R (λ a. expression_tokens (whole a)))

unfoldable pub IsDeclarationField : DeclarationField → Option TokenKind → Type 0
IsDeclarationField = rec-DeclarationField (Option TokenKind → Type 0) (ℕ → Option TokenKind → Type 0) (Option TokenKind → Type 0) (Option TokenKind → Type 0) (Option TokenKind → Type 0)
    (λ D E O C R _ whole _ _ _. declaration_rule D E O C R (λ a. expression_tokens (whole a))) (λ D E O C R _ whole _ _ _. expression_rule D E O C R (λ a. expression_tokens (whole a)))
    (λ D E O C R _ whole _ _ _. declaration_field_rule D E O C R (λ a. expression_tokens (whole a))) (λ D E O C R _ whole _ _ _. case_rule D E O C R (λ a. expression_tokens (whole a)))
    (λ D E O C R _ whole _ _ _. expression_field_rule D E O C R (λ a. expression_tokens (whole a)))

unfoldable pub IsExpressionField : ExpressionField → Option TokenKind → Type 0
IsExpressionField = rec-ExpressionField (Option TokenKind → Type 0) (ℕ → Option TokenKind → Type 0) (Option TokenKind → Type 0) (Option TokenKind → Type 0) (Option TokenKind → Type 0)
    (λ D E O C R _ whole _ _ _. declaration_rule D E O C R (λ a. expression_tokens (whole a))) (λ D E O C R _ whole _ _ _. expression_rule D E O C R (λ a. expression_tokens (whole a)))
    (λ D E O C R _ whole _ _ _. declaration_field_rule D E O C R (λ a. expression_tokens (whole a))) (λ D E O C R _ whole _ _ _. case_rule D E O C R (λ a. expression_tokens (whole a)))
    (λ D E O C R _ whole _ _ _. expression_field_rule D E O C R (λ a. expression_tokens (whole a)))
