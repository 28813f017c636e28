-- Reading expressions and declarations from left to right, rule by rule.
use Rattle.std.specs.Prelude.{ℕ, zero, suc, ◌+◌, ◌==◌, Bool, true, false, ◌&&◌, if◌then◌else◌, nat_lt, List, length, Option, Some, None}
use Rattle.mo_syntax.specs.declared.name.Name.{Name}
use Rattle.mo_syntax.specs.declared.token.TokenKind.TheVariants as t
use Rattle.mo_syntax.specs.declared.word.Word.{Word}
use Rattle.mo_syntax.specs.declared.word.Word.TheVariants as w
use Rattle.mo_syntax.specs.declared.mark.Mark.TheVariants as m
use Rattle.mo_syntax.specs.declared.operators.BinaryOperator.{BinaryOperator}
use Rattle.mo_syntax.specs.declared.operators.AssignmentOperator.{AssignmentOperator}
use Rattle.mo_syntax.specs.declared.types.TypeExpression.{TypeExpression}
use Rattle.mo_syntax.specs.declared.types.TypeParameter.{TypeParameter}
use Rattle.mo_syntax.specs.declared.patterns.Pattern.{Pattern}
use Rattle.mo_syntax.specs.declared.patterns.Parameters.{Parameters}
use Rattle.mo_syntax.specs.declared.declarations.Visibility.{Visibility}
use Rattle.mo_syntax.specs.declared.declarations.Visibility.TheVariants as visible
use Rattle.mo_syntax.specs.declared.declarations.Declaration.{Declaration}
use Rattle.mo_syntax.specs.declared.declarations.Declaration.TheVariants as d
use Rattle.mo_syntax.specs.declared.declarations.DeclarationField.{DeclarationField, roll-DeclarationField}
use Rattle.mo_syntax.specs.declared.expressions.Expression.{Expression}
use Rattle.mo_syntax.specs.declared.expressions.Expression.TheVariants as e
use Rattle.mo_syntax.specs.declared.expressions.Case.{Case, roll-Case}
use Rattle.mo_syntax.specs.declared.expressions.ExpressionField.{ExpressionField, roll-ExpressionField}
use Rattle.mo_syntax.specs.ExpressionGrammar.{level_of}
use Rattle.mo_parser_base.specs.declared.look.Look.{Look}
use Rattle.mo_parser_base.specs.declared.look.Look.TheVariants as l
use Rattle.mo_parser_base.specs.Input.{Parser, ◌>>=◌, ◌>>◌, ◌<$>◌, ◌&◌, ◌▸◌, ◌◂◌, pure, refuse, look, next, peek, skip, eat, behind, identifier, number, text, literal, commas, semicolons}
use Rattle.mo_parser_types.specs.Types.{a_type, annotation}
use Rattle.mo_parser_types.specs.Generics.{type_parameters, type_arguments, type_names}
use Rattle.mo_parser_patterns.specs.Patterns.{a_pattern, a_case_pattern, a_list}
use Rattle.mo_parser_expressions.specs.Signs.{operator, level_at, goes, assignment, begins_postfix, begins, begins_unary, begins_parameters, is_name, goes_on, is_control, is_worded}

-- ---- the trees of what is read

abbrev pub to_entry : Bool × (Name × (Option TypeExpression × Option Expression)) → ExpressionField
to_entry z = roll-ExpressionField (record { mutable = z.0; name = z.1.0; annotation = z.1.1.0; value = z.1.1.1 })

abbrev pub to_case : Pattern × Expression → Case
to_case z = roll-Case (record { pattern = z.0; body = z.1 })

abbrev pub to_member : Option Visibility × Declaration → DeclarationField
to_member z = roll-DeclarationField (record { visibility = z.0; declaration = z.1 })

abbrev pub Signature : Type 0
Signature = Parameters × (Option TypeExpression × Bool)

abbrev pub to_function : Signature × Expression → Expression
to_function z = e.Function z.0.0 z.0.1.0 z.0.1.1 z.1

abbrev pub to_func : Name × (Option (List TypeParameter) × (Signature × Expression)) → Declaration
to_func z = d.Func z.0 z.1.0 z.1.1.0.0 z.1.1.0.1.0 z.1.1.0.1.1 z.1.1.1

abbrev pub to_optional : Bool → Expression → Expression
to_optional true a = e.DoOptional a
to_optional false a = e.Do a

-- the rules, over parsers of inner expressions of a level and of inner declarations
module _ (P : ℕ → Parser Expression) (D : Parser Declaration) where
  -- ---- blocks, bodies and conditions

  unfoldable pub block : Parser Expression
  block = (λ z. e.Block z.0 z.1) <$> (t.Mark m.BraceOpen ▸ semicolons D)

  abbrev pub nested_by : Look → Parser Expression
  nested_by (l.Mark m.BraceOpen) = block
  nested_by _ = P 0

  -- a block, or an expression that doesn't begin with `{`
  unfoldable pub nested : Parser Expression
  nested = peek >>= nested_by

  unfoldable pub constant : Parser Expression
  constant = e.Constant <$> literal

  unfoldable pub variable : Parser Expression
  variable = e.Variable <$> identifier

  -- behind the `(`
  unfoldable pub parenthesized : Parser Expression
  parenthesized = e.Parenthesized <$> commas (P 0) (t.Mark m.ParenClose)

  abbrev pub condition_by : Look → Parser Expression
  condition_by l.Identifier = variable
  condition_by (l.Mark m.ParenOpen) = skip >> parenthesized
  condition_by _ = constant

  unfoldable pub condition : Parser Expression
  condition = peek >>= condition_by

  -- `params [":" type]`, and whether a `=` follows
  unfoldable pub signature : Parser Signature
  signature = a_list & (annotation & eat (t.Mark m.EqualSign))

  -- an expression behind its `=`, or a block
  unfoldable pub body : Bool → Parser Expression
  body equal_sign = if equal_sign then P 0 else block

  unfoldable pub signed : Parser (Signature × Expression)
  signed = signature >>= (λ s. body s.1.1 >>= (λ a. pure (s, a)))

  -- an expression, where the next token can begin one
  unfoldable pub optional : Parser (Option Expression)
  optional = peek >>= (λ a. if begins a then Some <$> P 0 else pure None)

  -- ---- fields and cases

  abbrev pub visibility_by : Look → Parser (Option Visibility)
  visibility_by (l.Reserved w.Public) = skip >> pure (Some visible.Public)
  visibility_by (l.Reserved w.Private) = skip >> pure (Some visible.Private)
  visibility_by _ = pure None

  unfoldable pub visibility : Parser (Option Visibility)
  visibility = peek >>= visibility_by

  -- a field of an object or class
  unfoldable pub member : Parser DeclarationField
  member = to_member <$> (visibility & D)

  -- behind the `{`
  unfoldable pub members : Parser (List DeclarationField × Bool)
  members = semicolons member

  unfoldable pub one_case : Parser Case
  one_case = to_case <$> (t.Reserved w.Case ▸ (a_case_pattern & nested))

  -- a field of a record
  unfoldable pub entry : Parser ExpressionField
  entry = to_entry <$> (eat (t.Reserved w.Var) & (identifier & (annotation & behind (t.Mark m.EqualSign) (P 0))))

  -- ---- declarations, behind their word

  unfoldable pub let_declaration : Parser Declaration
  let_declaration = (λ z. d.Let z.0 z.1) <$> (a_pattern & (t.Mark m.EqualSign ▸ P 0))

  unfoldable pub var_declaration : Parser Declaration
  var_declaration = (λ z. d.Var z.0 z.1.0 z.1.1) <$> (identifier & (annotation & (t.Mark m.EqualSign ▸ P 0)))

  unfoldable pub func_declaration : Parser Declaration
  func_declaration = to_func <$> (identifier & (type_parameters & signed))

  unfoldable pub type_declaration : Parser Declaration
  type_declaration = (λ z. d.TypeAlias z.0 z.1.0 z.1.1) <$> (identifier & (type_names & (t.Mark m.EqualSign ▸ a_type)))

  unfoldable pub class_declaration : Parser Declaration
  class_declaration = (λ z. d.Class z.0 z.1.0 z.1.1.0 z.1.1.1.0 z.1.1.1.1) <$> (identifier & (type_parameters & (a_list & (t.Mark m.BraceOpen ▸ members))))

  unfoldable pub object_declaration : Parser Declaration
  object_declaration = (λ z. d.NamedObject z.0 z.1.0 z.1.1) <$> (identifier & (t.Mark m.BraceOpen ▸ members))

  unfoldable pub evaluated : Parser Declaration
  evaluated = d.Evaluate <$> P 0

  -- `func` begins a declaration where a name and parameters follow, and `object` where a name does
  unfoldable pub func_or_expression : Parser Declaration
  func_or_expression = λ i. (if is_name (look (next i)) && begins_parameters (look (next (next i))) then skip >> func_declaration else evaluated) i

  unfoldable pub object_or_expression : Parser Declaration
  object_or_expression = λ i. (if is_name (look (next i)) then skip >> object_declaration else evaluated) i

  abbrev pub declaration_by : Look → Parser Declaration
  declaration_by (l.Reserved w.Let) = skip >> let_declaration
  declaration_by (l.Reserved w.Var) = skip >> var_declaration
  declaration_by (l.Reserved w.TypeWord) = skip >> type_declaration
  declaration_by (l.Reserved w.Class) = skip >> class_declaration
  declaration_by (l.Reserved w.Func) = func_or_expression
  declaration_by (l.Reserved w.Object) = object_or_expression
  declaration_by (l.Mark m.BraceOpen) = refuse
  declaration_by _ = evaluated

  unfoldable pub declaration : Parser Declaration
  declaration = peek >>= declaration_by

  -- ---- atoms

  unfoldable pub array : Parser Expression
  array = (λ z. e.Array z.0 z.1) <$> (eat (t.Reserved w.Var) & commas (P 0) (t.Mark m.BracketClose))

  unfoldable pub record_of : Parser Expression
  record_of = (λ z. e.Object z.0 z.1) <$> semicolons entry

  -- behind `actor`
  unfoldable pub actor_reference : Parser Expression
  actor_reference = eat (t.Mark m.ParenOpen) >>= (λ in_parens. (λ x. e.ActorReference in_parens x) <$> (if in_parens then text ◂ t.Mark m.ParenClose else text))

  abbrev pub atom_by : Look → Parser Expression
  atom_by l.Identifier = variable
  atom_by (l.Mark m.ParenOpen) = skip >> parenthesized
  atom_by (l.Mark m.BracketOpen) = skip >> array
  atom_by (l.Mark m.BraceOpen) = skip >> record_of
  atom_by (l.Reserved w.Actor) = skip >> actor_reference
  atom_by _ = constant

  unfoldable pub atom : Parser Expression
  atom = peek >>= atom_by

  -- ---- what goes on with an expression

  abbrev pub selected_by : Expression → Look → Parser Expression
  selected_by a l.Number = (λ n. e.Projection a n) <$> number
  selected_by a _ = (λ x. e.Member a x) <$> identifier

  -- behind the `.`
  unfoldable pub selected : Expression → Parser Expression
  selected a = peek >>= selected_by a

  unfoldable pub indexed : Expression → Parser Expression
  indexed a = (λ b. e.Index a b) <$> (P 0 ◂ t.Mark m.BracketClose)

  unfoldable pub called : Expression → Parser Expression
  called a = (λ z. e.Call a z.0 z.1) <$> (type_arguments & (t.Mark m.ParenOpen ▸ commas (P 0) (t.Mark m.ParenClose)))

  abbrev pub longer_by : Expression → Look → Parser Expression
  longer_by a (l.Mark m.Dot) = skip >> selected a
  longer_by a (l.Mark m.BracketOpen) = skip >> indexed a
  longer_by a (l.Mark m.AngleOpen) = called a
  longer_by a (l.Mark m.ParenOpen) = called a
  longer_by a (l.Mark m.Bang) = skip >> pure (e.Bang a)
  longer_by a _ = refuse

  unfoldable pub longer : Expression → Parser Expression
  longer a = peek >>= longer_by a

  -- the number bounds the turns
  unfoldable pub chain : ℕ → Expression → Parser Expression
  chain zero a = pure a
  chain (suc n) a = do
    next_is ← peek
    if goes_on next_is then (do b ← longer a; chain n b) else pure a

  unfoldable pub postfix : Parser Expression
  postfix = do
    a ← atom
    (λ i. chain (length i) a i)

  -- ---- one operand

  unfoldable pub payload : Parser (Option Expression)
  payload = peek >>= (λ a. if begins_postfix a then Some <$> P 9 else pure None)

  -- behind the mark of a tag
  unfoldable pub tagged : Parser Expression
  tagged = (λ z. e.Tagged z.0 z.1) <$> (identifier & payload)

  abbrev pub unary_by : Look → Parser Expression
  unary_by (l.Mark m.Question) = skip >> e.Optional <$> P 8
  unary_by (l.Mark m.Minus) = skip >> e.Negative <$> P 8
  unary_by (l.Reserved w.Not) = skip >> e.Not <$> P 8
  unary_by (l.Mark m.Tag) = skip >> tagged
  unary_by _ = postfix

  unfoldable pub unary : Parser Expression
  unary = peek >>= unary_by

  -- ---- two operands

  abbrev pub operated : Expression → Option BinaryOperator → Parser Expression
  operated a None = refuse
  operated a (Some o) = skip >> (λ b. e.Binary o a b) <$> P (level_of o + 1)

  -- Operators of at least a level go on with an operand of a level. The number behind them bounds the turns.
  unfoldable pub climb : ℕ → ℕ → ℕ → Expression → Parser Expression
  climb least height zero a = pure a
  climb least height (suc n) a = do
    next_is ← peek
    if goes least height (operator next_is) then (do b ← operated a (operator next_is); climb least (level_at (operator next_is)) n b) else pure a

  unfoldable pub climbed : ℕ → Expression → Parser Expression
  climbed least a = λ i. climb least 8 (length i) a i

  unfoldable pub operations : ℕ → Parser Expression
  operations least = unary >>= climbed least

  -- the types behind an expression; the number bounds the turns
  unfoldable pub annotations : ℕ → Expression → Parser Expression
  annotations zero a = pure a
  annotations (suc n) a = do
    more ← eat (t.Mark m.Colon)
    if more then (do kind ← a_type; annotations n (e.Annotated a kind)) else pure a

  unfoldable pub annotated : Expression → Parser Expression
  annotated a = λ i. annotations (length i) a i

  -- operators and types behind an operand
  unfoldable pub extended : Expression → Parser Expression
  extended a = climbed 2 a >>= annotated

  abbrev pub assigned_by : Expression → Option AssignmentOperator → Parser Expression
  assigned_by a None = extended a
  assigned_by a (Some o) = skip >> (λ b. e.Assign o a b) <$> P 0

  unfoldable pub assigned : Expression → Parser Expression
  assigned a = peek >>= (λ next_is. assigned_by a (assignment next_is))

  unfoldable pub plain : Parser Expression
  plain = peek >>= (λ next_is. if begins_unary next_is then (unary >>= extended) else (postfix >>= assigned))

  -- ---- the rules that begin with a word, behind it

  unfoldable pub if_rule : Parser Expression
  if_rule = (λ z. e.If z.0 z.1.0 z.1.1) <$> (condition & (nested & behind (t.Reserved w.Else) nested))

  unfoldable pub switch_rule : Parser Expression
  switch_rule = (λ z. e.Switch z.0 z.1.0 z.1.1) <$> (condition & (t.Mark m.BraceOpen ▸ semicolons one_case))

  unfoldable pub while_rule : Parser Expression
  while_rule = (λ z. e.While z.0 z.1) <$> (condition & nested)

  unfoldable pub loop_rule : Parser Expression
  loop_rule = (λ z. e.Loop z.0 z.1) <$> (nested & behind (t.Reserved w.While) condition)

  -- what a `for` goes over
  unfoldable pub binding : Parser (Pattern × Expression)
  binding = t.Mark m.ParenOpen ▸ ((a_pattern & (t.Reserved w.In ▸ P 0)) ◂ t.Mark m.ParenClose)

  unfoldable pub for_rule : Parser Expression
  for_rule = (λ z. e.For z.0.0 z.0.1 z.1) <$> (binding & nested)

  unfoldable pub label_rule : Parser Expression
  label_rule = (λ z. e.Label z.0 z.1.0 z.1.1) <$> (identifier & (annotation & nested))

  unfoldable pub break_rule : Parser Expression
  break_rule = (λ z. e.Break z.0 z.1) <$> (identifier & optional)

  unfoldable pub do_rule : Parser Expression
  do_rule = (λ z. to_optional z.0 z.1) <$> (eat (t.Mark m.Question) & block)

  unfoldable pub try_rule : Parser Expression
  try_rule = (λ z. e.Try z.0 z.1.0 z.1.1) <$> (nested & (t.Reserved w.Catch ▸ (a_case_pattern & nested)))

  unfoldable pub function_rule : Parser Expression
  function_rule = to_function <$> signed

  unfoldable pub object_rule : Parser Expression
  object_rule = (λ z. e.ObjectBlock z.0 z.1) <$> (t.Mark m.BraceOpen ▸ members)

  abbrev pub control : Word → Parser Expression
  control w.If = if_rule
  control w.Switch = switch_rule
  control w.While = while_rule
  control w.Loop = loop_rule
  control w.For = for_rule
  control w.Label = label_rule
  control w.Break = break_rule
  control w.Continue = e.Continue <$> identifier
  control w.Return = e.Return <$> optional
  control w.Do = do_rule
  control _ = refuse

  abbrev pub effect : Word → Parser Expression
  effect w.Await = e.Await <$> nested
  effect w.Throw = e.Throw <$> nested
  effect w.Try = try_rule
  effect w.Assert = e.Assert <$> nested
  effect w.Ignore = e.Ignore <$> nested
  effect w.Debug = e.Debug <$> nested
  effect w.Func = function_rule
  effect w.Object = object_rule
  effect _ = refuse

  -- an expression that begins with this word
  unfoldable pub worded : Word → Parser Expression
  worded word = skip >> (if is_control word then control word else effect word)

  abbrev pub whole_by : Look → Parser Expression
  whole_by (l.Reserved word) = if is_worded word then worded word else plain
  whole_by _ = plain

  unfoldable pub whole : Parser Expression
  whole = peek >>= whole_by

  unfoldable pub level : ℕ → Parser Expression
  level n = if n == 0 then whole else if nat_lt n 8 then operations n else if n == 8 then unary else postfix

-- ---- to a depth

pub record Readers : Type 0 where
  -- expressions of a level
  pub expressions : ℕ → Parser Expression
  pub declarations : Parser Declaration

unfoldable pub readers : ℕ → Readers
readers zero = record { expressions = λ n. refuse; declarations = refuse }
readers (suc depth) = record {
  expressions = level (readers depth).expressions (readers depth).declarations;
  declarations = declaration (readers depth).expressions (readers depth).declarations;
}

unfoldable pub expression_at : ℕ → ℕ → Parser Expression
expression_at depth = (readers depth).expressions

unfoldable pub declaration_at : ℕ → Parser Declaration
declaration_at depth = (readers depth).declarations

-- ---- from the outside

unfoldable pub an_expression : Parser Expression
an_expression = λ i. expression_at (length i + 1) 0 i

unfoldable pub a_declaration : Parser Declaration
a_declaration = λ i. declaration_at (length i + 1) i

-- a body behind its `=`, or a block
unfoldable pub a_body : Bool → Parser Expression
a_body equal_sign = λ i. body (expression_at (length i + 1)) (declaration_at (length i + 1)) equal_sign i
