-- What the next token is to an expression.
use Rattle.std.specs.Prelude.{ℕ, Bool, true, false, ◌&&◌, nat_le, Option, Some, None}
use Rattle.mo_syntax.specs.declared.word.Word.{Word}
use Rattle.mo_syntax.specs.declared.word.Word.TheVariants as w
use Rattle.mo_syntax.specs.declared.mark.Mark.TheVariants as m
use Rattle.mo_syntax.specs.declared.operators.BinaryOperator.{BinaryOperator}
use Rattle.mo_syntax.specs.declared.operators.BinaryOperator.TheVariants as op
use Rattle.mo_syntax.specs.declared.operators.AssignmentOperator.{AssignmentOperator}
use Rattle.mo_syntax.specs.declared.operators.AssignmentOperator.TheVariants as assign
use Rattle.mo_syntax.specs.ExpressionGrammar.{level_of, left_level, word_begins_exp, mark_begins_exp, word_begins_postfix, mark_begins_postfix}
use Rattle.mo_parser_base.specs.declared.look.Look.{Look}
use Rattle.mo_parser_base.specs.declared.look.Look.TheVariants as l

abbrev pub operator : Look → Option BinaryOperator
operator (l.Reserved w.Or) = Some op.Or
operator (l.Reserved w.And) = Some op.And
operator (l.Mark m.Equal) = Some op.Equal
operator (l.Mark m.NotEqual) = Some op.NotEqual
operator (l.Mark m.Less) = Some op.Less
operator (l.Mark m.Greater) = Some op.Greater
operator (l.Mark m.LessEqual) = Some op.LessEqual
operator (l.Mark m.GreaterEqual) = Some op.GreaterEqual
operator (l.Mark m.Plus) = Some op.Add
operator (l.Mark m.Minus) = Some op.Subtract
operator (l.Mark m.Concat) = Some op.Concat
operator (l.Mark m.PlusWrap) = Some op.AddWrap
operator (l.Mark m.MinusWrap) = Some op.SubtractWrap
operator (l.Mark m.Star) = Some op.Multiply
operator (l.Mark m.Slash) = Some op.Divide
operator (l.Mark m.Percent) = Some op.Remainder
operator (l.Mark m.StarWrap) = Some op.MultiplyWrap
operator (l.Mark m.Power) = Some op.Power
operator _ = None

abbrev pub level_at : Option BinaryOperator → ℕ
level_at None = 0
level_at (Some o) = level_of o

-- Whether an operator goes on with a left operand of a level, in an expression of at least some level.
abbrev pub goes : ℕ → ℕ → Option BinaryOperator → Bool
goes least height None = false
goes least height (Some o) = nat_le least (level_of o) && nat_le (left_level o) height

abbrev pub assignment : Look → Option AssignmentOperator
assignment (l.Mark m.Assign) = Some assign.Plain
assignment (l.Mark m.PlusAssign) = Some assign.Add
assignment (l.Mark m.MinusAssign) = Some assign.Subtract
assignment (l.Mark m.StarAssign) = Some assign.Multiply
assignment (l.Mark m.SlashAssign) = Some assign.Divide
assignment (l.Mark m.PercentAssign) = Some assign.Remainder
assignment (l.Mark m.PowerAssign) = Some assign.Power
assignment (l.Mark m.ConcatAssign) = Some assign.Concat
assignment (l.Mark m.PlusWrapAssign) = Some assign.AddWrap
assignment (l.Mark m.MinusWrapAssign) = Some assign.SubtractWrap
assignment (l.Mark m.StarWrapAssign) = Some assign.MultiplyWrap
assignment _ = None

-- whether a token begins an expression of the level of calls
abbrev pub begins_postfix : Look → Bool
begins_postfix l.End = false
begins_postfix (l.Reserved word) = word_begins_postfix word
begins_postfix (l.Mark mark) = mark_begins_postfix mark
begins_postfix _ = true

-- whether a token begins an expression
abbrev pub begins : Look → Bool
begins l.End = false
begins (l.Reserved word) = word_begins_exp word
begins (l.Mark mark) = mark_begins_exp mark
begins _ = true

-- whether a token begins an expression of one operand
abbrev pub begins_unary : Look → Bool
begins_unary (l.Mark m.Question) = true
begins_unary (l.Mark m.Minus) = true
begins_unary (l.Mark m.Tag) = true
begins_unary (l.Reserved w.Not) = true
begins_unary _ = false

-- Whether the third token says that `func` and a name begin a declaration: its type parameters or parameters follow.
abbrev pub begins_parameters : Look → Bool
begins_parameters l.Identifier = true
begins_parameters (l.Mark m.ParenOpen) = true
begins_parameters (l.Mark m.AngleOpen) = true
begins_parameters _ = false

abbrev pub is_name : Look → Bool
is_name l.Identifier = true
is_name _ = false

-- the tokens that go on with an operand
abbrev pub goes_on : Look → Bool
goes_on (l.Mark m.Dot) = true
goes_on (l.Mark m.BracketOpen) = true
goes_on (l.Mark m.AngleOpen) = true
goes_on (l.Mark m.ParenOpen) = true
goes_on (l.Mark m.Bang) = true
goes_on _ = false

-- the words that begin control flow
abbrev pub is_control : Word → Bool
is_control w.If = true
is_control w.Switch = true
is_control w.While = true
is_control w.Loop = true
is_control w.For = true
is_control w.Label = true
is_control w.Break = true
is_control w.Continue = true
is_control w.Return = true
is_control w.Do = true
is_control _ = false

-- the words that begin an expression that no operator goes on with
abbrev pub is_worded : Word → Bool
is_worded w.Await = true
is_worded w.Throw = true
is_worded w.Try = true
is_worded w.Assert = true
is_worded w.Ignore = true
is_worded w.Debug = true
is_worded w.Func = true
is_worded w.Object = true
is_worded word = is_control word
