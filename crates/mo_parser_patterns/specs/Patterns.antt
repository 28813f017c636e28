-- Reading patterns from left to right, rule by rule.
use Rattle.std.specs.Prelude.{ℕ, zero, suc, ◌+◌, Bool, true, false, if◌then◌else◌, List, length, Option, Some, None}
use Rattle.mo_syntax.specs.declared.name.Name.{Name}
use Rattle.mo_syntax.specs.declared.token.TokenKind.TheVariants as t
use Rattle.mo_syntax.specs.declared.word.Word.{Word}
use Rattle.mo_syntax.specs.declared.word.Word.TheVariants as w
use Rattle.mo_syntax.specs.declared.mark.Mark.{Mark}
use Rattle.mo_syntax.specs.declared.mark.Mark.TheVariants as m
use Rattle.mo_syntax.specs.declared.types.TypeExpression.{TypeExpression}
use Rattle.mo_syntax.specs.declared.patterns.Pattern.{Pattern}
use Rattle.mo_syntax.specs.declared.patterns.Pattern.TheVariants as e
use Rattle.mo_syntax.specs.declared.patterns.PatternField.{PatternField, roll-PatternField}
use Rattle.mo_syntax.specs.declared.patterns.Parameters.{Parameters}
use Rattle.mo_syntax.specs.declared.patterns.Parameters.TheVariants as parameters
use Rattle.mo_parser_base.specs.declared.look.Look.{Look}
use Rattle.mo_parser_base.specs.declared.look.Look.TheVariants as l
use Rattle.mo_parser_base.specs.Input.{Parser, ◌>>=◌, ◌>>◌, ◌<$>◌, ◌&◌, ◌▸◌, pure, refuse, peek, skip, eat, behind, identifier, literal, commas, semicolons}
use Rattle.mo_parser_types.specs.Types.{annotation}

abbrev pub to_field : Name × Option Pattern → PatternField
to_field z = roll-PatternField (record { name = z.0; pattern = z.1 })

abbrev pub annotated : Pattern → Option TypeExpression → Pattern
annotated p None = p
annotated p (Some a) = e.Annotated p a

-- whether the token begins the pattern that a tag carries
abbrev pub word_begins : Word → Bool
word_begins w.True = true
word_begins w.False = true
word_begins w.Null = true
word_begins _ = false

abbrev pub mark_begins : Mark → Bool
mark_begins m.Question = true
mark_begins m.Tag = true
mark_begins m.Underscore = true
mark_begins m.Minus = true
mark_begins m.ParenOpen = true
mark_begins m.BraceOpen = true
mark_begins _ = false

abbrev pub begins : Look → Bool
begins l.End = false
begins (l.Reserved word) = word_begins word
begins (l.Mark mark) = mark_begins mark
begins _ = true

module _ (P : ℕ → Parser Pattern) where
  unfoldable pub field : Parser PatternField
  field = to_field <$> (identifier & behind (t.Mark m.EqualSign) (P 0))

  -- behind the opening mark
  unfoldable pub parenthesized : Parser Pattern
  parenthesized = e.Parenthesized <$> commas (P 0) (t.Mark m.ParenClose)

  unfoldable pub object : Parser Pattern
  object = (λ z. e.Object z.0 z.1) <$> semicolons field

  unfoldable pub constant : Bool → Parser Pattern
  constant minus = (λ z. e.Constant minus z) <$> literal

  unfoldable pub variable : Parser Pattern
  variable = e.Variable <$> identifier

  abbrev pub atom_by : Look → Parser Pattern
  atom_by l.Identifier = variable
  atom_by (l.Mark m.Underscore) = skip >> pure e.Wildcard
  atom_by (l.Mark m.Minus) = skip >> constant true
  atom_by (l.Mark m.ParenOpen) = skip >> parenthesized
  atom_by (l.Mark m.BraceOpen) = skip >> object
  atom_by _ = constant false

  unfoldable pub atom : Parser Pattern
  atom = peek >>= atom_by

  unfoldable pub payload : Parser (Option Pattern)
  payload = peek >>= (λ a. if begins a then Some <$> P 2 else pure None)

  -- behind the mark of a tag
  unfoldable pub tagged : Parser Pattern
  tagged = (λ z. e.Tagged z.0 z.1) <$> (identifier & payload)

  abbrev pub unary_by : Look → Parser Pattern
  unary_by (l.Mark m.Question) = skip >> e.Optional <$> P 2
  unary_by (l.Mark m.Tag) = skip >> tagged
  unary_by _ = atom

  unfoldable pub unary : Parser Pattern
  unary = peek >>= unary_by

  -- the alternatives that follow a pattern; the number bounds the turns
  unfoldable pub more : ℕ → Pattern → Parser Pattern
  more zero p = pure p
  more (suc n) p = do
    is_or ← eat (t.Reserved w.Or)
    if is_or then (do q ← unary; more n (e.Alternative p q)) else pure p

  unfoldable pub alternatives : Parser Pattern
  alternatives = do
    p ← unary
    (λ i. more (length i) p i)

  unfoldable pub whole : Parser Pattern
  whole = (λ z. annotated z.0 z.1) <$> (alternatives & annotation)

  unfoldable pub level : ℕ → Parser Pattern
  level zero = whole
  level (suc (suc (suc n))) = atom
  level _ = unary

-- with patterns nested no deeper than the first number, of the level that is the second: 0, 2 or 3
unfoldable pub pattern_at : ℕ → ℕ → Parser Pattern
pattern_at zero n = refuse
pattern_at (suc depth) n = level (pattern_at depth) n

unfoldable pub a_pattern : Parser Pattern
a_pattern = λ i. pattern_at (length i + 1) 0 i

-- the pattern of a case
unfoldable pub a_case_pattern : Parser Pattern
a_case_pattern = λ i. pattern_at (length i + 1) 3 i

unfoldable pub a_list : Parser Parameters
a_list = eat (t.Mark m.ParenOpen) >>= (λ found. if found then parameters.List <$> commas a_pattern (t.Mark m.ParenClose) else parameters.Single <$> identifier)

unfoldable pub a_field : Parser PatternField
a_field = λ i. field (pattern_at (length i + 1)) i

-- fields up to the closing brace
unfoldable pub fields : Parser (List PatternField × Bool)
fields = semicolons a_field
