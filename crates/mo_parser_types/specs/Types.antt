-- Reading types from left to right, rule by rule.
use Rattle.std.specs.Prelude.{ℕ, zero, suc, ◌+◌, Bool, true, false, if◌then◌else◌, List, length, Option, Some, None}
use Rattle.mo_syntax.specs.declared.name.Name.{Name}
use Rattle.mo_syntax.specs.declared.token.TokenKind.TheVariants as t
use Rattle.mo_syntax.specs.declared.word.Word.TheVariants as w
use Rattle.mo_syntax.specs.declared.mark.Mark.TheVariants as m
use Rattle.mo_syntax.specs.declared.types.Sharing.{Sharing}
use Rattle.mo_syntax.specs.declared.types.Sharing.TheVariants as sharing
use Rattle.mo_syntax.specs.declared.types.TypeExpression.{TypeExpression}
use Rattle.mo_syntax.specs.declared.types.TypeExpression.TheVariants as e
use Rattle.mo_syntax.specs.declared.types.TypeField.{TypeField, roll-TypeField}
use Rattle.mo_syntax.specs.declared.types.TypeItem.{TypeItem, roll-TypeItem}
use Rattle.mo_syntax.specs.declared.types.TypeMethod.{TypeMethod, roll-TypeMethod}
use Rattle.mo_syntax.specs.declared.types.TypeTag.{TypeTag, roll-TypeTag}
use Rattle.mo_parser_base.specs.declared.look.Look.{Look}
use Rattle.mo_parser_base.specs.declared.look.Look.TheVariants as l
use Rattle.mo_parser_base.specs.Input.{Parser, ◌>>=◌, ◌>>◌, ◌<$>◌, ◌&◌, ◌▸◌, ◌◂◌, pure, refuse, peek, skip, eat, expect, behind, identifier, label, commas, semicolons, some_semicolons}

-- ---- the trees of what is read

abbrev pub sharing_of : Bool → Sharing
sharing_of true = sharing.SharedQuery
sharing_of false = sharing.Shared

abbrev pub to_field : Bool × (Name × TypeExpression) → TypeField
to_field z = roll-TypeField (record { mutable = z.0; name = z.1.0; annotation = z.1.1 })

abbrev pub to_item : Option Name × TypeExpression → TypeItem
to_item z = roll-TypeItem (record { name = z.0; annotation = z.1 })

abbrev pub to_method : Name × TypeExpression → TypeMethod
to_method z = roll-TypeMethod (record { name = z.0; annotation = z.1 })

abbrev pub to_tag : Name × Option TypeExpression → TypeTag
to_tag z = roll-TypeTag (record { name = z.0; payload = z.1 })

abbrev pub to_shared : Bool × (TypeExpression × TypeExpression) → TypeExpression
to_shared z = e.Function (sharing_of z.0) z.1.0 z.1.1

-- a type, or a function type where a result follows
abbrev pub joined : TypeExpression → Option TypeExpression → TypeExpression
joined a None = a
joined a (Some b) = e.Function sharing.Local a b

-- ---- the rules, over a parser of inner types of a level

module _ (P : ℕ → Parser TypeExpression) where
  unfoldable pub field : Parser TypeField
  field = to_field <$> (eat (t.Reserved w.Var) & ((identifier ◂ t.Mark m.Colon) & P 0))

  unfoldable pub item : Parser TypeItem
  item = to_item <$> (label & P 0)

  unfoldable pub method : Parser TypeMethod
  method = to_method <$> ((identifier ◂ t.Mark m.Colon) & P 0)

  unfoldable pub tag : Parser TypeTag
  tag = to_tag <$> ((t.Mark m.Tag ▸ identifier) & behind (t.Mark m.Colon) (P 0))

  unfoldable pub arguments : Parser (Option (List TypeExpression))
  arguments = behind (t.Mark m.AngleOpen) (commas (P 0) (t.Mark m.AngleClose))

  unfoldable pub named : Parser TypeExpression
  named = (λ z. e.Named z.0 z.1) <$> (identifier & arguments)

  -- behind the opening mark
  unfoldable pub parenthesized : Parser TypeExpression
  parenthesized = e.Parenthesized <$> commas item (t.Mark m.ParenClose)

  unfoldable pub array : Parser TypeExpression
  array = (λ z. e.Array z.0 z.1) <$> ((eat (t.Reserved w.Var) & P 0) ◂ t.Mark m.BracketClose)

  unfoldable pub object : Bool → Parser TypeExpression
  object word = (λ z. e.Object word z.0 z.1) <$> semicolons field

  unfoldable pub variant : Parser TypeExpression
  variant = (λ z. e.Variant z.0 z.1) <$> some_semicolons tag

  abbrev pub braced_by : Look → Parser TypeExpression
  braced_by (l.Mark m.Concat) = skip >> (expect (t.Mark m.BraceClose) >> pure e.EmptyVariant)
  braced_by (l.Mark m.Tag) = variant
  braced_by _ = object false

  unfoldable pub braced : Parser TypeExpression
  braced = peek >>= braced_by

  -- behind the word
  unfoldable pub word_object : Parser TypeExpression
  word_object = t.Mark m.BraceOpen ▸ object true

  unfoldable pub actor : Parser TypeExpression
  actor = (λ z. e.Actor z.0 z.1) <$> (t.Mark m.BraceOpen ▸ semicolons method)

  abbrev pub layer_by : Look → Parser TypeExpression
  layer_by l.Identifier = named
  layer_by (l.Mark m.Question) = skip >> e.Optional <$> P 1
  layer_by (l.Reserved w.Async) = skip >> e.Async <$> P 1
  layer_by (l.Mark m.ParenOpen) = skip >> parenthesized
  layer_by (l.Mark m.BracketOpen) = skip >> array
  layer_by (l.Mark m.BraceOpen) = skip >> braced
  layer_by (l.Reserved w.Object) = skip >> word_object
  layer_by (l.Reserved w.Actor) = skip >> actor
  layer_by _ = refuse

  unfoldable pub layer : Parser TypeExpression
  layer = peek >>= layer_by

  -- behind `shared`
  unfoldable pub shared : Parser TypeExpression
  shared = to_shared <$> (eat (t.Reserved w.Query) & (layer & (t.Mark m.Arrow ▸ P 0)))

  unfoldable pub local : Parser TypeExpression
  local = (λ z. joined z.0 z.1) <$> (layer & behind (t.Mark m.Arrow) (P 0))

  unfoldable pub whole : Parser TypeExpression
  whole = eat (t.Reserved w.Shared) >>= (λ is_shared. if is_shared then shared else local)

  unfoldable pub level : ℕ → Parser TypeExpression
  level zero = whole
  level (suc n) = layer

-- with types nested no deeper than the first number, of the level that is the second
unfoldable pub type_at : ℕ → ℕ → Parser TypeExpression
type_at zero n = refuse
type_at (suc depth) n = level (type_at depth) n

unfoldable pub a_type : Parser TypeExpression
a_type = λ i. type_at (length i + 1) 0 i

unfoldable pub annotation : Parser (Option TypeExpression)
annotation = behind (t.Mark m.Colon) a_type
