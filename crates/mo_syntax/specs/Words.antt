-- The reserved words and the marks, by the Motoko language manual (lexical structure).
use Rattle.std.specs.Prelude.{List, ℕ, [], ◌∷◌, codes, Option}
use Rattle.std.specs.List.{find}
use Rattle.std.specs.Str.{bytes_eq}
use Rattle.mo_syntax.specs.declared.word.Word.{Word}
use Rattle.mo_syntax.specs.declared.word.Word.TheVariants as w
use Rattle.mo_syntax.specs.declared.mark.Mark.{Mark}
use Rattle.mo_syntax.specs.declared.mark.Mark.TheVariants as m

-- the bytes of a reserved word
abbrev pub word_text : Word → List ℕ
word_text w.Actor = codes "actor"
word_text w.And = codes "and"
word_text w.Assert = codes "assert"
word_text w.Async = codes "async"
word_text w.Await = codes "await"
word_text w.Break = codes "break"
word_text w.Case = codes "case"
word_text w.Catch = codes "catch"
word_text w.Class = codes "class"
word_text w.Continue = codes "continue"
word_text w.Debug = codes "debug"
word_text w.Do = codes "do"
word_text w.Else = codes "else"
word_text w.False = codes "false"
word_text w.For = codes "for"
word_text w.Func = codes "func"
word_text w.If = codes "if"
word_text w.Ignore = codes "ignore"
word_text w.Import = codes "import"
word_text w.In = codes "in"
word_text w.Label = codes "label"
word_text w.Let = codes "let"
word_text w.Loop = codes "loop"
word_text w.Module = codes "module"
word_text w.Not = codes "not"
word_text w.Null = codes "null"
word_text w.Object = codes "object"
word_text w.Or = codes "or"
word_text w.Private = codes "private"
word_text w.Public = codes "public"
word_text w.Query = codes "query"
word_text w.Return = codes "return"
word_text w.Shared = codes "shared"
word_text w.Stable = codes "stable"
word_text w.Switch = codes "switch"
word_text w.System = codes "system"
word_text w.Throw = codes "throw"
word_text w.True = codes "true"
word_text w.Try = codes "try"
word_text w.TypeWord = codes "type"
word_text w.Var = codes "var"
word_text w.While = codes "while"
word_text w.Composite = codes "composite"
word_text w.DebugShow = codes "debug_show"
word_text w.Finally = codes "finally"
word_text w.Flexible = codes "flexible"
word_text w.FromCandid = codes "from_candid"
word_text w.Persistent = codes "persistent"
word_text w.ToCandid = codes "to_candid"
word_text w.Transient = codes "transient"
word_text w.With = codes "with"

-- all reserved words; those of the last line stand in no rule
unfoldable pub reserved_words : List Word
reserved_words =
    w.Actor ∷ w.And ∷ w.Assert ∷ w.Async ∷ w.Await ∷ w.Break ∷ w.Case ∷ w.Catch ∷ w.Class ∷ w.Continue ∷ w.Debug ∷ w.Do ∷ w.Else ∷ w.False ∷ w.For ∷ w.Func ∷ w.If ∷ w.Ignore ∷ w.Import ∷ w.In ∷ w.Label ∷ w.Let ∷ w.Loop ∷ w.Module ∷ w.Not ∷ w.Null ∷ w.Object ∷ w.Or ∷ w.Private ∷ w.Public ∷ w.Query ∷ w.Return ∷ w.Shared ∷ w.Stable ∷ w.Switch ∷ w.System ∷ w.Throw ∷ w.True ∷ w.Try ∷ w.TypeWord ∷ w.Var ∷ w.While
    ∷ w.Composite ∷ w.DebugShow ∷ w.Finally ∷ w.Flexible ∷ w.FromCandid ∷ w.Persistent ∷ w.ToCandid ∷ w.Transient ∷ w.With ∷ []

-- the reserved word with this text
unfoldable pub word_of : List ℕ → Option Word
word_of text = find (λ word. bytes_eq (word_text word) text) reserved_words

-- the bytes of an operator or mark
abbrev pub mark_text : Mark → List ℕ
mark_text m.Plus = codes "+"
mark_text m.Minus = codes "-"
mark_text m.Star = codes "*"
mark_text m.Slash = codes "/"
mark_text m.Percent = codes "%"
mark_text m.Power = codes "**"
mark_text m.PlusWrap = codes "+%"
mark_text m.MinusWrap = codes "-%"
mark_text m.StarWrap = codes "*%"
mark_text m.Concat = codes "#"
mark_text m.Equal = codes "=="
mark_text m.NotEqual = codes "!="
mark_text m.Less = codes "<"
mark_text m.Greater = codes ">"
mark_text m.LessEqual = codes "<="
mark_text m.GreaterEqual = codes ">="
mark_text m.Assign = codes ":="
mark_text m.PlusAssign = codes "+="
mark_text m.MinusAssign = codes "-="
mark_text m.StarAssign = codes "*="
mark_text m.SlashAssign = codes "/="
mark_text m.PercentAssign = codes "%="
mark_text m.PowerAssign = codes "**="
mark_text m.ConcatAssign = codes "#="
mark_text m.PlusWrapAssign = codes "+%="
mark_text m.MinusWrapAssign = codes "-%="
mark_text m.StarWrapAssign = codes "*%="
mark_text m.EqualSign = codes "="
mark_text m.Colon = codes ":"
mark_text m.Semicolon = codes ";"
mark_text m.Comma = codes ","
mark_text m.Dot = codes "."
mark_text m.Question = codes "?"
mark_text m.Bang = codes "!"
mark_text m.ParenOpen = codes "("
mark_text m.ParenClose = codes ")"
mark_text m.BracketOpen = codes "["
mark_text m.BracketClose = codes "]"
mark_text m.BraceOpen = codes "{"
mark_text m.BraceClose = codes "}"
mark_text m.Arrow = codes "->"
mark_text m.Subtype = codes "<:"
mark_text m.Underscore = codes "_"
mark_text m.AngleOpen = codes "<"
mark_text m.AngleClose = codes ">"
mark_text m.Tag = codes "#"
