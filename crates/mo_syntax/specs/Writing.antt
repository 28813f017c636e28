-- How the parts of a tree are written one after another.
use Rattle.std.specs.Prelude.{Bool, true, false, List, [], ◌∷◌, ◌++◌, Option, Some, None}
use Rattle.std.specs.List.{flat_map}
use Rattle.mo_syntax.specs.declared.name.Name.{Name}
use Rattle.mo_syntax.specs.declared.token.TokenKind.{TokenKind}
use Rattle.mo_syntax.specs.declared.token.TokenKind.TheVariants as t
use Rattle.mo_syntax.specs.declared.word.Word.TheVariants as w
use Rattle.mo_syntax.specs.declared.mark.Mark.TheVariants as m
use Rattle.mo_syntax.specs.declared.literal.Literal.{Literal}
use Rattle.mo_syntax.specs.declared.literal.Literal.TheVariants as lit

abbrev pub Writing : Type 0
Writing = List TokenKind

-- `[x]`, where x is one token
abbrev pub marked : Bool → TokenKind → Writing
marked true token = token ∷ []
marked false token = []

-- `[a x]`, where a is one token
abbrev pub led : TokenKind → Option Writing → Writing
led token None = []
led token (Some x) = token ∷ x

abbrev pub optional : Option Writing → Writing
optional None = []
optional (Some x) = x

-- with a token between each two
abbrev pub separated : TokenKind → List Writing → Writing
separated token [] = []
separated token (x ∷ xs) = x ++ flat_map (λ y. token ∷ y) xs

-- `x,*`
abbrev pub commas : List Writing → Writing
commas xs = separated (t.Mark m.Comma) xs

-- `x;*`, and whether a `;` ends it
abbrev pub semicolons : List Writing → Bool → Writing
semicolons xs last = separated (t.Mark m.Semicolon) xs ++ marked last (t.Mark m.Semicolon)

-- `[":" type]`
abbrev pub annotation : Option Writing → Writing
annotation = led (t.Mark m.Colon)

-- between two marks
abbrev pub inside : TokenKind → Writing → TokenKind → Writing
inside first x last = first ∷ x ++ last ∷ []

abbrev pub parens : Writing → Writing
parens x = inside (t.Mark m.ParenOpen) x (t.Mark m.ParenClose)

abbrev pub brackets : Writing → Writing
brackets x = inside (t.Mark m.BracketOpen) x (t.Mark m.BracketClose)

abbrev pub braces : Writing → Writing
braces x = inside (t.Mark m.BraceOpen) x (t.Mark m.BraceClose)

-- `["<" x,* ">"]`
abbrev pub angles : Option (List Writing) → Writing
angles None = []
angles (Some xs) = inside (t.Mark m.AngleOpen) (commas xs) (t.Mark m.AngleClose)

-- a tag is the mark `#` and an identifier
abbrev pub tag : Name → Writing
tag name = t.Mark m.Tag ∷ t.Identifier name ∷ []

-- a number, character, text, `true`, `false` or `null`
abbrev pub literal_token : Literal → TokenKind
literal_token (lit.Number n) = t.Number n
literal_token (lit.Character c) = t.Character c
literal_token (lit.Text text) = t.Text text
literal_token lit.True = t.Reserved w.True
literal_token lit.False = t.Reserved w.False
literal_token lit.Null = t.Reserved w.Null
