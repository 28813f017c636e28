-- Which tokens a text is made of, by the Motoko language manual (lexical structure).
use Rattle.std.specs.Prelude.{◌≡◌, ◌≢◌, ℕ, ◌+◌, ◌-◌, ◌*◌, ◌^◌, ◌<◌, ◌==◌, Bool, true, false, ◌||◌, ◌&&◌, not, if◌then◌else◌, List, [], ◌∷◌, ◌++◌, length, Option, Some, None, codes, ◌⊎◌}
use Rattle.std.specs.List.{flat_map, list_all, take_while}
use Rattle.std.specs.Option.{is_none}
use Rattle.std.specs.Char.{encode_utf8, IsScalar, digit_value}
use Rattle.std.specs.Str.{IsUtf8, bytes_eq}
use Rattle.mo_syntax.specs.Characters.{is_blank, is_name_start, is_name_byte, is_digit, begins, goes_on, is_numeral, value_of}
use Rattle.mo_syntax.specs.Words.{word_of, mark_text}
use Rattle.mo_syntax.specs.Tokens.{before_of, placed, nowhere}
use Rattle.mo_syntax.specs.declared.mark.Mark.{Mark}
use Rattle.mo_syntax.specs.declared.mark.Mark.TheVariants as m
use Rattle.mo_syntax.specs.declared.before.Before.{Before}
use Rattle.mo_syntax.specs.declared.before.Before.TheVariants as beside
use Rattle.mo_syntax.specs.declared.token.Token.{Token}
use Rattle.mo_syntax.specs.declared.token.TokenKind.{TokenKind}
use Rattle.mo_syntax.specs.declared.token.TokenKind.TheVariants as t

-- Names: letters, digits and `_`, not beginning with a digit.
abbrev pub is_name : List ℕ → Bool
is_name text = begins is_name_start text && list_all is_name_byte text

-- an identifier is a name that is neither `_` nor a reserved word
abbrev pub is_identifier : List ℕ → Bool
is_identifier text = is_name text && (not (bytes_eq text (codes "_")) && is_none (word_of text))

-- the name that the text begins with is an identifier
abbrev pub begins_identifier : List ℕ → Bool
begins_identifier text = is_identifier (take_while is_name_byte text)

-- Numbers: decimal digits, or `0x` and hexadecimal digits, with single `_` between digits. No digit can be added.
abbrev pub begins_hexadecimal : List ℕ → Bool
begins_hexadecimal (b ∷ c ∷ text) = (b == 48 && c == 120) && begins (is_digit 16) text
begins_hexadecimal _ = false

abbrev pub IsDecimal : List ℕ → ℕ → List ℕ → Type 0
IsDecimal text n rest = (is_numeral 10 text ≡ true) × (n ≡ value_of 10 text) × (goes_on 10 rest ≡ false) × (begins_hexadecimal (text ++ rest) ≡ false)

abbrev pub IsHexadecimal : List ℕ → ℕ → List ℕ → Type 0
IsHexadecimal text n rest = (digits : List ℕ) × (text ≡ codes "0x" ++ digits) × (is_numeral 16 digits ≡ true) × (n ≡ value_of 16 digits) × (goes_on 16 rest ≡ false)

-- Escapes, without their `\`. One stands for a character, or in texts for one byte.
pub data Escaped : Type 0 where
  character : ℕ → Escaped
  byte : ℕ → Escaped

abbrev pub letter_escape : ℕ → Option ℕ
letter_escape b =
    if b == 110 then Some 10
    else (if b == 114 then Some 13
    else (if b == 116 then Some 9
    else (if b == 92 || (b == 34 || b == 39) then Some b
    else None)))

abbrev pub IsEscape : List ℕ → Escaped → Type 0
IsEscape text (character c) =
    ((letter : ℕ) × (text ≡ letter ∷ []) × (letter_escape letter ≡ Some c))
    ⊎ ((digits : List ℕ) × (text ≡ codes "u{" ++ digits ++ codes "}") × (begins (is_digit 16) digits ≡ true) × (list_all (is_digit 16) digits ≡ true) × (c ≡ value_of 16 digits) × IsScalar c)
IsEscape text (byte n) = (high : ℕ) × (low : ℕ) × (text ≡ high ∷ low ∷ []) × (is_digit 16 high ≡ true) × (is_digit 16 low ≡ true) × (n ≡ digit_value high * 16 + digit_value low)

abbrev pub escaped_bytes : Escaped → List ℕ
escaped_bytes (character c) = encode_utf8 c
escaped_bytes (byte n) = n ∷ []

-- Characters: `'`, one scalar value or escape, `'`.
abbrev pub IsCharacter : List ℕ → ℕ → Type 0
IsCharacter text c =
    ((text ≡ 39 ∷ encode_utf8 c ++ 39 ∷ []) × IsScalar c × (c ≢ 39) × (c ≢ 92) × (c ≢ 10))
    ⊎ ((escape : List ℕ) × (text ≡ 39 ∷ 92 ∷ escape ++ 39 ∷ []) × IsEscape escape (character c))

-- Texts: items between two `"`. A plain item is one byte: since the whole source is UTF-8, the bytes of a longer scalar value
-- are plain items one after another.
pub data Item : Type 0 where
  plain : ℕ → Item
  escape : List ℕ → Escaped → Item

-- any byte but `"`, `\` and a newline
abbrev pub is_plain : ℕ → Bool
is_plain b = not (b == 34 || (b == 92 || b == 10))

abbrev pub item_text : Item → List ℕ
item_text (plain b) = b ∷ []
item_text (escape text value) = 92 ∷ text

abbrev pub item_bytes : Item → List ℕ
item_bytes (plain b) = b ∷ []
item_bytes (escape text value) = escaped_bytes value

abbrev pub IsItem : Item → Type 0
IsItem (plain b) = is_plain b ≡ true
IsItem (escape text value) = IsEscape text value

abbrev pub AreItems : List Item → Type 0
AreItems [] = Unit {0}
AreItems (item ∷ items) = IsItem item × AreItems items

abbrev pub IsText : List ℕ → List ℕ → Type 0
IsText text bytes = (items : List Item) × (text ≡ 34 ∷ flat_map item_text items ++ 34 ∷ []) × (bytes ≡ flat_map item_bytes items) × AreItems items

-- Marks: no longer one begins at the place.
abbrev pub IsLongestMark : Mark → List ℕ → Type 0
IsLongestMark mark rest = (longer : Mark) (more tail : List ℕ) → rest ≡ more ++ tail → mark_text longer ≡ mark_text mark ++ more → more ≡ []

-- `<` and `>` with a blank directly before and after are the comparisons, else they are brackets of types.
abbrev pub is_between_blanks : Before → List ℕ → Bool
is_between_blanks beside.Blank rest = begins is_blank rest
is_between_blanks _ rest = false

-- `#` is a tag mark where an identifier follows directly and no identifier, literal or closing bracket ends directly before it.
abbrev pub is_tag : Before → List ℕ → Bool
is_tag beside.Operand rest = false
is_tag _ rest = begins_identifier rest

-- what a mark of one text with another wants beside it; `_` is not the begin of a name
abbrev pub Fits : Before → Mark → List ℕ → Type 0
Fits before m.Less rest = is_between_blanks before rest ≡ true
Fits before m.Greater rest = is_between_blanks before rest ≡ true
Fits before m.AngleOpen rest = is_between_blanks before rest ≡ false
Fits before m.AngleClose rest = is_between_blanks before rest ≡ false
Fits before m.Tag rest = is_tag before rest ≡ true
Fits before m.Concat rest = is_tag before rest ≡ false
Fits before m.Underscore rest = begins is_name_byte rest ≡ false
Fits before _ rest = Unit {0}

-- Comments: `//` runs to the end of the line, and `/* */` nests.
-- each byte but the last two is within some comment, of which so many are open
abbrev pub closes : ℕ → List ℕ → Bool
closes open_comments [] = open_comments == 0
closes open_comments (b ∷ []) = false
closes open_comments (b ∷ c ∷ bs) =
    if open_comments == 0 then false
    else (if b == 42 && c == 47 then closes (open_comments - 1) bs
    else (if b == 47 && c == 42 then closes (open_comments + 1) bs
    else closes open_comments (c ∷ bs)))

abbrev pub is_inside_line : ℕ → Bool
is_inside_line b = not (b == 10)

abbrev pub IsComment : List ℕ → List ℕ → Type 0
IsComment text rest =
    ((body : List ℕ) × (text ≡ codes "//" ++ body) × (list_all is_inside_line body ≡ true) × (begins is_inside_line rest ≡ false))
    ⊎ ((body : List ℕ) × (text ≡ codes "/*" ++ body) × (closes 1 body ≡ true))

-- a `/` with one of these behind it is no operator
abbrev pub begins_comment : List ℕ → Bool
begins_comment (b ∷ c ∷ text) = b == 47 && (c == 47 || c == 42)
begins_comment _ = false

-- A token of this kind and text stands after `before` and in front of the rest. It is the longest that is one.
abbrev pub IsToken : Before → TokenKind → List ℕ → List ℕ → Type 0
IsToken before (t.Identifier name) text rest = (name ≡ record { bytes = text; place = nowhere }) × (is_identifier text ≡ true) × (begins is_name_byte rest ≡ false)
IsToken before (t.Reserved word) text rest = (word_of text ≡ Some word) × (is_name text ≡ true) × (begins is_name_byte rest ≡ false)
IsToken before (t.Number n) text rest = (IsDecimal text n rest ⊎ IsHexadecimal text n rest) × (n < 2 ^ 64)
IsToken before (t.Character c) text rest = IsCharacter text c
IsToken before (t.Text value) text rest = (value.place ≡ nowhere) × IsText text value.bytes
IsToken before (t.Mark mark) text rest = (text ≡ mark_text mark) × IsLongestMark mark rest × (begins_comment (text ++ rest) ≡ false) × Fits before mark rest

-- A text is made of pieces: blanks, comments and tokens. A name or text has no place before it is known where its piece stands.
pub data Piece : Type 0 where
  blank : ℕ → Piece
  comment : List ℕ → Piece
  token : TokenKind → List ℕ → Piece

abbrev pub piece_text : Piece → List ℕ
piece_text (blank b) = b ∷ []
piece_text (comment text) = text
piece_text (token kind text) = text

abbrev pub Stands : Before → Piece → List ℕ → Type 0
Stands before (blank b) rest = is_blank b ≡ true
Stands before (comment text) rest = IsComment text rest
Stands before (token kind text) rest = IsToken before kind text rest

-- what a piece leaves directly before the next one
abbrev pub before_next : Piece → Before
before_next (blank b) = beside.Blank
before_next (comment text) = beside.Other
before_next (token kind text) = before_of kind

abbrev pub text_of : List Piece → List ℕ
text_of pieces = flat_map piece_text pieces

-- each piece stands where it is
abbrev pub AllStand : Before → List Piece → List ℕ → Type 0
AllStand before [] rest = Unit {0}
AllStand before (piece ∷ pieces) rest = Stands before piece (text_of pieces ++ rest) × AllStand (before_next piece) pieces rest

abbrev pub tokens_at : ℕ → Piece → List Token
tokens_at place (blank b) = []
tokens_at place (comment text) = []
tokens_at place (token kind text) = record { kind = placed (record { start = place; «end» = place + length text }) kind; start = place; «end» = place + length text } ∷ []

-- the tokens among the pieces, with their places and those of their names and texts, where the first piece begins at the place
abbrev pub tokens_from : ℕ → List Piece → List Token
tokens_from place [] = []
tokens_from place (piece ∷ pieces) = tokens_at place piece ++ tokens_from (place + length (piece_text piece)) pieces

-- The source is UTF-8 and consists of the tokens, with blanks and comments before, between and after.
pub record Lexed (source : List ℕ) (tokens : List Token) : Type 0 where
  pub utf8 : IsUtf8 source
  pub pieces : List Piece
  pub whole : source ≡ text_of pieces
  pub stand : AllStand beside.Other pieces []
  pub listed : tokens ≡ tokens_from 0 pieces
