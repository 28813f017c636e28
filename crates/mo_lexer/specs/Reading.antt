-- Where the parts of tokens end. The functions of the code give these, and lemmas tie them to the tokens' definition.
use Rattle.std.specs.Prelude.{ℕ, ◌+◌, ◌-◌, ◌*◌, ◌==◌, Bool, ◌&&◌, if◌then◌else◌, nat_lt, nat_le, List, [], ◌∷◌, take, drop, Option, Some, None}
use Rattle.std.specs.List.{prefix_len}
use Rattle.std.specs.Option.{option_map}
use Rattle.std.specs.Char.{digit_value}
use lib.Utf8.{scalar}
use Rattle.mo_syntax.specs.Characters.{is_name_byte, is_digit, goes_on, value_of}
use Rattle.mo_syntax.specs.Lexed.{is_inside_line, letter_escape}
use Rattle.mo_lexer.specs.declared.class.Class.{Class}
use Rattle.mo_lexer.specs.declared.class.Class.TheVariants as class
use Rattle.mo_lexer.specs.declared.escape.Escape.{Escape}
use Rattle.mo_lexer.specs.declared.escape.Escape.TheVariants as escape

abbrev pub is_in : Class → ℕ → Bool
is_in class.Name b = is_name_byte b
is_in class.Hexadecimal b = is_digit 16 b
is_in class.Line b = is_inside_line b

-- how many bytes at the front belong to a numeral
abbrev pub digits_len : ℕ → List ℕ → ℕ
digits_len base [] = 0
digits_len base (b ∷ bs) = if goes_on base (b ∷ bs) then 1 + digits_len base bs else 0

-- how many bytes of block comments there are up to the end of the last, of which so many are open
abbrev pub block_len : ℕ → List ℕ → Option ℕ
block_len comments [] = None
block_len comments (b ∷ []) = None
block_len comments (b ∷ c ∷ bs) =
    if b == 42 && c == 47
    then (if comments == 1 then Some 2 else option_map (λ n. 2 + n) (block_len (comments - 1) bs))
    else (if b == 47 && c == 42
    then option_map (λ n. 2 + n) (block_len (comments + 1) bs)
    else option_map (λ n. 1 + n) (block_len comments (c ∷ bs)))

-- an escape, read from its front
abbrev pub byte_at : ℕ → List ℕ → Escape
byte_at high [] = escape.Ends
byte_at high (low ∷ text) = if is_digit 16 low then escape.Byte (digit_value high * 16 + digit_value low) 2 else escape.Bad

abbrev pub closed_at : ℕ → ℕ → List ℕ → Escape
closed_at value len [] = escape.Ends
closed_at value len (b ∷ text) = if (b == 125 && nat_lt 0 len) && scalar value then escape.Scalar value (len + 3) else escape.Bad

-- a value that no scalar value reaches is bad before its end is seen
abbrev pub valued_at : ℕ → ℕ → List ℕ → Escape
valued_at value len text = if nat_le value 1114111 then closed_at value len text else escape.Bad

unfoldable pub braced_at : List ℕ → Escape
braced_at text = valued_at (value_of 16 (take (prefix_len (is_digit 16) text) text)) (prefix_len (is_digit 16) text) (drop (prefix_len (is_digit 16) text) text)

abbrev pub unicode_at : List ℕ → Escape
unicode_at [] = escape.Ends
unicode_at (b ∷ text) = if b == 123 then braced_at text else escape.Bad

abbrev pub lettered_at : Option ℕ → Escape → Escape
lettered_at (Some c) other = escape.Scalar c 1
lettered_at None other = other

abbrev pub escape_at : Bool → List ℕ → Escape
escape_at in_text [] = escape.Ends
escape_at in_text (letter ∷ text) = lettered_at (letter_escape letter)
    (if letter == 117 then unicode_at text else (if in_text && is_digit 16 letter then byte_at letter text else escape.Bad))
