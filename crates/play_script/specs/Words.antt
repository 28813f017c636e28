-- The lines of a script and their words, and what a word says.
use Rattle.std.specs.Prelude.{ℕ, ◌+◌, ◌-◌, ◌*◌, ◌<◌, ◌^◌, List, [], ◌∷◌, cond, ◌&&◌, nat_eq, nat_le, Option, Some, None}
use Rattle.play_script.specs.Numbers.{IsDecimal}

-- the item before those of the first list
abbrev pub on_first : ℕ → List (List ℕ) → List (List ℕ)
on_first c [] = (c ∷ []) ∷ []
on_first c (xs ∷ xss) = (c ∷ xs) ∷ xss

-- the parts of a text between single bytes of this kind
abbrev pub parts : ℕ → List ℕ → List (List ℕ)
parts mark [] = [] ∷ []
parts mark (c ∷ cs) = cond (nat_eq c mark) ([] ∷ parts mark cs) (on_first c (parts mark cs))

-- the words of a line: single spaces part them
abbrev pub words_of : List ℕ → List (List ℕ)
words_of line = parts 32 line

-- the words behind a space, or none where there is no space
abbrev pub words_behind : Option (List ℕ) → List (List ℕ)
words_behind None = []
words_behind (Some rest) = words_of rest

-- the lines of a text: each ends in a newline, which the last one may lack
abbrev pub lines_of : List ℕ → List (List ℕ)
lines_of [] = []
lines_of (c ∷ cs) = cond (nat_eq c 10) ([] ∷ lines_of cs) (on_first c (lines_of cs))

-- a number below 2^64
pub record IsNumber (word : List ℕ) (n : ℕ) : Type 0 where
  pub decimal : IsDecimal word n
  pub small : n < 2 ^ 64

-- the value of a hexadecimal digit of either case
abbrev pub digit_value : ℕ → Option ℕ
digit_value c =
    cond (nat_le 48 c && nat_le c 57) (Some (c - 48))
    (cond (nat_le 65 c && nat_le c 70) (Some (c - 55))
    (cond (nat_le 97 c && nat_le c 102) (Some (c - 87)) None))

abbrev pub byte_of : Option ℕ → Option ℕ → Option ℕ
byte_of None low = None
byte_of (Some high) None = None
byte_of (Some high) (Some low) = Some (16 * high + low)

abbrev pub before_all : Option ℕ → Option (List ℕ) → Option (List ℕ)
before_all None rest = None
before_all (Some byte) None = None
before_all (Some byte) (Some rest) = Some (byte ∷ rest)

-- the bytes of two hexadecimal digits each
abbrev pub hex_bytes : List ℕ → Option (List ℕ)
hex_bytes [] = Some []
hex_bytes (high ∷ []) = None
hex_bytes (high ∷ low ∷ rest) = before_all (byte_of (digit_value high) (digit_value low)) (hex_bytes rest)

-- the bytes that a word says, if it says any: hexadecimal digits, or a dash for none
abbrev pub bytes_of : List ℕ → Option (List ℕ)
bytes_of [] = None
bytes_of (c ∷ []) = cond (nat_eq c 45) (Some []) None
bytes_of (c ∷ d ∷ rest) = hex_bytes (c ∷ d ∷ rest)
