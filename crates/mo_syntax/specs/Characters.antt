-- The bytes and numerals that tokens are made of, by the Motoko language manual (lexical structure).
use Rattle.std.specs.Prelude.{ℕ, ◌+◌, ◌*◌, ◌==◌, Bool, true, false, ◌||◌, ◌&&◌, if◌then◌else◌, nat_lt, List, [], ◌∷◌}
use Rattle.std.specs.Char.{is_ascii_alphabetic, is_ascii_digit, digit_value}

-- a space, tab, carriage return or newline
abbrev pub is_blank : ℕ → Bool
is_blank b = b == 32 || b == 9 || b == 13 || b == 10

-- an ASCII letter or `_`
abbrev pub is_name_start : ℕ → Bool
is_name_start b = is_ascii_alphabetic b || b == 95

-- an ASCII letter, digit or `_`
abbrev pub is_name_byte : ℕ → Bool
is_name_byte b = is_name_start b || is_ascii_digit b

-- a digit in this base, which is 10 or 16; hexadecimal digits are of either case
abbrev pub is_digit : ℕ → ℕ → Bool
is_digit base b = nat_lt (digit_value b) base

-- the text begins with a byte that passes the test
abbrev pub begins : (ℕ → Bool) → List ℕ → Bool
begins p [] = false
begins p (b ∷ bs) = p b

-- the text begins with `_` and a digit
abbrev pub begins_low_digit : ℕ → List ℕ → Bool
begins_low_digit base [] = false
begins_low_digit base (b ∷ bs) = b == 95 && begins (is_digit base) bs

-- a digit is next, or `_` and a digit
abbrev pub goes_on : ℕ → List ℕ → Bool
goes_on base text = begins (is_digit base) text || begins_low_digit base text

-- each byte is a digit, or a `_` with a digit directly after it
abbrev pub are_digits : ℕ → List ℕ → Bool
are_digits base [] = true
are_digits base (b ∷ bs) = goes_on base (b ∷ bs) && are_digits base bs

-- digits with single `_` between digits
abbrev pub is_numeral : ℕ → List ℕ → Bool
is_numeral base text = begins (is_digit base) text && are_digits base text

-- the value of a numeral whose earlier digits have the value
abbrev pub value_after : ℕ → ℕ → List ℕ → ℕ
value_after base value [] = value
value_after base value (b ∷ bs) = value_after base (if b == 95 then value else value * base + digit_value b) bs

abbrev pub value_of : ℕ → List ℕ → ℕ
value_of base text = value_after base 0 text
