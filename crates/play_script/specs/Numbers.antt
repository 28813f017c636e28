-- Numbers and bytes as words of a line.
use Rattle.std.specs.Prelude.{◌≡◌, ◌≢◌, ⊤, ℕ, ◌+◌, ◌-◌, ◌*◌, ◌/◌, ◌%◌, nat_lt, if◌then◌else◌, List, [], ◌∷◌}
use Rattle.std.specs.Char.{IsAsciiDigit}
use Rattle.std.specs.List.{AllByRecursion}

-- the value of decimal digits that stand behind a number
abbrev pub decimal_value : ℕ → List ℕ → ℕ
decimal_value high [] = high
decimal_value high (c ∷ cs) = decimal_value (10 * high + (c - 48)) cs

-- there is a digit, and no zero stands before others
abbrev pub HasNoLeadingZero : List ℕ → Type 0
HasNoLeadingZero [] = ⊥
HasNoLeadingZero (c ∷ []) = ⊤
HasNoLeadingZero (c ∷ d ∷ cs) = c ≢ 48

-- the text is the number in decimal digits, without sign or leading zero
pub record IsDecimal (text : List ℕ) (n : ℕ) : Type 0 where
  pub digits : AllByRecursion IsAsciiDigit text
  pub value : decimal_value 0 text ≡ n
  pub plain : HasNoLeadingZero text

-- the lower-case hexadecimal digit of a number below 16
abbrev pub hex_digit : ℕ → ℕ
hex_digit n = if nat_lt n 10 then 48 + n else 87 + n

-- two digits for each byte
abbrev pub hex_text : List ℕ → List ℕ
hex_text [] = []
hex_text (b ∷ bs) = hex_digit (b / 16) ∷ hex_digit (b % 16) ∷ hex_text bs

-- bytes as a word: hexadecimal, or a dash for none
abbrev pub bytes_text : List ℕ → List ℕ
bytes_text [] = 45 ∷ []
bytes_text (b ∷ bs) = hex_text (b ∷ bs)
