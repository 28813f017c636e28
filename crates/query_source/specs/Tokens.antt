-- The tokens of a text, and the blanks between them: Motoko language manual, sections Whitespace, Keywords and Identifiers.
use Rattle.std.specs.Prelude.{◌≡◌, ℕ, List, [], ◌∷◌, ◌++◌, Bool, true, false, ◌==◌, ◌&&◌, ◌||◌, nat_le}
use Rattle.std.specs.List.{AllByRecursion}

-- a space or a newline
abbrev pub is_blank : ℕ → Bool
is_blank b = b == 32 || b == 10

-- an ASCII letter, 'A' to 'Z' or 'a' to 'z'
abbrev pub is_letter : ℕ → Bool
is_letter b = (nat_le 65 b && nat_le b 90) || (nat_le 97 b && nat_le b 122)

-- a decimal digit, '0' to '9'
abbrev pub is_digit : ℕ → Bool
is_digit b = nat_le 48 b && nat_le b 57

-- a letter or a digit: what words are made of
abbrev pub is_word_byte : ℕ → Bool
is_word_byte b = is_letter b || is_digit b

-- each of the bytes passes the test
abbrev pub AreAll : (ℕ → Bool) → List ℕ → Type 0
AreAll test bytes = AllByRecursion (λ b. test b ≡ true) bytes

-- The text begins with a letter or a digit.
abbrev pub begins_word : List ℕ → Bool
begins_word [] = false
begins_word (b ∷ bs) = is_word_byte b

-- After blanks the text goes on with the token, and then with the rest. Where the token is a word, no letter or digit
-- follows it directly, so that at least one blank stands where two words meet.
pub record Next (token text rest : List ℕ) : Type 0 where
  pub blanks : List ℕ
  pub only_blanks : AreAll is_blank blanks
  pub whole : text ≡ blanks ++ (token ++ rest)
  pub apart : begins_word token ≡ true → begins_word rest ≡ false

-- The text is the tokens in turn, and then the rest.
abbrev pub Reads : List (List ℕ) → List ℕ → List ℕ → Type 0
Reads [] text rest = text ≡ rest
Reads (token ∷ tokens) text rest = (mid : List ℕ) × Next token text mid × Reads tokens mid rest

-- The whole text is the tokens in turn, with blanks before, between and behind them.
abbrev pub IsText : List (List ℕ) → List ℕ → Type 0
IsText tokens text = (rest : List ℕ) × Reads tokens text rest × AreAll is_blank rest
