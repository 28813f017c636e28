-- What is found of a number at the front of a text.
use Rattle.std.specs.Prelude.{ℕ, ◌<◌, ◌≤◌, ◌^◌, List, length, take, drop, ◌⊎◌}
use Rattle.std.specs.Option.{SomeIff}
use Rattle.mo_syntax.specs.Lexed.{IsDecimal, IsHexadecimal}
use Rattle.mo_lexer.specs.declared.number.Number.{Number}

-- a number of this value stands in front of the rest
abbrev pub IsNumber : List ℕ → ℕ → List ℕ → Type 0
IsNumber text n rest = IsDecimal text n rest ⊎ IsHexadecimal text n rest

pub record NumberIs (text : List ℕ) (number : Number) : Type 0 where
  pub n : ℕ
  pub within : number.len ≤ length text
  pub some : 0 < number.len
  pub is_number : IsNumber (take number.len text) n (drop number.len text)
  pub value : SomeIff number.value (n < 2 ^ 64) n
