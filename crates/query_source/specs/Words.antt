-- Names and numbers: Motoko language manual, sections Keywords, Identifiers and Integers.
use Rattle.std.specs.Prelude.{◌≡◌, ◌≢◌, ℕ, ◌<◌, ◌≤◌, ◌^◌, List, [], ◌∷◌, length, codes}
use Rattle.std.specs.List.{Contains}
use Rattle.std.specs.Str.Parse.{digits_value}
use Rattle.query_source.specs.Tokens.{AreAll, is_letter, is_digit}

-- The keywords of the language, and behind them those that stand in no rule of the language compiled here.
abbrev pub reserved : List (List ℕ)
reserved =
    codes "actor" ∷ codes "and" ∷ codes "assert" ∷ codes "async" ∷ codes "await" ∷ codes "break" ∷ codes "case" ∷ codes "catch"
    ∷ codes "class" ∷ codes "continue" ∷ codes "debug" ∷ codes "do" ∷ codes "else" ∷ codes "false" ∷ codes "for" ∷ codes "func"
    ∷ codes "if" ∷ codes "ignore" ∷ codes "import" ∷ codes "in" ∷ codes "label" ∷ codes "let" ∷ codes "loop" ∷ codes "module"
    ∷ codes "not" ∷ codes "null" ∷ codes "object" ∷ codes "or" ∷ codes "private" ∷ codes "public" ∷ codes "query" ∷ codes "return"
    ∷ codes "shared" ∷ codes "stable" ∷ codes "switch" ∷ codes "system" ∷ codes "throw" ∷ codes "true" ∷ codes "try"
    ∷ codes "type" ∷ codes "var" ∷ codes "while"
    ∷ codes "composite" ∷ codes "debug_show" ∷ codes "finally" ∷ codes "flexible" ∷ codes "from_candid" ∷ codes "persistent"
    ∷ codes "to_candid" ∷ codes "transient" ∷ codes "with" ∷ []

-- One to 32 letters that are no reserved word.
pub record IsName (name : List ℕ) : Type 0 where
  pub some : name ≢ []
  pub short : length name ≤ 32
  pub letters : AreAll is_letter name
  pub free : Contains reserved name → ⊥

-- Decimal digits that stand for the number, which is below 2 ^ 63. They may begin with zeros.
pub record IsNumeral (digits : List ℕ) (number : ℕ) : Type 0 where
  pub some : digits ≢ []
  pub all_digits : AreAll is_digit digits
  pub value : digits_value 10 digits ≡ number
  pub small : number < 2 ^ 63
