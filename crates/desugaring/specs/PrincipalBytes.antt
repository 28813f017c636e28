-- The bytes of a principal, from its text (IC interface specification, section "Textual representation of principals").
use Rattle.std.specs.Prelude.{ℕ, ◌-◌, ◌*◌, ◌/◌, ◌%◌, ◌^◌, zero, suc, List, [], ◌∷◌, ◌++◌, length, drop, cond, nat_eq, nat_lt}
use Rattle.mo_num.specs.PrincipalText.{number}
use Rattle.typing_rules.specs.AbstractSyntax.{Bytes}

-- the digits in base 32 of the letters, without the dashes
abbrev pub digits : List ℕ → List ℕ
digits [] = []
digits (c ∷ cs) = cond (nat_eq c 45) (digits cs) (cond (nat_lt c 97) (c - 24) (c - 97) ∷ digits cs)

-- so many bytes of a number, the highest first
abbrev pub bytes_of : ℕ → ℕ → List ℕ
bytes_of zero n = []
bytes_of (suc k) n = bytes_of k (n / 256) ++ (n % 256) ∷ []

-- whole bytes of the digits; the bits behind them are 0
abbrev pub decoded : List ℕ → List ℕ
decoded ds = bytes_of (5 * length ds / 8) (number 32 ds / 2 ^ (5 * length ds % 8))

-- without the checksum
abbrev pub principal_bytes : Bytes → List ℕ
principal_bytes text = drop 4 (decoded (digits text))
