-- The messages of constant queries: Candid specification, section Binary Format.
use Rattle.std.specs.Prelude.{◌≡◌, ℕ, List, [], ◌∷◌, ◌++◌, codes}
use Rattle.mo_num.specs.Leb.{IsShortestLeb}

-- No types and no arguments.
abbrev pub empty_message : List ℕ
empty_message = codes "DIDL" ++ 0x00 ∷ 0x00 ∷ []

-- No types, one argument of type nat (0x7d), and the number in its shortest spelling.
pub record IsNatMessage (number : ℕ) (bytes : List ℕ) : Type 0 where
  pub digits : List ℕ
  pub spelled : IsShortestLeb digits number
  pub whole : bytes ≡ codes "DIDL" ++ 0x00 ∷ 0x01 ∷ 0x7d ∷ digits
