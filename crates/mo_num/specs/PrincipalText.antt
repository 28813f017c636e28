-- The text of a principal: IC interface specification, section "Textual representation of principals". Base32 is that of
-- RFC 4648 section 6, in lower case and without padding.
use Rattle.std.specs.Prelude.{◌≡◌, ℕ, ◌+◌, ◌*◌, ◌^◌, ◌<◌, ◌≤◌, nat_lt, if◌then◌else◌, List, [], ◌∷◌, ◌++◌, length, map}
use Rattle.std.specs.List.{AllByRecursion}
use Rattle.std.specs.Int.{to_be_bytes, w32}
use Rattle.mo_num.specs.Crc.{crc32_of}

-- At most 29 bytes.
abbrev pub IsPrincipal : List ℕ → Type 0
IsPrincipal bytes = (length bytes ≤ 29) × AllByRecursion (λ b. b < 256) bytes

-- The big-endian CRC-32 of the bytes, and then the bytes.
unfoldable pub with_checksum : List ℕ → List ℕ
with_checksum bytes = to_be_bytes w32 (crc32_of bytes) ++ bytes

-- The number that the digits write in the base, the highest digit first.
abbrev pub number : ℕ → List ℕ → ℕ
number base [] = 0
number base (d ∷ ds) = d * base ^ length ds + number base ds

-- The digits in base 32 write the bits of the bytes, and then as few bits 0 as fill the last digit.
pub record IsBase32 (bytes digits : List ℕ) : Type 0 where
  pub below : AllByRecursion (λ d. d < 32) digits
  pub padding : ℕ
  pub few : padding < 5
  pub filled : 5 * length digits ≡ 8 * length bytes + padding
  pub same : number 32 digits ≡ number 256 bytes * 2 ^ padding

-- The letter of a digit: a to z for 0 to 25, and 2 to 7 for 26 to 31.
abbrev pub letter : ℕ → ℕ
letter d = if nat_lt d 26 then 97 + d else 24 + d

-- Groups of five letters, with a dash between them.
abbrev pub grouped : List ℕ → List ℕ
grouped (a ∷ b ∷ c ∷ d ∷ e ∷ f ∷ rest) = a ∷ b ∷ c ∷ d ∷ e ∷ 45 ∷ grouped (f ∷ rest)
grouped letters = letters

-- The text shows the digits.
unfoldable pub shown : List ℕ → List ℕ
shown digits = grouped (map letter digits)

pub record IsTextOf (bytes text : List ℕ) : Type 0 where
  pub digits : List ℕ
  pub spelled : IsBase32 (with_checksum bytes) digits
  pub text_is : text ≡ shown digits
