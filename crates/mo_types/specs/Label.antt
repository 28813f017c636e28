-- The number of a label (Candid specification, section "Shorthand: Symbolic Field Ids").
use Rattle.std.specs.Prelude.{ℕ, ◌+◌, ◌*◌, ◌^◌, ◌%◌, List, [], ◌∷◌, length}

-- the sum of the bytes, byte i of k + 1 bytes times 223 ^ (k - i)
abbrev pub weighted : List ℕ → ℕ
weighted [] = 0
weighted (byte ∷ bytes) = byte * 223 ^ length bytes + weighted bytes

abbrev pub label_id : List ℕ → ℕ
label_id bytes = weighted bytes % 4294967296
