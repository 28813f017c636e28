-- The ASCII bytes (RFC 20: 0 to 127) at the front of a list.
use Rattle.std.specs.Prelude.{ℕ, ◌+◌, List, [], ◌∷◌, nat_lt, if◌then◌else◌}

-- how many bytes come before the first one above 127
abbrev pub ascii_prefix_len : List ℕ → ℕ
ascii_prefix_len [] = 0
ascii_prefix_len (byte ∷ bytes) = if nat_lt byte 128 then ascii_prefix_len bytes + 1 else 0
