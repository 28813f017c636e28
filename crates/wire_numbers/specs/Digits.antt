-- The digits of a number in base 128 (WebAssembly Core 1.0 section 5.2.2), up to its last one or up to so many.
use Rattle.std.specs.Prelude.{ℕ, zero, suc, ◌+◌, ◌-◌, ◌*◌, List, [], ◌∷◌, nat_lt, if◌then◌else◌}

pub data Digits : Type 0 where
  -- the number of all of them, 128 to the power of their count, the last one, and the bytes that follow
  Ended : ℕ → ℕ → ℕ → List ℕ → Digits
  -- that many, of which none is the last
  Open : ℕ → ℕ → List ℕ → Digits
  -- the bytes end
  Cut : Digits

abbrev pub behind : ℕ → Digits → Digits
behind low (Ended n scale last rest) = Ended (low + 128 * n) (128 * scale) last rest
behind low (Open n scale rest) = Open (low + 128 * n) (128 * scale) rest
behind low Cut = Cut

-- at most so many
abbrev pub digits : ℕ → List ℕ → Digits
digits zero bytes = Open 0 1 bytes
digits (suc k) [] = Cut
digits (suc k) (b ∷ bs) = if nat_lt b 128 then Ended b 128 b bs else behind (b - 128) (digits k bs)
