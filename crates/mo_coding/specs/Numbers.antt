-- The shortest spelling of numbers in base 128 (WebAssembly Core 1.0 section 5.2.2; Candid specification, section
-- "Memory"): a low digit with the mark that more follow, or the last one.
use Rattle.std.specs.Prelude.{ℕ, zero, suc, ◌+◌, ◌-◌, ◌/◌, ◌%◌, true, false, List, [], ◌∷◌, ℤ, pos, negsuc, nat_lt}

-- in at most so many digits and the last one
abbrev pub leb_by : ℕ → ℕ → List ℕ
leb_by zero n = n ∷ []
leb_by (suc more) n = elim (nat_lt n 128) [ true ↦ n ∷ [] | false ↦ (n % 128 + 128) ∷ leb_by more (n / 128) ]

abbrev pub leb : ℕ → List ℕ
leb n = leb_by n n

-- of a number that is not negative, whose last digit is below 64
abbrev pub positive_by : ℕ → ℕ → List ℕ
positive_by zero n = n ∷ []
positive_by (suc more) n = elim (nat_lt n 64) [ true ↦ n ∷ [] | false ↦ (n % 128 + 128) ∷ positive_by more (n / 128) ]

-- of -1 - n, whose digits are what those of n lack
abbrev pub negative_by : ℕ → ℕ → List ℕ
negative_by zero n = (127 - n) ∷ []
negative_by (suc more) n = elim (nat_lt n 64) [ true ↦ (127 - n) ∷ [] | false ↦ (255 - n % 128) ∷ negative_by more (n / 128) ]

abbrev pub sleb : ℤ → List ℕ
sleb (pos n) = positive_by n n
sleb (negsuc n) = negative_by n n
