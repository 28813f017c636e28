-- CRC-32: ISO 3309 and ITU-T V.42, which the IC interface specification names for the text of a principal. Polynomials
-- have coefficients modulo 2: they stand as the lists of these, the highest power first, `true` for 1.
use Rattle.std.specs.Prelude.{ℕ, zero, suc, ◌+◌, ◌*◌, ◌/◌, ◌%◌, ◌==◌, Bool, true, false, not, if◌then◌else◌, List, [], ◌∷◌, ◌++◌, map, take, drop, replicate}

-- The lowest so many binary digits, the lowest first.
unfoldable pub bits : ℕ → ℕ → List Bool
bits zero n = []
bits (suc k) n = (n % 2 == 1) ∷ bits k (n / 2)

-- The number of such digits.
abbrev pub bits_value : List Bool → ℕ
bits_value [] = 0
bits_value (b ∷ bs) = (if b then 1 else 0) + 2 * bits_value bs

-- The polynomial of the bytes: each byte gives eight coefficients, its lowest digit first.
abbrev pub message : List ℕ → List Bool
message [] = []
message (byte ∷ bytes) = bits 8 byte ++ message bytes

abbrev pub differs : Bool → Bool → Bool
differs true b = not b
differs false b = b

abbrev pub sum_of : List Bool → List Bool → List Bool
sum_of [] ys = ys
sum_of (x ∷ xs) [] = x ∷ xs
sum_of (x ∷ xs) (y ∷ ys) = differs x y ∷ sum_of xs ys

-- The generator is x^32 and these: x^26 + x^23 + x^22 + x^16 + x^12 + x^11 + x^10 + x^8 + x^7 + x^5 + x^4 + x^2 + x + 1.
unfoldable pub generator : List Bool
generator = map (λ c. c == 1) (0 ∷ 0 ∷ 0 ∷ 0 ∷ 0 ∷ 1 ∷ 0 ∷ 0 ∷ 1 ∷ 1 ∷ 0 ∷ 0 ∷ 0 ∷ 0 ∷ 0 ∷ 1 ∷ 0 ∷ 0 ∷ 0 ∷ 1 ∷ 1 ∷ 1 ∷ 0 ∷ 1 ∷ 1 ∷ 0 ∷ 1 ∷ 1 ∷ 0 ∷ 1 ∷ 1 ∷ 1 ∷ [])

-- Long division by the generator: where the first of 33 coefficients is 1, the generator is taken away from them. What
-- is left has 32 coefficients.
abbrev pub divided : List Bool → List Bool → List Bool
divided window [] = window
divided [] (b ∷ rest) = []
divided (false ∷ window) (b ∷ rest) = divided (window ++ b ∷ []) rest
divided (true ∷ window) (b ∷ rest) = divided (sum_of (window ++ b ∷ []) generator) rest

-- The remainder of the polynomial times x^32, after others are added to its first 32 coefficients.
unfoldable pub remainder : List Bool → List Bool → List Bool
remainder first polynomial = let long = polynomial ++ replicate 32 false in divided (sum_of first (take 32 long)) (drop 32 long)

-- The checksum: the first 32 coefficients are inverted before the division, and those of the remainder after it.
unfoldable pub crc32_of : List ℕ → ℕ
crc32_of bytes = bits_value (map not (remainder (replicate 32 true) (message bytes)))
