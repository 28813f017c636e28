-- Bytes that are made piece by piece, or not at all where a number is too great or a value is of another type.
use Rattle.std.specs.Prelude.{ℕ, ◌^◌, Bool, true, false, List, [], ◌∷◌, ◌++◌, length, Option, Some, None, nat_lt, ℤ}
use Rattle.exact_reading.specs.Reading.{is_signed}
use Rattle.mo_coding.specs.Numbers.{leb, sleb}

abbrev pub Piece : Type 0
Piece = Option (List ℕ)

-- the one, and then the other
abbrev pub join : Piece → Piece → Piece
join (Some a) (Some b) = Some (a ++ b)
join (Some a) None = None
join None b = None

-- where the test holds
abbrev pub given : Bool → Piece → Piece
given true piece = piece
given false piece = None

-- numbers of so many bits
abbrev pub unsigned : ℕ → ℕ → Piece
unsigned bits n = given (nat_lt n (2 ^ bits)) (Some (leb n))

abbrev pub signed : ℕ → ℤ → Piece
signed bits n = given (is_signed bits n) (Some (sleb n))

-- bytes behind their number
abbrev pub string : List ℕ → Piece
string text = join (unsigned 32 (length text)) (Some text)

-- each, one after the other
abbrev pub each : {X : Type 0} → (X → Piece) → List X → Piece
each item [] = Some []
each item (x ∷ xs) = join (item x) (each item xs)

-- and behind their number
abbrev pub list : {X : Type 0} → (X → Piece) → List X → Piece
list item xs = join (unsigned 32 (length xs)) (each item xs)
