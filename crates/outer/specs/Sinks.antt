-- What a sink holds after a put that did not do its work.
use Rattle.std.specs.Prelude.{ℕ, List, take, Option}
use Rattle.std.specs.Io.KnownBytes.{Appends}

-- a prefix of the piece was appended, where it is told what the sink holds
abbrev pub AppendsPrefix : Option (List ℕ) → Option (List ℕ) → List ℕ → Type 0
AppendsPrefix old new piece = (count : ℕ) × Appends old new (take count piece)
