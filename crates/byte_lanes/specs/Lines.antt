-- The places where lines start.
use Rattle.std.specs.Prelude.{ℕ, ◌+◌, List, [], ◌∷◌, ◌==◌, if◌then◌else◌}

-- the line feed of ASCII (RFC 20)
abbrev pub newline : ℕ
newline = 10

-- the places after the newlines, of bytes that begin at the place
abbrev pub places_after_newlines : ℕ → List ℕ → List ℕ
places_after_newlines place [] = []
places_after_newlines place (byte ∷ bytes) =
    if byte == newline
    then (place + 1) ∷ places_after_newlines (place + 1) bytes
    else places_after_newlines (place + 1) bytes

-- 0, and each place after a newline
abbrev pub line_start_places : List ℕ → List ℕ
line_start_places bytes = 0 ∷ places_after_newlines 0 bytes
