-- What the bits of a mask say.
use Rattle.std.specs.Prelude.{◌≡◌, ℕ, zero, suc, ◌+◌, ◌/◌, ◌%◌, ◌<◌, ◌==◌, Bool, List, [], ◌∷◌, if◌then◌else◌}
use Rattle.std.specs.Int.{bit_at}

-- of 64 lanes, bit k is set exactly where lane k passes the test
abbrev pub Marks : (ℕ → Bool) → ℕ → Type 0
Marks test mask = (k : ℕ) → k < 64 → bit_at mask k ≡ (if test k then 1 else 0)

-- the places of the bits that are set, of so many bits, where the lowest stands for the place
unfoldable pub marked_places : ℕ → ℕ → ℕ → List ℕ
marked_places zero place mask = []
marked_places (suc bits) place mask =
    if mask % 2 == 1
    then place ∷ marked_places bits (place + 1) (mask / 2)
    else marked_places bits (place + 1) (mask / 2)
