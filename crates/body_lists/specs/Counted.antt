-- Sizes with what stands before each.
use Rattle.std.specs.Prelude.{◌≡◌, ℕ, ◌+◌, List, [], ◌∷◌}

abbrev pub AreCounted : ℕ → List (ℕ × ℕ) → ℕ → Type 0
AreCounted before [] all = before ≡ all
AreCounted before (g ∷ gs) all = (g.1 ≡ before) × AreCounted (before + g.0) gs all

abbrev pub all_of : List ℕ → ℕ
all_of [] = 0
all_of (n ∷ ns) = n + all_of ns
