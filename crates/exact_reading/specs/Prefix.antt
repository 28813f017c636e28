-- What comes after these bytes, which any others break and fewer leave short.
use Rattle.std.specs.Prelude.{ℕ, List, [], ◌∷◌, Result, Ok, Err, nat_eq, if◌then◌else◌}

abbrev pub prefix_at : {F : Type 0} → F → F → List ℕ → List ℕ → Result (List ℕ) F
prefix_at short other [] bytes = Ok bytes
prefix_at short other (h ∷ hs) [] = Err short
prefix_at short other (h ∷ hs) (b ∷ bs) = if nat_eq b h then prefix_at short other hs bs else Err other
