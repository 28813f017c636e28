-- Entries of texts whose blocks stand one behind the other.
use Rattle.std.specs.Prelude.{◌≡◌, ℕ, ◌+◌, List, [], ◌∷◌, map}
use Rattle.std.specs.declared.vec.Vec.{Vec}
use Rattle.heap_layout.specs.Blocks.{text_words}

-- Each begins where the one before it ends: from word i on, up to the last.
abbrev pub ArePlaced : ℕ → List (List ℕ × ℕ) → ℕ → Type 0
ArePlaced i [] last = i ≡ last
ArePlaced i (e ∷ es) last = (e.1 ≡ i) × ArePlaced (i + text_words e.0) es last
