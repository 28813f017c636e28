-- The operands that cells hold.
use Rattle.std.specs.Prelude.{ℕ, zero, suc, List, [], ◌∷◌, slice_index}

-- The topmost first, of cells of which so many are in use.
abbrev pub tops : List ℕ → ℕ → List ℕ
tops cells zero = []
tops cells (suc n) = slice_index cells n ∷ tops cells n
