-- Names and what they stand for, kept in two lists, the outermost first.
use Rattle.std.specs.Prelude.{ℕ, List, [], ◌∷◌}

-- both, entered one after the other in front of others
abbrev pub entered : {T : Type 0} → List (List ℕ × T) → List (List ℕ) → List T → List (List ℕ × T)
entered before (x ∷ xs) (t ∷ ts) = entered ((x, t) ∷ before) xs ts
entered before _ _ = before

-- both, the innermost first
abbrev pub stacked : {T : Type 0} → List (List ℕ) → List T → List (List ℕ × T)
stacked xs ts = entered [] xs ts
