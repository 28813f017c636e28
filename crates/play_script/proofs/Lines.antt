-- A line is written word by word.
use Rattle.std.proofs.Common.{◌≡◌, ℕ, List, [], ◌∷◌, ◌++◌, ◌∙◌, ap}
use Rattle.std.proofs.lemmas.List.{append_assoc}
use Rattle.play_script.specs.Items.{line_end}

-- the last word
pub last-word : (old new word : List ℕ) → new ≡ old ++ 32 ∷ word → new ++ 10 ∷ [] ≡ old ++ line_end (word ∷ [])
last-word old new word e = ap (λ w. w ++ 10 ∷ []) e ∙ append_assoc old (32 ∷ word) (10 ∷ [])
