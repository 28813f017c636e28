-- Alternatives as patterns of their own.
use Rattle.std.specs.Prelude.{List, [], ◌∷◌, ◌++◌}
use Rattle.typed_tree.specs.Patterns.{Pat, Either}

-- `p or q` as those of p and those of q, and another pattern as itself
abbrev pub alternatives : Pat → List Pat
alternatives (Either p q) = alternatives p ++ alternatives q
alternatives p = p ∷ []

abbrev pub all_alternatives : List Pat → List Pat
all_alternatives [] = []
all_alternatives (p ∷ ps) = alternatives p ++ all_alternatives ps
