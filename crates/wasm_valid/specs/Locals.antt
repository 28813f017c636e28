-- Where the groups of locals end.
use Rattle.std.specs.Prelude.{◌≡◌, ℕ, ◌+◌, List, [], ◌∷◌, map, ⊤}
use Rattle.wasm_tree.specs.declared.module_parts.Locals.{Locals}
use Rattle.wasm_valid.specs.declared.locals.Group.{Group}

abbrev pub groups_of : List Group → List Locals
groups_of groups = map (λ g. g.locals) groups

abbrev pub total : List Group → ℕ
total [] = 0
total (g ∷ groups) = g.locals.count + total groups

-- After so many locals, each group has the index behind its last one.
abbrev pub AreEndsAfter : ℕ → List Group → Type 0
AreEndsAfter count [] = ⊤
AreEndsAfter count (g ∷ groups) = (g.end ≡ count + g.locals.count) × AreEndsAfter (count + g.locals.count) groups

abbrev pub AreEnds : List Group → Type 0
AreEnds groups = AreEndsAfter 0 groups
