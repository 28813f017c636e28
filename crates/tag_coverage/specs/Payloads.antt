-- The patterns under the tags of patterns.
use Rattle.std.specs.Prelude.{◌≡◌, ◌<◌, ℕ, List, [], ◌∷◌, ◌++◌, cond, length, map, nat_eq, slice_get, slice_index_or, Some}
use Rattle.std.specs.Str.{bytes_eq}
use denote.Bor.{Bor}
use Rattle.mo_types.specs.declared.node.Field.{Field}
use Rattle.mo_types.specs.declared.node.TypeId.{TypeId}
use Rattle.mo_values.specs.Shapes.{Bytes}
use Rattle.typed_tree.specs.declared.pattern.TypedPattern.{TypedPattern}
use Rattle.typed_tree.specs.Patterns.{Pat, Tagged}
use Rattle.typed_tree.specs.PatternView.{pattern}

abbrev pub IsTag : Pat → Type 0
IsTag (Tagged l p) = Unit {0}
IsTag _ = ⊥

-- what stands under this tag
abbrev pub payload : Bytes → Pat → List Pat
payload l (Tagged m p) = cond (bytes_eq m l) (p ∷ []) []
payload l _ = []

abbrev pub payloads : Bytes → List Pat → List Pat
payloads l [] = []
payloads l (p ∷ ps) = payload l p ++ payloads l ps

-- ---- as the code holds them

abbrev pub patterns_in : List (Bor TypedPattern) → List Pat
patterns_in ps = map (λ p. pattern p.now) ps

-- the list with a number
abbrev pub listed : List (List (Bor TypedPattern)) → ℕ → List Pat
listed lists n = patterns_in (slice_index_or lists n [])

-- the payload of the pattern was put behind the others of its tag, and the other lists are as they were
abbrev pub IsSorted : List (Field TypeId) → Pat → List (List (Bor TypedPattern)) → List (List (Bor TypedPattern)) → Type 0
IsSorted fs p old new =
    (i : ℕ) × (f : Field TypeId) × (q : Pat) × (slice_get fs i ≡ Some f) × (p ≡ Tagged f.label q)
    × ((n : ℕ) → n < length old → listed new n ≡ listed old n ++ cond (nat_eq i n) (q ∷ []) [])

-- there is a list for each tag, with what these patterns have under it
abbrev pub AreSorted : List (Field TypeId) → List Pat → List (List (Bor TypedPattern)) → Type 0
AreSorted fs ps lists = (length lists ≡ length fs) × ((n : ℕ) (f : Field TypeId) → slice_get fs n ≡ Some f → listed lists n ≡ payloads f.label ps)
