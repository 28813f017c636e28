-- Fields by their labels.
use Rattle.std.specs.Prelude.{◌≡◌, ℕ, List, Option}
use Rattle.std.specs.Borrow.{Bor}
use Rattle.std.specs.Option.{option_map}
use Rattle.std.specs.Str.{bytes_eq}
use Rattle.indexmap.specs.IndexMap.{IndexMap, get_by}
use Rattle.mo_types.specs.declared.node.Field.{Field}
use Rattle.mo_types.specs.declared.node.TypeId.{TypeId}
use Rattle.mo_types.specs.Sub.{find}

-- the field that is kept for a label
abbrev pub field_at : {S : Type 0} → IndexMap (Bor (List ℕ)) (Bor (Field TypeId)) S → List ℕ → Option (Field TypeId)
field_at index x = option_map (λ f. f.now) (get_by (λ k. bytes_eq x k.now) index)

-- for each label the first field is kept
abbrev pub Indexes : {S : Type 0} → IndexMap (Bor (List ℕ)) (Bor (Field TypeId)) S → List (Field TypeId) → Type 0
Indexes index fields = (x : List ℕ) → field_at index x ≡ find x fields
