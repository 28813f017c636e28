-- The types whose values have no bytes, found level by level.
use Rattle.std.specs.Prelude.{◌≡◌, ℕ, ◌≤◌, zero, suc, Bool, true, false, List, [], ◌∷◌, ◌++◌}
use Rattle.std.specs.List.{list_all}
use Rattle.mo_types.specs.declared.wire.Plain.TheVariants as plain
use Rattle.mo_types.specs.declared.wire.Wire.{Wire}
use Rattle.mo_types.specs.declared.wire.Wire.TheVariants.{Simple, Vec, Record}
use Rattle.mo_types.specs.Spelling.{EmptyBy}
use Rattle.candid_types.specs.Shapes.{shape_at}
use Rattle.candid_read.specs.Parts.{is_marked}

abbrev pub is_empty_head : List Bool → Wire ℕ → Bool
is_empty_head marks (Simple plain.Null) = true
is_empty_head marks (Simple plain.Reserved) = true
is_empty_head marks (Record es) = list_all (λ e. is_marked marks e.part) es
is_empty_head marks _ = false

-- the marks of one level more, of so many types
abbrev pub marks_after : List (Wire ℕ) → List Bool → ℕ → List Bool
marks_after shapes marks zero = []
marks_after shapes marks (suc n) = marks_after shapes marks n ++ is_empty_head marks (shape_at shapes n) ∷ []

-- Exactly the types whose values have no bytes are marked.
pub record AreEmpty (shapes : List (Wire ℕ)) (marks : List Bool) : Type 0 where
  pub sound : (t : ℕ) → is_marked marks t ≡ true → (levels : ℕ) × EmptyBy (shape_at shapes) levels t
  pub complete : (t levels : ℕ) → EmptyBy (shape_at shapes) levels t → is_marked marks t ≡ true

-- a type of the graph that is marked: its values stand everywhere
abbrev pub IsPassed : List Bool → ℕ → Type 0
IsPassed marks t = (18 ≤ t) × (is_marked marks t ≡ true)

-- a vector of items of such a type
abbrev pub HasPassedItems : List Bool → Wire ℕ → Type 0
HasPassedItems marks (Vec t) = IsPassed marks t
HasPassedItems marks _ = ⊥
