-- What patterns miss of a variant or an option, by what those within miss.
use Rattle.std.specs.Prelude.{◌≡◌, ℕ, List, slice_get, Some}
use Rattle.mo_types.specs.declared.node.Field.{Field}
use Rattle.mo_types.specs.declared.node.Node.{Node}
use Rattle.mo_types.specs.declared.node.TypeId.{TypeId}
use Rattle.mo_types.specs.Sub.{Each}
use Rattle.mo_values.specs.Shapes.{Bytes}
use Rattle.typed_tree.specs.Opening.{Code}
use Rattle.typed_tree.specs.Patterns.{Pat}
use Rattle.pattern_coverage.specs.Cover.{Coverage, Whole, Misses, IsExact}
use Rattle.pattern_coverage.specs.Known.{Holds, Under}
use Rattle.pattern_coverage.specs.Suited.{IsOn}

-- what is missed of what stands under a tag, as missed of the whole
abbrev pub under_tag : Bytes → Coverage → Coverage
under_tag l Whole = Whole
under_tag l (Misses k) = Misses (Under l k)

-- the same of an option
abbrev pub in_option : Coverage → Coverage
in_option Whole = Whole
in_option (Misses k) = Misses (Holds k)

module _ (head : TypeId → Node TypeId) where
  -- what is told of the values of one tag, by what these patterns, which stand under it, miss of its type
  abbrev pub IsToldOf : Field TypeId → List Pat → Coverage → Type 0
  IsToldOf f ps c = (d : Coverage) × (c ≡ under_tag f.label d) × IsExact head Code f.part ps d

  -- the patterns for each tag, by its number, are on its type
  abbrev pub AreOnTags : List (Field TypeId) → (ℕ → List Pat) → Type 0
  AreOnTags fs lists = (n : ℕ) (f : Field TypeId) → slice_get fs n ≡ Some f → Each (λ p. IsOn head p f.part) (lists n)

  -- either nothing is missed of any tag, or of some tag what is told
  abbrev pub IsToldByTag : List (Field TypeId) → (ℕ → List Pat) → Coverage → Type 0
  IsToldByTag fs lists Whole = (n : ℕ) (f : Field TypeId) → slice_get fs n ≡ Some f → IsToldOf f (lists n) Whole
  IsToldByTag fs lists (Misses k) = (n : ℕ) × (f : Field TypeId) × (slice_get fs n ≡ Some f) × IsToldOf f (lists n) (Misses k)
