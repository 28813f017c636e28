-- Patterns that are tags alone, under each of which all values match where that shows at once, and what they miss of a variant.
use Rattle.std.specs.Prelude.{◌≡◌, ℕ, suc, List, [], ◌∷◌, map, reverse, slice_get, Bool, false, true, not, ◌&&◌, ◌||◌, cond, Some}
use Rattle.mo_types.specs.declared.node.Field.{Field}
use Rattle.mo_types.specs.declared.node.Node.{Node}
use Rattle.mo_types.specs.declared.node.Node.TheVariants as node
use Rattle.mo_types.specs.declared.node.TypeId.{TypeId}
use Rattle.mo_types.specs.Sub.{Each}
use Rattle.mo_values.specs.Shapes.{Bytes}
use Rattle.typed_tree.specs.Patterns.{Pat, Tagged}
use Rattle.pattern_coverage.specs.Cover as cover
use Rattle.pattern_coverage.specs.Cutting.{is_label_among}
use Rattle.pattern_coverage.specs.Inhabited.{flag_there}
use Rattle.pattern_coverage.specs.Known.{NotUnder}
use Rattle.mo_coverage.specs.declared.tagged.Met.{Met}
use Rattle.mo_coverage.specs.Easy.{is_easy}
use Rattle.mo_coverage.specs.Places.{tag_left}

abbrev pub met_tag : Bytes → List Bytes → List Bytes
met_tag l ls = cond (is_label_among l ls) ls (l ∷ ls)

abbrev pub met_by : Pat → List Bytes → List Bytes
met_by (Tagged l q) ls = met_tag l ls
met_by p ls = ls

-- the tags of patterns, the last first, before those that were met
abbrev pub met : List Pat → List Bytes → List Bytes
met [] ls = ls
met (p ∷ ps) ls = met ps (met_by p ls)

module _ {A : Type 0} where
  -- an easy pattern under the tag at a place
  abbrev pub IsEasyAt : List (Field A) → Pat → ℕ → Type 0
  IsEasyAt fs p i = (f : Field A) × (q : Pat) × (slice_get fs i ≡ Some f) × (p ≡ Tagged f.label q) × (is_easy q ≡ true)

  abbrev pub IsEasyTag : List (Field A) → Pat → Type 0
  IsEasyTag fs p = (i : ℕ) × IsEasyAt fs p i

  -- each pattern is one, and there is one
  abbrev pub AreEasyTags : List (Field A) → List Pat → Type 0
  AreEasyTags fs [] = ⊥
  AreEasyTags fs (p ∷ ps) = IsEasyTag fs p × Each (IsEasyTag fs) ps

  -- which tags are among these
  abbrev pub met_marks : List (Field A) → List Bytes → List Bool
  met_marks fs ls = map (λ f. is_label_among f.label ls) fs

  -- a tag with values is not marked; of these tags the first has the mark at place i
  abbrev pub unmarked : (A → Bool) → ℕ → List (Field A) → List Bool → Bool
  unmarked has i [] bs = false
  unmarked has i (f ∷ fs) bs = (has f.part && not (flag_there (slice_get bs i))) || unmarked has (suc i) fs bs

  -- what is missed of a variant besides these tags
  abbrev pub left_over : (A → Bool) → List (Field A) → List Bytes → cover.Coverage
  left_over has fs ls = cond (tag_left has fs ls) (cover.Misses (NotUnder ls)) cover.Whole

  abbrev pub IsByTags : (A → Bool) → Node A → List Pat → cover.Coverage → Type 0
  IsByTags has x ps c = (fs : List (Field A)) × (x ≡ node.Variant fs) × AreEasyTags fs ps × (c ≡ left_over has fs (met ps []))

-- the marks are those of the labels
abbrev pub IsMet : List (Field TypeId) → Met → Type 0
IsMet fs found = found.marks.items ≡ met_marks fs (reverse found.labels.items)

-- the tag at a place was met besides
abbrev pub HasMet : List (Field TypeId) → ℕ → Met → Met → Type 0
HasMet fs place old new = (f : Field TypeId) → slice_get fs place ≡ Some f → (reverse new.labels.items ≡ met_tag f.label (reverse old.labels.items)) × IsMet fs new
