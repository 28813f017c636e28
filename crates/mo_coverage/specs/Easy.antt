-- Patterns that match all values of their type, where that shows at once, and tags under which all values match one.
use Rattle.std.specs.Prelude.{◌≡◌, ℕ, List, slice_get, Bool, true, false, ◌&&◌, ◌⊎◌, Some}
use Rattle.mo_types.specs.declared.node.Field.{Field}
use Rattle.mo_types.specs.declared.node.Node.{Node}
use Rattle.mo_types.specs.declared.node.Node.TheVariants as node
use Rattle.mo_values.specs.Shapes.{Bytes}
use Rattle.typed_tree.specs.Patterns.{Pat, Pats, Wildcard, Bind, Tagged, Parts, NoPat, APat}

abbrev pub is_name : Pat → Bool
is_name Wildcard = true
is_name Bind = true
is_name p = false

abbrev pub are_names : Pats → Bool
are_names NoPat = true
are_names (APat p ps) = is_name p && are_names ps

-- `_`, a name, or a tuple of these
abbrev pub is_easy : Pat → Bool
is_easy Wildcard = true
is_easy Bind = true
is_easy (Parts ps) = are_names ps
is_easy p = false

-- one of the patterns is easy
abbrev pub SomeEasy : List Pat → Type 0
SomeEasy ps = (n : ℕ) × (p : Pat) × (slice_get ps n ≡ Some p) × (is_easy p ≡ true)

-- one of them is an easy pattern under the tag
abbrev pub IsEasyUnder : List Pat → Bytes → Type 0
IsEasyUnder ps l = (n : ℕ) × (q : Pat) × (slice_get ps n ≡ Some (Tagged l q)) × (is_easy q ≡ true)

module _ {A : Type 0} where
  -- under each tag with values
  abbrev pub AreEasyUnder : (A → Bool) → List (Field A) → List Pat → Type 0
  AreEasyUnder has fs ps = (i : ℕ) (f : Field A) → slice_get fs i ≡ Some f → has f.part ≡ true → IsEasyUnder ps f.label

  abbrev pub AreMarked : List (Field A) → List Bool → List Pat → Type 0
  AreMarked fs marks ps = (i : ℕ) (f : Field A) → slice_get fs i ≡ Some f → slice_get marks i ≡ Some true → IsEasyUnder ps f.label

-- a pattern that is easy, or one under each tag with values of the variant
abbrev pub IsEasilyWhole : {A : Type 0} → (A → Bool) → Node A → List Pat → Type 0
IsEasilyWhole {A = A} has x ps = SomeEasy ps ⊎ ((fs : List (Field A)) × (x ≡ node.Variant fs) × AreEasyUnder has fs ps)
