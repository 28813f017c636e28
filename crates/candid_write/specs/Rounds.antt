-- One round of refinement: signatures are put in a list, each once, and a type's new class is the place of its own.
use Rattle.std.specs.Prelude.{◌≡◌, ℕ, suc, ◌<◌, ◌||◌, Bool, false, List, [], ◌∷◌, ◌++◌, length, map, nat_eq, slice_index, if◌then◌else◌}
use Rattle.std.specs.Global.{Vec}
use Rattle.std.specs.Cmp.Lexicographic.{pointwise}
use Rattle.mo_types.specs.declared.wire.Wire.{Wire}
use Rattle.candid_types.specs.Shapes.{shape_at}
use Rattle.candid_write.specs.Signature.{signature}

abbrev pub lists : List (Vec ℕ) → List (List ℕ)
lists vs = map (λ v. v.items) vs

abbrev pub is_same : List ℕ → List ℕ → Bool
is_same s t = pointwise nat_eq s t

-- the place of a list among others, or how many these are
abbrev pub place : List (List ℕ) → List ℕ → ℕ
place [] s = 0
place (t ∷ ts) s = if is_same s t then 0 else suc (place ts s)

abbrev pub has : List (List ℕ) → List ℕ → Bool
has [] s = false
has (t ∷ ts) s = is_same s t || has ts s

abbrev pub with_list : List (List ℕ) → List ℕ → List (List ℕ)
with_list ts s = if has ts s then ts else ts ++ s ∷ []

pub record PutsAt (old : List (List ℕ)) (s : List ℕ) (at : ℕ) (new : List (List ℕ)) : Type 0 where
  pub place : at ≡ place old s
  pub lists : new ≡ with_list old s

-- the classes are the numbers below a count, each of some type
pub record Counts (classes : List ℕ) (count : ℕ) : Type 0 where
  pub within : (i : ℕ) → i < length classes → slice_index classes i < count
  pub onto : (j : ℕ) → j < count → (i : ℕ) × (i < length classes) × (slice_index classes i ≡ j)

-- two numbers have one new class exactly where their heads are equal up to the old ones
pub record Refines (shapes : List (Wire ℕ)) (old new : List ℕ) : Type 0 where
  pub count : length new ≡ length shapes
  pub same : (a b : ℕ) → a < length shapes → b < length shapes → slice_index new a ≡ slice_index new b → signature old (shape_at shapes a) ≡ signature old (shape_at shapes b)
  pub one : (a b : ℕ) → a < length shapes → b < length shapes → signature old (shape_at shapes a) ≡ signature old (shape_at shapes b) → slice_index new a ≡ slice_index new b
