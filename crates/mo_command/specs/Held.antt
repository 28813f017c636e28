-- What files hold, where that is told.
use Rattle.std.specs.Prelude.{◌≡◌, ℕ, List, Option, Some, IfSome, take, slice_get}
use Rattle.std.specs.List.{AllByRecursion}
use Rattle.outer.specs.Names.{NameMap}

-- The outside as it is told: what names hold, how often reads and writes failed, what was put on the output, and how
-- often a put on it failed.
pub record Outside : Type 0 where
  pub names : Option NameMap
  pub reads : ℕ
  pub writes : ℕ
  pub out : Option (List ℕ)
  pub puts : ℕ

abbrev pub outside : Option NameMap → ℕ → ℕ → Option (List ℕ) → ℕ → Outside
outside names reads writes out puts = record { names = names; reads = reads; writes = writes; out = out; puts = puts }

-- The name holds such bytes.
abbrev pub HasBytes : NameMap → List ℕ → (List ℕ → Type 0) → Type 0
HasBytes held name P = (bytes : List ℕ) × (held name ≡ Some bytes) × P bytes

-- The same, where it is told what names hold.
abbrev pub Holds : Option NameMap → List ℕ → (List ℕ → Type 0) → Type 0
Holds names name P = IfSome names (λ held. HasBytes held name P)

-- The file at this place is so, and each file before it holds such bytes.
pub record FirstFile (held : NameMap) (Good : List ℕ → Type 0) (files : List (List ℕ)) (place : ℕ) (P : List ℕ → Type 0) : Type 0 where
  pub file : List ℕ
  pub there : slice_get files place ≡ Some file
  pub before : AllByRecursion (λ name. HasBytes held name Good) (take place files)
  pub is : P file
