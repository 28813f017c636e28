-- Classes of equal Candid types.
use Rattle.std.specs.Prelude.{◌≡◌, ℕ, List, Option, Some, None, slice_get, slice_index}
use Rattle.mo_types.specs.declared.wire.Wire.{Wire}
use Rattle.mo_types.specs.Wire.{SameWire}
use Rattle.candid_types.specs.Shapes.{shape_at}

abbrev pub class_or : Option ℕ → ℕ → ℕ
class_or None first = first
class_or (Some c) first = c

-- the class of a number; what is past the end is empty, as the first number is
abbrev pub class_at : List ℕ → ℕ → ℕ
class_at classes n = class_or (slice_get classes n) (slice_index classes 0)

-- two numbers have one class exactly where their types are equal
pub record AreClasses (shapes : List (Wire ℕ)) (classes : List ℕ) : Type 0 where
  pub same : (a b : ℕ) → class_at classes a ≡ class_at classes b → SameWire (shape_at shapes) (shape_at shapes) a b
  pub one : (a b : ℕ) → SameWire (shape_at shapes) (shape_at shapes) a b → class_at classes a ≡ class_at classes b
