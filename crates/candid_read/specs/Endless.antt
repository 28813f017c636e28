-- Records that contain themselves through records alone. They have no values.
use Rattle.std.specs.Prelude.{◌≡◌, ℕ, List, [], Bool, true, Some, slice_get}
use Rattle.mo_types.specs.declared.wire.Wire.{Wire}
use Rattle.mo_types.specs.declared.wire.Wire.TheVariants.{Record}
use Rattle.candid_types.specs.Shapes.{shape_at}
use Rattle.candid_types.specs.Inside.{parts_of}
use Rattle.candid_read.specs.Parts.{is_marked}

abbrev pub In : List ℕ → ℕ → Type 0
In ts t = (k : ℕ) × (slice_get ts k ≡ Some t)

abbrev pub fields_by : Wire ℕ → List ℕ
fields_by (Record es) = parts_of es
fields_by _ = []

-- the types of the fields of a record; other types have none
abbrev pub fields_of : List (Wire ℕ) → ℕ → List ℕ
fields_of shapes t = fields_by (shape_at shapes t)

-- The one is a record that the other is inside, through records alone.
pub data Encloses (shapes : List (Wire ℕ)) : ℕ → ℕ → Type 0 where
  Field : {t u : ℕ} → In (fields_of shapes t) u → Encloses shapes t u
  Deeper : {t u v : ℕ} → In (fields_of shapes t) u → Encloses shapes u v → Encloses shapes t v

-- Exactly the records that enclose themselves are marked.
pub record AreEndless (shapes : List (Wire ℕ)) (marks : List Bool) : Type 0 where
  pub sound : (t : ℕ) → is_marked marks t ≡ true → Encloses shapes t t
  pub complete : (t : ℕ) → Encloses shapes t t → is_marked marks t ≡ true
