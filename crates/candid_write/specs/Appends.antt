-- What a writer adds at the end of the bytes.
use Rattle.std.specs.Prelude.{◌≡◌, ℕ, List, ◌++◌, map, Option, Some, None}
use Rattle.mo_types.specs.declared.wire.Plain.{Plain}
use Rattle.mo_types.specs.declared.wire.Wire.{Wire}
use Rattle.mo_types.specs.declared.wire.Wire.TheVariants.{Simple}
use Rattle.mo_types.specs.Spelling.{Then, shortest}
use Rattle.mo_types.specs.Header.{IsByte, IsList, IsRef, IsHeader}
use Rattle.candid_types.specs.Shapes.{shape_at}
use Rattle.candid_write.specs.declared.places.Table.{Table}

-- the new bytes are the old ones, and behind them bytes that satisfy P
pub record Appends (P : List ℕ → Type 0) (old new : List ℕ) : Type 0 where
  pub bytes : List ℕ
  pub whole : new ≡ old ++ bytes
  pub fits : P bytes

abbrev pub simple_of : Wire ℕ → Option Plain
simple_of (Simple p) = Some p
simple_of _ = None

-- a type of the table as a header has it
abbrev pub IsRefIn : Table → ℕ → List ℕ → Type 0
IsRefIn t n bytes = IsRef (shape_at t.shapes) shortest t.order.items n bytes

-- the header of a table, with the arguments of these numbers
abbrev pub IsHeaderOf : Table → List ℕ → List ℕ → Type 0
IsHeaderOf t args bytes = IsHeader shortest (IsRefIn t) (map (shape_at t.shapes) t.order.items) args bytes

abbrev pub IsFunction : (ℕ → List ℕ → Type 0) → List ℕ → List ℕ → List ℕ → List ℕ → Type 0
IsFunction Part ps rs ns bytes = Then (IsList shortest Part ps) (λ c. Then (IsList shortest Part rs) (IsList shortest IsByte ns) c) bytes
