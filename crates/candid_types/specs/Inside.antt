-- The types of the values inside a part, by number.
use Rattle.std.specs.Prelude.{ℕ, List, [], slice_get, map}
use Rattle.mo_types.specs.declared.datum.Datum.{Datum}
use Rattle.mo_types.specs.declared.datum.Datum.TheVariants as part
use Rattle.mo_types.specs.declared.wire.Entry.{Entry}
use Rattle.mo_types.specs.declared.wire.Wire.{Wire}
use Rattle.mo_types.specs.declared.wire.Wire.TheVariants.{Simple, Opt, Vec, Record, Variant, Func, Service}
use Rattle.mo_types.specs.Values.{copies}
use Rattle.mo_types.specs.Spelling.{one_part}
use Rattle.candid_types.specs.Shapes.{shape_at}

-- how many values are inside a part, or which tag it has
abbrev pub times : Datum → ℕ
times part.Null = 0
times (part.Flag b) = 0
times (part.Number n) = 0
times (part.Char c) = 0
times (part.Text t) = 0
times (part.Blob t) = 0
times (part.Principal p) = 0
times (part.Actor p) = 0
times (part.Method p m) = 0
times part.Present = 1
times (part.Many n) = n
times (part.Record n) = n
times (part.Tag i) = i

abbrev pub parts_of : List (Entry ℕ) → List ℕ
parts_of es = map (λ e. e.part) es

abbrev pub inside_by : Wire ℕ → ℕ → List ℕ
inside_by (Simple p) n = []
inside_by (Opt t) n = copies n t
inside_by (Vec t) n = copies n t
inside_by (Record es) n = parts_of es
inside_by (Variant es) n = one_part (slice_get es n)
inside_by (Func ps rs ns) n = []
inside_by (Service ms) n = []

-- the types of the values inside a part of a type
unfoldable pub below : List (Wire ℕ) → ℕ → Datum → List ℕ
below shapes t p = inside_by (shape_at shapes t) (times p)
