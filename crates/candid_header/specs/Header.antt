-- Reading whole headers.
use Rattle.std.specs.Prelude.{◌≡◌, ℕ, ◌≤◌, List, ◌++◌, length, Result, Ok, Err}
use Rattle.mo_types.specs.declared.wire.Wire.{Wire}
use Rattle.mo_types.specs.declared.wire.TableRef.{TableRef}
use Rattle.mo_types.specs.Spelling.{padded}
use Rattle.mo_types.specs.Header.{magic, IsHeader, IsTableRef, IsTable}
use Rattle.candid_header.specs.declared.fault.Fault.{Fault}
use Rattle.candid_header.specs.declared.fault.Fault.TheVariants.{NotDidl, Short}
use Rattle.exact_reading.specs.declared.stop.Stop.{Stop}
use Rattle.exact_reading.specs.declared.stop.Stop.TheVariants as stop
use Rattle.candid_header.specs.declared.header.Header.{Header}
use Rattle.exact_reading.specs.Reading.{◌>>=◌}
use Rattle.exact_reading.specs.Prefix.{prefix_at}
use Rattle.candid_header.specs.Reading.{Reading}
use Rattle.candid_header.specs.Table.{refs_at, table_at}

-- What comes after the first four bytes. Fewer are short where they begin as these do, and others are of no message.
abbrev pub magic_at : List ℕ → Result (List ℕ) Fault
magic_at bytes = prefix_at Short NotDidl magic bytes

abbrev pub header : List (Wire TableRef) → List TableRef → Header
header table args = record { table = table; arguments = args }

unfoldable pub header_at : Reading Header
header_at bytes = magic_at bytes >>= λ rest. table_at rest >>= λ t. refs_at (length t.0) t.1 >>= λ r. Ok (header t.0 r.0, r.1)

-- a header of a table that is well formed, in numbers that may be padded
pub record IsHead (h : Header) (bytes : List ℕ) : Type 0 where
  pub few : length h.table ≤ 4096
  pub well_formed : IsTable h.table h.arguments
  pub spelled : IsHeader padded (IsTableRef padded) h.table h.arguments bytes

-- such a header stands at the front, and these bytes come after it
pub record Reads (h : Header) (bytes rest : List ℕ) : Type 0 where
  pub front : List ℕ
  pub whole : bytes ≡ front ++ rest
  pub head : IsHead h front

-- that answer, or memory ran out
abbrev pub Finds : {X : Type 0} → (X → Header × List ℕ) → Result X (Stop Fault) → Header → List ℕ → Type 0
Finds view (Ok x) h rest = view x ≡ (h, rest)
Finds view (Err stop.Memory) h rest = Unit {0}
Finds view (Err (stop.Fault f)) h rest = ⊥
