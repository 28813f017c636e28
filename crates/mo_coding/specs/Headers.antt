-- The length of the header at the front of a message (Candid specification, section "Type definition table"), of a table of
-- any length.
use Rattle.std.specs.Prelude.{ℕ, ◌-◌, List, length, None, Result, Ok, Err}
use Rattle.mo_types.specs.declared.wire.Wire.{Wire}
use Rattle.mo_types.specs.declared.wire.TableRef.{TableRef}
use Rattle.candid_header.specs.declared.fault.Fault.{Fault}
use Rattle.candid_header.specs.declared.fault.Fault.TheVariants.{BadTable}
use Rattle.candid_header.specs.declared.header.Header.{Header}
use Rattle.candid_header.specs.Header.{magic_at, header}
use Rattle.candid_header.specs.Reading.{Reading, many, u32_at}
use Rattle.candid_header.specs.Table.{are_functions, entry_item, no_state, refs_at}
use Rattle.exact_reading.specs.Reading.{◌>>=◌, kept}
use Rattle.mo_values.specs.Shapes.{Bytes}

-- entries behind their number
unfoldable pub entries_at : Reading (List (Wire TableRef))
entries_at bytes = u32_at BadTable bytes >>= λ n. many (entry_item n.0) no_state n.0 None n.1

-- those of a table whose methods are functions
unfoldable pub table_at : Reading (List (Wire TableRef))
table_at = kept BadTable are_functions entries_at

unfoldable pub header_at : Reading Header
header_at bytes = magic_at bytes >>= λ rest. table_at rest >>= λ t. refs_at (length t.0) t.1 >>= λ r. Ok (header t.0 r.0, r.1)

abbrev pub length_by : Bytes → Result (Header × List ℕ) Fault → ℕ
length_by bytes (Ok r) = length bytes - length r.1
length_by bytes (Err f) = length bytes

-- the bytes up to the end of the header, all of them where there is none
abbrev pub header_length : Bytes → ℕ
header_length bytes = length_by bytes (header_at bytes)
