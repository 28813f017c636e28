use Rattle.std.proofs.Common.{refl}
use Rattle.low_ir.specs.Numbering.{host_types, host_signatures}
use Rattle.exact_reading.specs.Reading.{unsigned_at, signed_at, string_at}
use Rattle.candid_header.specs.Table.{number_at, ref_at, field_at, method_at, func_at, entry_at, entries_at, table_at}
use Rattle.wire_table_code.proofs.rows.tables_are_read.Goals as goal

pub returns : goal.returns
unfolding host_types host_signatures unsigned_at signed_at string_at number_at ref_at field_at method_at func_at entry_at entries_at table_at
returns c = refl
