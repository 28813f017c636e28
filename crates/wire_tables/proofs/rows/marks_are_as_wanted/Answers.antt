use Rattle.std.proofs.Common.{refl}
use Rattle.exact_reading.specs.Reading.{unsigned_at, signed_at, string_at}
use Rattle.candid_header.specs.Table.{number_at, ref_at, field_at, method_at, func_at, entry_at, entries_at, table_at}
use Rattle.wire_tables.proofs.rows.marks_are_as_wanted.Goals as goal

pub returns : goal.returns
unfolding unsigned_at signed_at string_at number_at ref_at field_at method_at func_at entry_at entries_at table_at
returns c = refl
