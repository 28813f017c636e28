use Rattle.std.proofs.Common.{refl}
use Rattle.exact_reading.specs.Reading.{unsigned_at, signed_at, string_at}
use Rattle.candid_header.specs.Table.{number_at, ref_at, field_at, method_at, func_at, entry_at}
use Rattle.mo_types.specs.Layout.{layout}
use Rattle.mo_coding.specs.Headers.{header_at, entries_at, table_at}
use Rattle.mo_coding.proofs.rows.types_are_as_wanted.Goals as goal

pub returns-clause-lengths : goal.returns-clause-lengths
unfolding unsigned_at signed_at string_at number_at ref_at field_at method_at func_at entry_at header_at entries_at table_at
returns-clause-lengths c = refl

pub returns-clause-extents : goal.returns-clause-extents
unfolding layout
returns-clause-extents c = refl

pub returns-clause-kept : goal.returns-clause-kept
returns-clause-kept c = refl

pub returns-clause-saved : goal.returns-clause-saved
returns-clause-saved c = refl
