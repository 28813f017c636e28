use Rattle.std.proofs.Common.{refl}
use Rattle.std.specs.Str.{is_utf8, chars}
use lib.Utf8.{encode}
use Rattle.exact_reading.specs.Reading.{unsigned_at, signed_at, string_at}
use Rattle.candid_header.specs.Header.{header_at}
use Rattle.candid_header.specs.Table.{number_at, ref_at, field_at, method_at, func_at, entry_at, entries_at, table_at}
use Rattle.candid_read.specs.Parts as parts
use Rattle.mo_coding.proofs.rows.messages_are_as_wanted.Goals as goal

pub returns-clause-written : goal.returns-clause-written
unfolding is_utf8 chars encode
returns-clause-written c = refl

pub returns-clause-read : goal.returns-clause-read
unfolding is_utf8 chars encode unsigned_at signed_at string_at header_at number_at ref_at field_at method_at func_at entry_at entries_at table_at parts.nat_at parts.int_at parts.unsigned_at parts.signed_at parts.text_at parts.few_bytes_at parts.principal_at parts.method_name_at parts.method_at parts.vector_at parts.tag_at parts.char_at parts.blob_at
returns-clause-read c = refl

pub returns-clause-twice : goal.returns-clause-twice
returns-clause-twice c = refl

pub returns-clause-others : goal.returns-clause-others
unfolding is_utf8 chars encode unsigned_at signed_at string_at header_at number_at ref_at field_at method_at func_at entry_at entries_at table_at parts.nat_at parts.int_at parts.unsigned_at parts.signed_at parts.text_at parts.few_bytes_at parts.principal_at parts.method_name_at parts.method_at parts.vector_at parts.tag_at parts.char_at parts.blob_at
returns-clause-others c = refl
