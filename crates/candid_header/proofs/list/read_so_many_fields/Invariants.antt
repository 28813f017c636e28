use Rattle.std.proofs.Common.{◌≡◌, ◌-◌, None}
use Rattle.candid_header.specs.Reading.{many}
use Rattle.candid_header.specs.Table.{field_at, id_of}
use Rattle.exact_reading.proofs.Loops.{with_front}
use Rattle.candid_header.proofs.list.read_so_many_fields.Given as goal

abbrev pub invariant-loop : goal.invariant-loop
invariant-loop l = with_front l.fields (many (field_at l.entries) id_of (l.number - l.counter) l.previous l.rest) ≡ many (field_at l.entries) id_of l.number None l.bytes
