use Rattle.std.proofs.Common.{◌≡◌, ◌-◌, None}
use Rattle.candid_header.specs.Reading.{many}
use Rattle.candid_header.specs.Table.{entry_item, no_state}
use Rattle.exact_reading.proofs.Loops.{with_front}
use Rattle.candid_header.proofs.table.read_so_many_entries.Given as goal

abbrev pub invariant-loop : goal.invariant-loop
invariant-loop l = with_front l.table (many (entry_item l.number) no_state (l.number - l.counter) None l.rest) ≡ many (entry_item l.number) no_state l.number None l.bytes
