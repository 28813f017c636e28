use Rattle.std.proofs.Common.{◌≡◌, ◌-◌, None}
use Rattle.candid_header.specs.Reading.{many}
use Rattle.candid_header.specs.Table.{ref_item, no_state}
use Rattle.exact_reading.proofs.Loops.{with_front}
use Rattle.candid_header.proofs.list.read_so_many_refs.Given as goal

abbrev pub invariant-loop : goal.invariant-loop
invariant-loop l = with_front l.refs (many (ref_item l.entries) no_state (l.number - l.counter) None l.rest) ≡ many (ref_item l.entries) no_state l.number None l.bytes
