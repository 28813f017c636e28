use Rattle.std.proofs.Common.{◌≡◌, ◌-◌, None}
use Rattle.candid_header.specs.Reading.{many}
use Rattle.candid_header.specs.Table.{method_at, name_of, last_name}
use Rattle.exact_reading.proofs.Loops.{with_front}
use Rattle.candid_header.proofs.list.read_so_many_methods.Given as goal

abbrev pub invariant-loop : goal.invariant-loop
invariant-loop l = with_front l.methods (many (method_at l.entries) name_of (l.number - l.counter) (last_name l.methods) l.rest) ≡ many (method_at l.entries) name_of l.number None l.bytes
