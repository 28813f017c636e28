use Rattle.std.proofs.Common.{◌≡◌, ◌-◌}
use Rattle.exact_reading.proofs.Loops.{with_front}
use Rattle.wasm_read.specs.Fields.{each_at}
use Rattle.wasm_read.proofs.vector.read_each.Given as goal

abbrev pub invariant-loop : goal.invariant-loop
invariant-loop g l = with_front l.items.items (each_at g.I.Item.at (l.count - l.counter) l.rest) ≡ each_at g.I.Item.at l.count l.bytes
