use Rattle.std.proofs.Common.{◌≡◌, ◌-◌}
use Rattle.exact_reading.specs.Reading.{many}
use Rattle.exact_reading.proofs.Loops.{with_front}
use Rattle.wasm_read.specs.Parts.{locals_at, with_group}
use Rattle.wasm_read.proofs.code.read_so_many_groups.Given as goal

abbrev pub invariant-loop : goal.invariant-loop
invariant-loop l = with_front l.groups.items (many locals_at with_group (l.number - l.counter) l.before l.rest) ≡ many locals_at with_group l.number 0 l.bytes
