use Rattle.std.proofs.Common.{◌≡◌, ◌-◌, length}
use Rattle.std.specs.Prelude.{reverse}
use Rattle.wasm_read.specs.Codes.{body_at, expression_at}
use Rattle.exact_reading.proofs.Loops.{with_front}
use Rattle.wasm_read.proofs.expression.read_ops.Given as goal

abbrev pub invariant-loop : goal.invariant-loop
invariant-loop l = with_front l.ops.items (body_at (length l.bytes - l.counter) l.owed (reverse l.opens.items) l.rest) ≡ expression_at l.bytes
