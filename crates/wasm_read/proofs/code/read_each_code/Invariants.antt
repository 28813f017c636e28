use Rattle.std.proofs.Common.{◌≡◌, drop}
use Rattle.wasm_read.specs.Parts.{codes_at}
use Rattle.exact_reading.proofs.Loops.{with_front}
use Rattle.wasm_read.proofs.code.read_each_code.Given as goal

abbrev pub invariant-loop-signature : goal.invariant-loop-signature
invariant-loop-signature l = with_front l.functions.items (codes_at (drop l.signature-index l.signatures) l.rest) ≡ codes_at l.signatures l.bytes
