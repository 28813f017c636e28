use Rattle.std.proofs.Common.{◌≡◌, ◌++◌, drop, map}
use Rattle.wasm_emit.specs.Emit.{emitted_export}
use Rattle.wasm_emit.proofs.parts.exports.Given as goal

abbrev pub invariant-loop-it : goal.invariant-loop-it
invariant-loop-it l = map emitted_export l.low ≡ l.exports ++ map emitted_export (drop l.it-index l.low)
