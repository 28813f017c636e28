use Rattle.std.proofs.Common.{◌≡◌, ◌++◌, drop, map}
use Rattle.wasm_emit.specs.Emit.{emitted_function}
use Rattle.wasm_emit.proofs.parts.functions.Given as goal

abbrev pub invariant-loop-it : goal.invariant-loop-it
invariant-loop-it l = map emitted_function l.low ≡ l.functions ++ map emitted_function (drop l.it-index l.low)
