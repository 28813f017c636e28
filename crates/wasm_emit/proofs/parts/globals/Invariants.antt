use Rattle.std.proofs.Common.{◌≡◌, ◌++◌, drop, map}
use Rattle.wasm_emit.specs.Emit.{emitted_global}
use Rattle.wasm_emit.proofs.parts.globals.Given as goal

abbrev pub invariant-loop-it : goal.invariant-loop-it
invariant-loop-it l = map emitted_global l.low ≡ l.globals ++ map emitted_global (drop l.it-index l.low)
