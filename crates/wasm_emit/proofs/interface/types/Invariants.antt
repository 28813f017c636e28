use Rattle.std.proofs.Common.{◌≡◌, ◌++◌, take}
use Rattle.wasm_emit.proofs.interface.types.Given as goal

abbrev pub invariant-loop-t : goal.invariant-loop-t
invariant-loop-t l = l.types ≡ l.initial.types ++ take l.t-index l.own
