use Rattle.std.proofs.Common.{◌≡◌, ◌++◌, drop}
use Rattle.wasm_emit.specs.Emit.{imports_named}
use Rattle.wasm_emit.proofs.interface.imports_of.Given as goal

abbrev pub invariant-loop-place : goal.invariant-loop-place
invariant-loop-place l = imports_named 0 l.functions ≡ l.imports ++ imports_named l.place (drop l.place l.functions)
