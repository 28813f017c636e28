use Rattle.std.proofs.Common.{◌≡◌, ◌++◌, drop, map}
use Rattle.canister_host.specs.Types.{type_of_function}
use Rattle.wasm_emit.proofs.interface.types_of.Given as goal

abbrev pub invariant-loop-function : goal.invariant-loop-function
invariant-loop-function l = map type_of_function l.functions ≡ l.types ++ map type_of_function (drop l.function-index l.functions)
