use Rattle.std.proofs.Common.{◌≡◌, ◌++◌, drop, map}
use Rattle.wasm_valid.proofs.signatures.push_defined.Given as goal

abbrev pub invariant-loop-function : goal.invariant-loop-function
invariant-loop-function l = l.indices.items ++ map (λ f. f.signature) (drop l.function-index l.functions) ≡ l.fn.indices.items ++ map (λ f. f.signature) l.functions
