use Rattle.std.proofs.Common.{◌≡◌, take}
use Rattle.std.specs.Prelude.{map}
use Rattle.wasm_layout.specs.Arities.{arity_of}
use Rattle.wasm_layout.proofs.arity.type_arities.Given as goal

abbrev pub invariant-loop-signature : goal.invariant-loop-signature
invariant-loop-signature l = l.arities.items ≡ map arity_of (take l.signature-index l.types)
