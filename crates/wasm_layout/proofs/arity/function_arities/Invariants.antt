use Rattle.std.proofs.Common.{◌≡◌, ◌++◌, drop}
use Rattle.std.specs.Prelude.{map}
use Rattle.wasm_tree.specs.Rules.{imported_signatures}
use Rattle.wasm_layout.specs.Arities.{arity_at, of_functions}
use Rattle.wasm_layout.proofs.arity.function_arities.Given as goal

abbrev pub invariant-loop-import : goal.invariant-loop-import
invariant-loop-import l =
    l.arities.items ++ map (arity_at l.types) (imported_signatures (drop l.import-index l.import-items)) ≡ map (arity_at l.types) (imported_signatures l.«module».imports)

abbrev pub invariant-loop-function : goal.invariant-loop-function
invariant-loop-function l =
    l.arities.items ++ map (arity_at l.types) (map (λ f. f.signature) (drop l.function-index l.function-items)) ≡ of_functions l.types l.«module»
