-- The check of a function.
use Rattle.std.specs.Prelude.{ℕ, List, [], ◌++◌, None, slice_get}
use Rattle.wasm_tree.specs.declared.rule.Rule.TheVariants as rule
use Rattle.wasm_tree.specs.declared.module_parts.Function.{Function}
use Rattle.wasm_tree.specs.declared.module_parts.Module.{Module}
use Rattle.wasm_tree.specs.Rules.{grouped}
use Rattle.wasm_valid.specs.Verdict.{Verdict, with_found}
use Rattle.wasm_valid.specs.Body.{fresh, run}

abbrev pub function_run : Module → List ℕ → Function → Verdict
function_run m signatures f =
    with_found rule.Index (slice_get m.types f.signature) (λ t. run m signatures (t.params ++ grouped f.locals) (slice_get t.results 0) f.body None [] fresh)
